-- The rules of vectors, motions and forces, over any numbers. Featherstone, Rigid Body Dynamics Algorithms, chapter 2.
use Rattle.std.specs.Prelude.{List, [], ◌∷◌}
use Rattle.rb_frac.specs.Ops.{V3}
use Rattle.rb_frac.specs.Tables.{Table, Symmetric, Vectors, Tables, transpose}
use Rattle.rb_frac.specs.Spatial.{Spatial, Motion, Force, Place, Spatials, Motions, Forces, Places}
use Rattle.rb_num.specs.Interval.{Interval}
use Rattle.rb_num.specs.Fraction.{LiesIn}
use Rattle.rb_num.specs.Arith.{Arith, fractions}
use Rattle.rb_spatial.specs.Encloses.{EnclosesTwo, EnclosesThree, EnclosesFour}

-- the pairs of a product of two vectors
abbrev pub pairs : {N : Type 0} → V3 N → V3 N → List (N × N)
pairs u w = (u.x, w.x) ∷ (u.y, w.y) ∷ (u.z, w.z) ∷ []

-- the pairs of a product of two vectors of six, (u, w) and (p, q)
abbrev pub six_pairs : {N : Type 0} → V3 N → V3 N → V3 N → V3 N → List (N × N)
six_pairs u p w q = (u.x, p.x) ∷ (u.y, p.y) ∷ (u.z, p.z) ∷ (w.x, q.x) ∷ (w.y, q.y) ∷ (w.z, q.z) ∷ []

module _ (R : Arith) where
  -- three answers, the first refusal first
  abbrev pub three : R.M R.N → R.M R.N → R.M R.N → R.M (V3 R.N)
  three a b c = R.bind a (λ x. R.bind b (λ y. R.bind c (λ z. R.ret (record { x = x; y = y; z = z }))))

  abbrev pub three_rows : R.M (V3 R.N) → R.M (V3 R.N) → R.M (V3 R.N) → R.M (Table R.N)
  three_rows a b c = R.bind a (λ x. R.bind b (λ y. R.bind c (λ z. R.ret (record { x = x; y = y; z = z }))))

  abbrev pub six : R.M R.N → R.M R.N → R.M R.N → R.M R.N → R.M R.N → R.M R.N → R.M (Symmetric R.N)
  six a b c d e f =
      R.bind a (λ xx. R.bind b (λ xy. R.bind c (λ xz. R.bind d (λ yy. R.bind e (λ yz. R.bind f (λ zz.
      R.ret (record { xx = xx; xy = xy; xz = xz; yy = yy; yz = yz; zz = zz })))))))

  abbrev pub two : R.M (V3 R.N) → R.M (V3 R.N) → R.M (Spatial R.N)
  two a b = R.bind a (λ lin. R.bind b (λ ang. R.ret (record { lin = lin; ang = ang })))

  -- ---- vectors
  -- u x w
  unfoldable pub cross3 : V3 R.N → V3 R.N → R.M (V3 R.N)
  cross3 u w =
      three
      (R.dot ((u.y, w.z) ∷ (R.neg u.z, w.y) ∷ []))
      (R.dot ((u.z, w.x) ∷ (R.neg u.x, w.z) ∷ []))
      (R.dot ((u.x, w.y) ∷ (R.neg u.y, w.x) ∷ []))

  -- u x w + s x t
  unfoldable pub cross_twice : V3 R.N → V3 R.N → V3 R.N → V3 R.N → R.M (V3 R.N)
  cross_twice u w s t =
      three
      (R.dot ((u.y, w.z) ∷ (R.neg u.z, w.y) ∷ (s.y, t.z) ∷ (R.neg s.z, t.y) ∷ []))
      (R.dot ((u.z, w.x) ∷ (R.neg u.x, w.z) ∷ (s.z, t.x) ∷ (R.neg s.x, t.z) ∷ []))
      (R.dot ((u.x, w.y) ∷ (R.neg u.y, w.x) ∷ (s.x, t.y) ∷ (R.neg s.y, t.x) ∷ []))

  -- n + u x w
  unfoldable pub plus_cross : V3 R.N → V3 R.N → V3 R.N → R.M (V3 R.N)
  plus_cross n u w =
      three
      (R.dot ((n.x, R.one) ∷ (u.y, w.z) ∷ (R.neg u.z, w.y) ∷ []))
      (R.dot ((n.y, R.one) ∷ (u.z, w.x) ∷ (R.neg u.x, w.z) ∷ []))
      (R.dot ((n.z, R.one) ∷ (u.x, w.y) ∷ (R.neg u.y, w.x) ∷ []))

  -- k v
  unfoldable pub multiple : R.N → V3 R.N → R.M (V3 R.N)
  multiple k v = three (R.dot ((k, v.x) ∷ [])) (R.dot ((k, v.y) ∷ [])) (R.dot ((k, v.z) ∷ []))

  unfoldable pub sum_vector : V3 R.N → V3 R.N → R.M (V3 R.N)
  sum_vector u w = three (R.add u.x w.x) (R.add u.y w.y) (R.add u.z w.z)

  -- ---- tables of three rows
  -- the table times the vector
  unfoldable pub mul : Table R.N → V3 R.N → R.M (V3 R.N)
  mul t v = three (R.dot (pairs t.x v)) (R.dot (pairs t.y v)) (R.dot (pairs t.z v))

  -- ---- motions and forces
  -- (E (lin + ang x r), E ang)
  unfoldable pub apply : Place R.N → Motion R.N → R.M (Motion R.N)
  apply x m = R.bind (plus_cross m.lin m.ang x.r) (λ t. two (mul x.e t) (mul x.e m.ang))

  -- (E^T lin, E^T ang + r x E^T lin)
  unfoldable pub apply_dual : Place R.N → Force R.N → R.M (Force R.N)
  apply_dual x f =
      R.bind (mul (transpose x.e) f.lin) (λ g.
      R.bind (mul (transpose x.e) f.ang) (λ n.
      R.bind (plus_cross n x.r g) (λ ang. R.ret (record { lin = g; ang = ang }))))

  -- (a.ang x b.lin + a.lin x b.ang, a.ang x b.ang)
  unfoldable pub cross : Motion R.N → Motion R.N → R.M (Motion R.N)
  cross a b = two (cross_twice a.ang b.lin a.lin b.ang) (cross3 a.ang b.ang)

  -- (a.ang x f.lin, a.ang x f.ang + a.lin x f.lin)
  unfoldable pub cross_dual : Motion R.N → Force R.N → R.M (Force R.N)
  cross_dual a f = two (cross3 a.ang f.lin) (cross_twice a.ang f.ang a.lin f.lin)

  -- the motion's product with the force
  unfoldable pub power : Motion R.N → Force R.N → R.M R.N
  power m f = R.dot (six_pairs m.lin f.lin m.ang f.ang)

  -- part by part
  unfoldable pub sum_spatial : Spatial R.N → Spatial R.N → R.M (Spatial R.N)
  sum_spatial a b = two (sum_vector a.lin b.lin) (sum_vector a.ang b.ang)

-- ---- what encloses them
abbrev pub EnclosesCross3 : V3 Interval → V3 Interval → V3 Interval → Type 0
EnclosesCross3 u w r = EnclosesTwo (Vectors LiesIn) (Vectors LiesIn) (Vectors LiesIn) (cross3 fractions) u w r

abbrev pub EnclosesCrossTwice : V3 Interval → V3 Interval → V3 Interval → V3 Interval → V3 Interval → Type 0
EnclosesCrossTwice u w s t r = EnclosesFour (Vectors LiesIn) (Vectors LiesIn) (Vectors LiesIn) (Vectors LiesIn) (Vectors LiesIn) (cross_twice fractions) u w s t r

abbrev pub EnclosesPlusCross : V3 Interval → V3 Interval → V3 Interval → V3 Interval → Type 0
EnclosesPlusCross n u w r = EnclosesThree (Vectors LiesIn) (Vectors LiesIn) (Vectors LiesIn) (Vectors LiesIn) (plus_cross fractions) n u w r

abbrev pub EnclosesMultiple : Interval → V3 Interval → V3 Interval → Type 0
EnclosesMultiple k v r = EnclosesTwo LiesIn (Vectors LiesIn) (Vectors LiesIn) (multiple fractions) k v r

abbrev pub EnclosesSumVector : V3 Interval → V3 Interval → V3 Interval → Type 0
EnclosesSumVector u w r = EnclosesTwo (Vectors LiesIn) (Vectors LiesIn) (Vectors LiesIn) (sum_vector fractions) u w r

abbrev pub EnclosesMul : Table Interval → V3 Interval → V3 Interval → Type 0
EnclosesMul t v r = EnclosesTwo (Tables LiesIn) (Vectors LiesIn) (Vectors LiesIn) (mul fractions) t v r

abbrev pub EnclosesApply : Place Interval → Motion Interval → Motion Interval → Type 0
EnclosesApply x m r = EnclosesTwo (Places LiesIn) (Motions LiesIn) (Motions LiesIn) (apply fractions) x m r

abbrev pub EnclosesApplyDual : Place Interval → Force Interval → Force Interval → Type 0
EnclosesApplyDual x f r = EnclosesTwo (Places LiesIn) (Forces LiesIn) (Forces LiesIn) (apply_dual fractions) x f r

abbrev pub EnclosesCross : Motion Interval → Motion Interval → Motion Interval → Type 0
EnclosesCross a b r = EnclosesTwo (Motions LiesIn) (Motions LiesIn) (Motions LiesIn) (cross fractions) a b r

abbrev pub EnclosesCrossDual : Motion Interval → Force Interval → Force Interval → Type 0
EnclosesCrossDual a f r = EnclosesTwo (Motions LiesIn) (Forces LiesIn) (Forces LiesIn) (cross_dual fractions) a f r

abbrev pub EnclosesPower : Motion Interval → Force Interval → Interval → Type 0
EnclosesPower m f r = EnclosesTwo (Motions LiesIn) (Forces LiesIn) LiesIn (power fractions) m f r

abbrev pub EnclosesSumSpatial : Spatial Interval → Spatial Interval → Spatial Interval → Type 0
EnclosesSumSpatial a b r = EnclosesTwo (Spatials LiesIn) (Spatials LiesIn) (Spatials LiesIn) (sum_spatial fractions) a b r
