-- The rules of inertias, over any numbers. Featherstone, Rigid Body Dynamics Algorithms, chapter 2.
use Rattle.std.specs.Prelude.{ℕ, [], ◌∷◌}
use Rattle.rb_frac.specs.Ops.{V3}
use Rattle.rb_frac.specs.Tables.{Table, Symmetric, transpose, full, cross_table}
use Rattle.rb_frac.specs.Spatial.{Motion, Force, BodyInertia, Inertia, Motions, Forces, BodyInertias, Inertias, entry}
use Rattle.rb_num.specs.Interval.{Interval}
use Rattle.rb_num.specs.Fraction.{LiesIn}
use Rattle.rb_num.specs.Arith.{Arith, fractions, signs_of}
use Rattle.rb_spatial.specs.Encloses.{Encloses, EnclosesTwo, EnclosesThree}
use Rattle.rb_spatial.specs.Motions.{pairs, six_pairs, three, three_rows, six, two, sum_vector}

module _ (R : Arith) where
  abbrev pub blocks : R.M (Symmetric R.N) → R.M (Table R.N) → R.M (Symmetric R.N) → R.M (Inertia R.N)
  blocks a b c = R.bind a (λ s. R.bind b (λ t. R.bind c (λ u. R.ret (record { a = s; b = t; c = u }))))

  -- two tables side by side times two vectors
  unfoldable pub mul_both : Table R.N → Table R.N → V3 R.N → V3 R.N → R.M (V3 R.N)
  mul_both s t u w =
      three R (R.dot (six_pairs s.x u t.x w)) (R.dot (six_pairs s.y u t.y w)) (R.dot (six_pairs s.z u t.z w))

  -- the mass times the identity, minus the table of h x, and the six numbers
  unfoldable pub table : BodyInertia R.N → Inertia R.N
  table i = record {
    a = record { xx = i.mass; xy = R.zero; xz = R.zero; yy = i.mass; yz = R.zero; zz = i.mass };
    b = transpose (cross_table (signs_of R) i.first);
    c = i.six;
  }

  unfoldable pub times : Inertia R.N → Motion R.N → R.M (Force R.N)
  times i m = two R (mul_both (full i.a) i.b m.lin m.ang) (mul_both (transpose i.b) (full i.c) m.lin m.ang)

  -- the two parts of a body's force: m lin + ang x h, and h x lin + J ang
  unfoldable pub body_force : BodyInertia R.N → Motion R.N → R.M (V3 R.N)
  body_force i m =
      three R
      (R.dot ((i.mass, m.lin.x) ∷ (i.first.z, m.ang.y) ∷ (R.neg i.first.y, m.ang.z) ∷ []))
      (R.dot ((i.mass, m.lin.y) ∷ (R.neg i.first.z, m.ang.x) ∷ (i.first.x, m.ang.z) ∷ []))
      (R.dot ((i.mass, m.lin.z) ∷ (i.first.y, m.ang.x) ∷ (R.neg i.first.x, m.ang.y) ∷ []))

  unfoldable pub body_moment : BodyInertia R.N → Motion R.N → R.M (V3 R.N)
  body_moment i m =
      let six = full i.six in
      three R
      (R.dot ((R.neg i.first.z, m.lin.y) ∷ (i.first.y, m.lin.z) ∷ pairs six.x m.ang))
      (R.dot ((i.first.z, m.lin.x) ∷ (R.neg i.first.x, m.lin.z) ∷ pairs six.y m.ang))
      (R.dot ((R.neg i.first.y, m.lin.x) ∷ (i.first.x, m.lin.y) ∷ pairs six.z m.ang))

  unfoldable pub sum_table : Table R.N → Table R.N → R.M (Table R.N)
  sum_table s t = three_rows R (sum_vector R s.x t.x) (sum_vector R s.y t.y) (sum_vector R s.z t.z)

  unfoldable pub sum_symmetric : Symmetric R.N → Symmetric R.N → R.M (Symmetric R.N)
  sum_symmetric s t =
      six R (R.add s.xx t.xx) (R.add s.xy t.xy) (R.add s.xz t.xz) (R.add s.yy t.yy) (R.add s.yz t.yz) (R.add s.zz t.zz)

  -- entry by entry
  unfoldable pub sum : Inertia R.N → Inertia R.N → R.M (Inertia R.N)
  sum i j = blocks (sum_symmetric i.a j.a) (sum_table i.b j.b) (sum_symmetric i.c j.c)

  -- i - u w
  abbrev pub less : R.N → R.N → R.N → R.M R.N
  less i u w = R.dot ((i, R.one) ∷ (R.neg u, w) ∷ [])

  unfoldable pub less_vector : V3 R.N → R.N → V3 R.N → R.M (V3 R.N)
  less_vector i u w = three R (less i.x u w.x) (less i.y u w.y) (less i.z u w.z)

  unfoldable pub less_table : Table R.N → V3 R.N → V3 R.N → R.M (Table R.N)
  less_table i u w = three_rows R (less_vector i.x u.x w) (less_vector i.y u.y w) (less_vector i.z u.z w)

  unfoldable pub less_symmetric : Symmetric R.N → V3 R.N → V3 R.N → R.M (Symmetric R.N)
  less_symmetric i u w =
      six R
      (less i.xx u.x w.x)
      (less i.xy u.x w.y)
      (less i.xz u.x w.z)
      (less i.yy u.y w.y)
      (less i.yz u.y w.z)
      (less i.zz u.z w.z)

  -- I - U W^T, on and above the diagonal
  unfoldable pub less_outer : Inertia R.N → Force R.N → Force R.N → R.M (Inertia R.N)
  less_outer i u w =
      blocks (less_symmetric i.a u.lin w.lin) (less_table i.b u.lin w.ang) (less_symmetric i.c u.ang w.ang)

-- ---- what encloses them
abbrev pub EnclosesEntry : ℕ → ℕ → Inertia Interval → Interval → Type 0
EnclosesEntry r c i v = Encloses (Inertias LiesIn) LiesIn (λ p. entry p r c) i v

abbrev pub EnclosesTable : BodyInertia Interval → Inertia Interval → Type 0
EnclosesTable i r = Encloses (BodyInertias LiesIn) (Inertias LiesIn) (table fractions) i r

abbrev pub EnclosesTimes : Inertia Interval → Motion Interval → Force Interval → Type 0
EnclosesTimes i m r = EnclosesTwo (Inertias LiesIn) (Motions LiesIn) (Forces LiesIn) (times fractions) i m r

abbrev pub EnclosesTimesBody : BodyInertia Interval → Motion Interval → Force Interval → Type 0
EnclosesTimesBody i m r =
    EnclosesTwo (BodyInertias LiesIn) (Motions LiesIn) (Forces LiesIn) (λ p q. times fractions (table fractions p) q) i m r

abbrev pub EnclosesSum : Inertia Interval → Inertia Interval → Inertia Interval → Type 0
EnclosesSum i j r = EnclosesTwo (Inertias LiesIn) (Inertias LiesIn) (Inertias LiesIn) (sum fractions) i j r

abbrev pub EnclosesLessOuter : Inertia Interval → Force Interval → Force Interval → Inertia Interval → Type 0
EnclosesLessOuter i u w r = EnclosesThree (Inertias LiesIn) (Forces LiesIn) (Forces LiesIn) (Inertias LiesIn) (less_outer fractions) i u w r
