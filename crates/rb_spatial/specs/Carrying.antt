-- The rules of products of tables, and of an inertia carried to the parent, over any numbers. Featherstone, Rigid Body Dynamics
-- Algorithms, chapter 2.
use Rattle.std.specs.Prelude.{List, [], ◌∷◌}
use Rattle.rb_frac.specs.Ops.{V3}
use Rattle.rb_frac.specs.Tables.{Table, Symmetric, Tables, Symmetrics, transpose, full, cross_table}
use Rattle.rb_frac.specs.Spatial.{Place, Inertia, Places, Inertias}
use Rattle.rb_num.specs.Interval.{Interval}
use Rattle.rb_num.specs.Fraction.{LiesIn}
use Rattle.rb_num.specs.Arith.{Arith, fractions, signs_of}
use Rattle.rb_spatial.specs.Encloses.{EnclosesTwo}
use Rattle.rb_spatial.specs.Motions.{pairs, three, three_rows, six}

module _ (R : Arith) where
  -- ---- products of tables
  -- the vector, as a row, times the table of these columns
  unfoldable pub row_mul : V3 R.N → Table R.N → R.M (V3 R.N)
  row_mul v columns = three R (R.dot (pairs v columns.x)) (R.dot (pairs v columns.y)) (R.dot (pairs v columns.z))

  unfoldable pub product : Table R.N → Table R.N → R.M (Table R.N)
  product s t =
      let columns = transpose t in
      three_rows R (row_mul s.x columns) (row_mul s.y columns) (row_mul s.z columns)

  -- the entries of a symmetric product on and above the diagonal; `columns` has those of the second factor
  unfoldable pub upper_product : Table R.N → Table R.N → R.M (Symmetric R.N)
  upper_product s columns =
      six R
      (R.dot (pairs s.x columns.x))
      (R.dot (pairs s.x columns.y))
      (R.dot (pairs s.x columns.z))
      (R.dot (pairs s.y columns.y))
      (R.dot (pairs s.y columns.z))
      (R.dot (pairs s.z columns.z))

  -- ---- an inertia carried to the parent
  -- the pairs of b - v w
  abbrev pub less_pairs : R.N → V3 R.N → V3 R.N → List (R.N × R.N)
  less_pairs b v w = (b, R.one) ∷ (R.neg v.x, w.x) ∷ (R.neg v.y, w.y) ∷ (R.neg v.z, w.z) ∷ []

  -- b - v t, where v is a row and t has these columns
  unfoldable pub less_row : V3 R.N → V3 R.N → Table R.N → R.M (V3 R.N)
  less_row b v columns =
      three R (R.dot (less_pairs b.x v columns.x)) (R.dot (less_pairs b.y v columns.y)) (R.dot (less_pairs b.z v columns.z))

  -- B - A R
  unfoldable pub less_product : Table R.N → Table R.N → Table R.N → R.M (Table R.N)
  less_product b a r =
      let columns = transpose r in
      three_rows R (less_row b.x a.x columns) (less_row b.y a.y columns) (less_row b.z a.z columns)

  -- c + u p - w q
  abbrev pub corrected : R.N → V3 R.N → V3 R.N → V3 R.N → V3 R.N → R.M R.N
  corrected c u p w q =
      R.dot ((c, R.one) ∷ (u.x, p.x) ∷ (u.y, p.y) ∷ (u.z, p.z) ∷ (R.neg w.x, q.x) ∷ (R.neg w.y, q.y) ∷ (R.neg w.z, q.z) ∷ [])

  -- C + R B - B1^T R on and above the diagonal; `b`, `b1` and `columns` have the columns of B, B1 and R
  unfoldable pub correct : Symmetric R.N → Table R.N → Table R.N → Table R.N → Table R.N → R.M (Symmetric R.N)
  correct c r b b1 columns =
      six R
      (corrected c.xx r.x b.x b1.x columns.x)
      (corrected c.xy r.x b.y b1.x columns.y)
      (corrected c.xz r.x b.z b1.x columns.z)
      (corrected c.yy r.y b.y b1.y columns.y)
      (corrected c.yz r.y b.z b1.y columns.z)
      (corrected c.zz r.z b.z b1.z columns.z)

  -- E^T (A E) for a symmetric A, the inner product first
  unfoldable pub turn_symmetric : Table R.N → Symmetric R.N → R.M (Symmetric R.N)
  turn_symmetric e a = R.bind (product (full a) e) (λ p. upper_product (transpose e) (transpose p))

  -- E^T (B E), the inner product first
  unfoldable pub turn_table : Table R.N → Table R.N → R.M (Table R.N)
  turn_table e b = R.bind (product b e) (λ p. product (transpose e) p)

  -- with A1, B1 and C1 turned by E: A1, B = B1 - A1 R and C1 + R B - B1^T R
  unfoldable pub carry : Place R.N → Inertia R.N → R.M (Inertia R.N)
  carry x i =
      let r = cross_table (signs_of R) x.r in
      R.bind (turn_symmetric x.e i.a) (λ a.
      R.bind (turn_table x.e i.b) (λ b1.
      R.bind (turn_symmetric x.e i.c) (λ c1.
      R.bind (less_product b1 (full a) r) (λ b.
      R.bind (correct c1 r (transpose b) (transpose b1) (transpose r)) (λ c.
      R.ret (record { a = a; b = b; c = c }))))))

-- ---- what encloses them
abbrev pub EnclosesProduct : Table Interval → Table Interval → Table Interval → Type 0
EnclosesProduct s t r = EnclosesTwo (Tables LiesIn) (Tables LiesIn) (Tables LiesIn) (product fractions) s t r

abbrev pub EnclosesUpperProduct : Table Interval → Table Interval → Symmetric Interval → Type 0
EnclosesUpperProduct s columns r =
    EnclosesTwo (Tables LiesIn) (Tables LiesIn) (Symmetrics LiesIn) (upper_product fractions) s columns r

abbrev pub EnclosesCarry : Place Interval → Inertia Interval → Inertia Interval → Type 0
EnclosesCarry x i r = EnclosesTwo (Places LiesIn) (Inertias LiesIn) (Inertias LiesIn) (carry fractions) x i r
