-- A worked example: column 1 at the root, and columns 2 and 3 next to it. Column 3 of the table
--   4  1  3
--   1  2  0
--   3  0  3
-- has the pivot 3, and its row is taken once from that of column 1, which leaves 1 at (1, 1). Column 2 has the pivot 2, and half its row is taken from
-- that of column 1, which leaves 1/2. So the right side 15, 5, 12 is reduced to 1/2, 5, 12, and divided by the pivots to 1, 5/2, 4. Once its half of 1
-- and its one time 1 are taken, 1, 2, 3 solve the equations.
use Rattle.std.specs.Prelude.{ℕ, zero, suc, pos}
use Rattle.rb_frac.specs.Frac.{Frac, whole, quot}
use Rattle.rb_elimination.specs.Factors.{fraction_steps}
use Rattle.rb_elimination.specs.Solving.{IsReduced, IsDivided, IsSubstituted}
use Rattle.rb_elimination.specs.Laws.{ArePivots, IsFactored}

abbrev pub above : ℕ → ℕ
above (suc (suc zero)) = 1
above (suc (suc (suc zero))) = 1
above c = 0

-- the numbers of columns 1, 2 and 3
abbrev pub by_column : Frac → Frac → Frac → ℕ → Frac
by_column x y z (suc zero) = x
by_column x y z (suc (suc zero)) = y
by_column x y z (suc (suc (suc zero))) = z
by_column x y z c = whole (pos 0)

abbrev pub number : ℕ → Frac
number k = whole (pos k)

abbrev pub half : ℕ → Frac
half k = quot (number k) (number 2)

-- the table with this number at (1, 1)
abbrev pub corner : Frac → ℕ → ℕ → Frac
corner x c d = by_column (by_column x (number 1) (number 3) d) (by_column (number 1) (number 2) (number 0) d) (by_column (number 3) (number 0) (number 3) d) c

abbrev pub table : ℕ → ℕ → ℕ → Frac
table c = corner (by_column (half 1) (number 1) (number 4) c)

abbrev pub L : ℕ → ℕ → Frac
L c d = by_column (number 0) (half 1) (number 1) c

abbrev pub D : ℕ → Frac
D = by_column (half 1) (number 2) (number 3)

abbrev pub right : ℕ → Frac
right = by_column (number 15) (number 5) (number 12)

abbrev pub left : ℕ → ℕ → Frac
left c = by_column (by_column (half 1) (number 3) (number 15) c) (number 5) (number 12)

abbrev pub w : ℕ → Frac
w = by_column (half 1) (number 5) (number 12)

abbrev pub z : ℕ → Frac
z = by_column (number 1) (half 5) (number 4)

abbrev pub x : ℕ → Frac
x = by_column (number 1) (number 2) (number 3)

abbrev pub part : ℕ → ℕ → Frac
part c zero = x c
part c (suc d) = z c

pub record IsWorked : Type 0 where
  pub factored : IsFactored 3 above (corner (number 4)) table L D
  pub pivots : ArePivots 3 D
  pub reduced : IsReduced fraction_steps 3 above L right left w
  pub divided : IsDivided fraction_steps 3 above D w z
  pub substituted : IsSubstituted fraction_steps 3 above L z part x
