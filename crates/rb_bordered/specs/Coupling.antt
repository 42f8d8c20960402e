-- How rows of constraints on a table with factors L and D act on one another: the table J of the rows, the inverse of the table with these factors, and J
-- transposed multiply out to their coupling. Featherstone, Rigid Body Dynamics Algorithms, chapter 8.
use Rattle.std.specs.Prelude.{ℕ, ◌<◌}
use Rattle.rb_elimination.specs.Solving.{IsReduced, IsDivided}
use Rattle.rb_bordered.specs.Steps.{RowSteps, IsRow}

module _ {A : Type 0} (s : RowSteps A) (n : ℕ) (up : ℕ → ℕ) (R : ℕ) where
  -- Y r is row r of J with L transposed undone, and Z r is Y r with D undone; left r is what is left of row r under way
  pub record AreRowsReduced (L : ℕ → ℕ → A) (D : ℕ → A) (J : ℕ → ℕ → A) (left : ℕ → ℕ → ℕ → A) (Y Z : ℕ → ℕ → A) : Type 0 where
    pub reduced : (r : ℕ) → IsRow R r → IsReduced s.steps n up L (J r) (left r) (Y r)
    pub divided : (r : ℕ) → IsRow R r → IsDivided s.steps n up D (Y r) (Z r)

  -- G is the coupling of the rows: G q r, with r no later than q, is the sum over the columns of Y r times Z q, and the compliance mu of a row is added
  -- to its own entry. alone r is this entry before.
  pub record AreCoupled (Y Z : ℕ → ℕ → A) (mu alone : ℕ → A) (G : ℕ → ℕ → A) : Type 0 where
    pub pairs : (q r : ℕ) → IsRow R q → IsRow R r → r < q → s.IsSumOfProducts n (Y r) (Z q) (G q r)
    pub own : (r : ℕ) → IsRow R r → s.IsSumOfProducts n (Y r) (Z r) (alone r)
    pub compliant : (r : ℕ) → IsRow R r → s.IsSum (alone r) (mu r) (G r r)

  -- the coupling of rows without compliance, as at an impact
  pub record AreRigidlyCoupled (Y Z G : ℕ → ℕ → A) : Type 0 where
    pub pairs : (q r : ℕ) → IsRow R q → IsRow R r → r < q → s.IsSumOfProducts n (Y r) (Z q) (G q r)
    pub own : (r : ℕ) → IsRow R r → s.IsSumOfProducts n (Y r) (Z r) (G r r)
