-- The rows of constraints are eliminated from their coupling, from row 1 on. Only entries (q, t) with t no later than q are spoken of, since the coupling
-- is symmetric.
use Rattle.std.specs.Prelude.{ℕ, suc, ◌<◌, ◌≤◌}
use Rattle.rb_bordered.specs.Steps.{RowSteps, IsRow}

module _ {A : Type 0} (s : RowSteps A) (R : ℕ) where
  -- table r is what is left of the coupling when the rows 1 to r are gone. Row r + 1 has its pivot C and the quotients l of its column by the pivot; then
  -- each later entry (q, t) is lessened by the quotient of the later row q times what the earlier row t had in this column.
  pub record AreEliminated (coupling : ℕ → ℕ → A) (table : ℕ → ℕ → ℕ → A) (l : ℕ → ℕ → A) (C : ℕ → A) : Type 0 where
    pub first : (q t : ℕ) → IsRow R q → IsRow q t → s.steps.Equal (table 0 q t) (coupling q t)
    pub pivots : (r : ℕ) → r < R → s.steps.Equal (C (suc r)) (table r (suc r) (suc r))
    pub quotients : (r q : ℕ) → suc r < q → q ≤ R → s.steps.IsQuotient (table r q (suc r)) (C (suc r)) (l q (suc r))
    pub updates : (r q t : ℕ) → suc r < t → t ≤ q → q ≤ R → s.steps.IsLessened (table r q t) (l q (suc r)) (table r t (suc r)) (table (suc r) q t)
