-- The forces of rows of constraints, by the eliminated coupling, and what they add to the solution.
use Rattle.std.specs.Prelude.{ℕ, suc, ◌<◌, ◌≤◌}
use Rattle.rb_elimination.specs.Paths.{IsColumn}
use Rattle.rb_elimination.specs.Solving.{IsReduced, IsDivided, IsSubstituted}
use Rattle.rb_bordered.specs.Steps.{RowSteps, IsRow}
use Rattle.rb_bordered.specs.Coupling.{AreRowsReduced, AreCoupled, AreRigidlyCoupled}
use Rattle.rb_bordered.specs.Elimination.{AreEliminated}

-- ---- by the eliminated coupling
module _ {A : Type 0} (s : RowSteps A) (R : ℕ) where
  -- the rows are taken from the right side e, from row 1 on: left r is what is left when the rows 1 to r have been taken, and reduced what each row has
  -- when its turn comes
  pub record IsRightReduced (l : ℕ → ℕ → A) (e : ℕ → A) (left : ℕ → ℕ → A) (reduced : ℕ → A) : Type 0 where
    pub first : (r : ℕ) → IsRow R r → s.steps.Equal (left 0 r) (e r)
    pub result : (r : ℕ) → r < R → s.steps.Equal (reduced (suc r)) (left r (suc r))
    pub updates : (r q : ℕ) → suc r < q → q ≤ R → s.steps.IsLessened (left r q) (l q (suc r)) (reduced (suc r)) (left (suc r) q)

  -- and divided by the pivots
  abbrev pub IsRightDivided : (ℕ → A) → (ℕ → A) → (ℕ → A) → Type 0
  IsRightDivided C reduced divided = (r : ℕ) → IsRow R r → s.steps.IsQuotient (reduced r) (C r) (divided r)

  -- from the last row down, the forces of the later rows are taken, in their order: part r q is what is left of row r before row q has its turn, and
  -- part r (R + 1) after all
  pub record AreForces (l : ℕ → ℕ → A) (divided : ℕ → A) (part : ℕ → ℕ → A) (lam : ℕ → A) : Type 0 where
    pub first : (r : ℕ) → IsRow R r → s.steps.Equal (part r (suc r)) (divided r)
    pub result : (r : ℕ) → IsRow R r → s.steps.Equal (lam r) (part r (suc R))
    pub updates : (r q : ℕ) → IsRow R r → r < q → q ≤ R → s.steps.IsLessened (part r q) (l q r) (lam q) (part r (suc q))

-- ---- between rows and columns
module _ {A : Type 0} (s : RowSteps A) (n R : ℕ) where
  -- the right side e of the forces: the negative of g and of what the rows have at z, the solution without forces
  pub record AreRowSides (Y : ℕ → ℕ → A) (z g without total e : ℕ → A) : Type 0 where
    pub sums : (r : ℕ) → IsRow R r → s.IsSumOfProducts n (Y r) z (without r)
    pub totals : (r : ℕ) → IsRow R r → s.IsSum (g r) (without r) (total r)
    pub negatives : (r : ℕ) → IsRow R r → s.IsNegative (total r) (e r)

  -- what the forces add to w
  pub record AreForcesAdded (Y : ℕ → ℕ → A) (w lam more added : ℕ → A) : Type 0 where
    pub sums : (c : ℕ) → IsColumn n c → s.IsSumOfProducts R (λ r. Y r c) lam (more c)
    pub totals : (c : ℕ) → IsColumn n c → s.IsSum (w c) (more c) (added c)

-- ---- all steps
module _ {A : Type 0} (s : RowSteps A) (n : ℕ) (up : ℕ → ℕ) (R : ℕ) (L : ℕ → ℕ → A) (D : ℕ → A) where
  -- the rows of J with the compliances mu have these Y, quotients l and pivots C
  pub record HaveRowFactors (J : ℕ → ℕ → A) (mu : ℕ → A) (Y l : ℕ → ℕ → A) (C : ℕ → A) : Type 0 where
    pub left : ℕ → ℕ → ℕ → A
    pub Z : ℕ → ℕ → A
    pub alone : ℕ → A
    pub G : ℕ → ℕ → A
    pub table : ℕ → ℕ → ℕ → A
    pub reduced : AreRowsReduced s n up R L D J left Y Z
    pub coupled : AreCoupled s n up R Y Z mu alone G
    pub eliminated : AreEliminated s R G table l C

  -- the same for rows without compliance
  pub record HaveRigidFactors (J Y l : ℕ → ℕ → A) (C : ℕ → A) : Type 0 where
    pub left : ℕ → ℕ → ℕ → A
    pub Z : ℕ → ℕ → A
    pub G : ℕ → ℕ → A
    pub table : ℕ → ℕ → ℕ → A
    pub reduced : AreRowsReduced s n up R L D J left Y Z
    pub coupled : AreRigidlyCoupled s n up R Y Z G
    pub eliminated : AreEliminated s R G table l C

  -- lam is found by these from the right sides k and g
  pub record AreForcesFound (Y l : ℕ → ℕ → A) (C k g w lam : ℕ → A) : Type 0 where
    pub left : ℕ → ℕ → A
    pub z : ℕ → A
    pub without : ℕ → A
    pub total : ℕ → A
    pub e : ℕ → A
    pub row_left : ℕ → ℕ → A
    pub row_reduced : ℕ → A
    pub row_divided : ℕ → A
    pub row_part : ℕ → ℕ → A
    pub reduced : IsReduced s.steps n up L k left w
    pub divided : IsDivided s.steps n up D w z
    pub sides : AreRowSides s n R Y z g without total e
    pub right_reduced : IsRightReduced s R l e row_left row_reduced
    pub right_divided : IsRightDivided s R C row_reduced row_divided
    pub forces : AreForces s R l row_divided row_part lam

  -- and x is found with these forces
  pub record IsFoundWithForces (Y : ℕ → ℕ → A) (w lam x : ℕ → A) : Type 0 where
    pub more : ℕ → A
    pub added : ℕ → A
    pub z : ℕ → A
    pub part : ℕ → ℕ → A
    pub adds : AreForcesAdded s n R Y w lam more added
    pub divided : IsDivided s.steps n up D added z
    pub substituted : IsSubstituted s.steps n up L z part x
