-- What is known of the bordered equations, over exact fractions.
use Rattle.std.specs.Prelude.{ℕ, suc, ◌<◌}
use Rattle.rb_frac.specs.Ops.{sum}
use Rattle.rb_frac.specs.Frac.{Frac, Same, fracs, add, mul}
use Rattle.rb_elimination.specs.Paths.{IsRegular}
use Rattle.rb_elimination.specs.Factors.{fraction_steps}
use Rattle.rb_elimination.specs.Solving.{IsFound}
use Rattle.rb_elimination.specs.Product.{HasFactors}
use Rattle.rb_elimination.specs.Laws.{ArePivots}
use Rattle.rb_bordered.specs.Steps.{fraction_row_steps, IsRow}
use Rattle.rb_bordered.specs.Coupling.{AreRowsReduced, AreCoupled}
use Rattle.rb_bordered.specs.Forces.{HaveRowFactors, HaveRigidFactors, AreForcesFound, IsFoundWithForces}
use Rattle.rb_bordered.specs.Equations.{IsOneBorderedSolution}

-- ---- solutions
-- where no pivot of the table and none of the rows is zero, what is found is the one solution of the bordered equations
abbrev pub BorderedSolves : Type 0
BorderedSolves =
    (n : ℕ) (up : ℕ → ℕ) (R : ℕ) (m L : ℕ → ℕ → Frac) (D : ℕ → Frac) (J : ℕ → ℕ → Frac) (mu : ℕ → Frac) (Y l : ℕ → ℕ → Frac) (C k g w lam x : ℕ → Frac) →
    IsRegular n up → HasFactors n up m L D → ArePivots n D →
    HaveRowFactors fraction_row_steps n up R L D J mu Y l C → ArePivots R C →
    AreForcesFound fraction_row_steps n up R L D Y l C k g w lam → IsFoundWithForces fraction_row_steps n up R L D Y w lam x →
    IsOneBorderedSolution n R m J mu k g x lam

-- the same for rows without compliance
abbrev pub RigidBorderedSolves : Type 0
RigidBorderedSolves =
    (n : ℕ) (up : ℕ → ℕ) (R : ℕ) (m L : ℕ → ℕ → Frac) (D : ℕ → Frac) (J Y l : ℕ → ℕ → Frac) (C k g w lam x : ℕ → Frac) →
    IsRegular n up → HasFactors n up m L D → ArePivots n D →
    HaveRigidFactors fraction_row_steps n up R L D J Y l C → ArePivots R C →
    AreForcesFound fraction_row_steps n up R L D Y l C k g w lam → IsFoundWithForces fraction_row_steps n up R L D Y w lam x →
    IsOneBorderedSolution n R m J (λ r. fracs.nul) k g x lam

-- ---- the coupling
-- what row r of J has at the solution of the equations with row q as their right side is the coupling of the two rows, but for the compliance in a row's
-- own entry
pub record IsCoupling (n : ℕ) (up : ℕ → ℕ) (R : ℕ) (L : ℕ → ℕ → Frac) (D : ℕ → Frac) (J : ℕ → ℕ → Frac) (mu : ℕ → Frac) (G : ℕ → ℕ → Frac) : Type 0 where
  pub pairs : (q r : ℕ) → IsRow R q → IsRow R r → r < q → (x : ℕ → Frac) → IsFound fraction_steps n up L D (J r) x →
      Same (G q r) (sum fracs n (λ c. mul (J q (suc c)) (x (suc c))))
  pub own : (r : ℕ) → IsRow R r → (x : ℕ → Frac) → IsFound fraction_steps n up L D (J r) x →
      Same (G r r) (add (sum fracs n (λ c. mul (J r (suc c)) (x (suc c)))) (mu r))

abbrev pub CouplingIs : Type 0
CouplingIs =
    (n : ℕ) (up : ℕ → ℕ) (R : ℕ) (L : ℕ → ℕ → Frac) (D : ℕ → Frac) (J : ℕ → ℕ → Frac) (left : ℕ → ℕ → ℕ → Frac) (Y Z : ℕ → ℕ → Frac)
    (mu alone : ℕ → Frac) (G : ℕ → ℕ → Frac) → IsRegular n up →
    AreRowsReduced fraction_row_steps n up R L D J left Y Z → AreCoupled fraction_row_steps n up R Y Z mu alone G → IsCoupling n up R L D J mu G

-- two rows' factors of the same givens have the same pivots
abbrev pub RowPivotsAreOne : Type 0
RowPivotsAreOne =
    (n : ℕ) (up : ℕ → ℕ) (R : ℕ) (L : ℕ → ℕ → Frac) (D : ℕ → Frac) (J : ℕ → ℕ → Frac) (mu : ℕ → Frac) (Y l : ℕ → ℕ → Frac) (C : ℕ → Frac)
    (Y' l' : ℕ → ℕ → Frac) (C' : ℕ → Frac) → IsRegular n up →
    HaveRowFactors fraction_row_steps n up R L D J mu Y l C → HaveRowFactors fraction_row_steps n up R L D J mu Y' l' C' →
    (r : ℕ) → IsRow R r → Same (C r) (C' r)

-- ---- there are numbers of which all this is said
-- the factors of rows, and what they find for the right sides k and g
pub record IsBorderedFound (n : ℕ) (up : ℕ → ℕ) (R : ℕ) (L : ℕ → ℕ → Frac) (D : ℕ → Frac) (J : ℕ → ℕ → Frac) (mu k g : ℕ → Frac) : Type 0 where
  pub Y : ℕ → ℕ → Frac
  pub l : ℕ → ℕ → Frac
  pub C : ℕ → Frac
  pub w : ℕ → Frac
  pub lam : ℕ → Frac
  pub x : ℕ → Frac
  pub factors : HaveRowFactors fraction_row_steps n up R L D J mu Y l C
  pub forces : AreForcesFound fraction_row_steps n up R L D Y l C k g w lam
  pub found : IsFoundWithForces fraction_row_steps n up R L D Y w lam x

abbrev pub BorderedExists : Type 0
BorderedExists =
    (n : ℕ) (up : ℕ → ℕ) (R : ℕ) (L : ℕ → ℕ → Frac) (D : ℕ → Frac) (J : ℕ → ℕ → Frac) (mu k g : ℕ → Frac) → IsRegular n up →
    IsBorderedFound n up R L D J mu k g
