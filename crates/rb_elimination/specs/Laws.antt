-- What is known of factors on the paths of a tree, over exact fractions.
use Rattle.std.specs.Prelude.{◌≡◌, ◌↔◌, ℕ, zero, suc, ◌+◌, ◌<◌, pos}
use Rattle.rb_frac.specs.Frac.{Frac, Same, fracs}
use Rattle.rb_frac.specs.System.{eliminated, HasPivots, HasOneSolution}
use Rattle.rb_elimination.specs.Paths.{IsColumn, IsRegular, IsAncestor, IsOn, IsZeroOffPaths, IsSymmetric}
use Rattle.rb_elimination.specs.Factors.{fraction_steps, AreFactors}
use Rattle.rb_elimination.specs.Solving.{IsFound}
use Rattle.rb_elimination.specs.Product.{HasFactors, rows_of, IsOneSolution}

-- no pivot is zero
abbrev pub ArePivots : ℕ → (ℕ → Frac) → Type 0
ArePivots n D = (c : ℕ) → IsColumn n c → ¬ ((D c).num ≡ pos 0)

-- a table of the tree, and its factors
pub record IsFactored (n : ℕ) (up : ℕ → ℕ) (given : ℕ → ℕ → Frac) (table : ℕ → ℕ → ℕ → Frac) (L : ℕ → ℕ → Frac) (D : ℕ → Frac) : Type 0 where
  pub regular : IsRegular n up
  pub symmetric : IsSymmetric n given
  pub sparse : IsZeroOffPaths n up given
  pub factors : AreFactors fraction_steps n up given table L D

-- ---- the elimination on the paths is the elimination
-- a table whose columns are eliminated from the last on, with no regard to paths, when the first c are left and k are gone
unfoldable pub left_of : ℕ → ℕ → (ℕ → ℕ → Frac) → ℕ → ℕ → Frac
left_of c zero m = m
left_of c (suc k) m = left_of c k (eliminated (c + k) m)

-- the first c columns of the table m, which is numbered from 0, are symmetric, and have the numbers of t on the paths and zeros off them
pub record AgreesOnPaths (c : ℕ) (up : ℕ → ℕ) (m t : ℕ → ℕ → Frac) : Type 0 where
  pub on : (d e : ℕ) → d < c → IsOn up (suc d) (suc e) → Same (m d e) (t (suc d) (suc e))
  pub symmetric : (d e : ℕ) → d < c → e < c → Same (m d e) (m e d)
  pub off : (d e : ℕ) → d < c → e < c → ¬ IsOn up (suc d) (suc e) → ¬ IsOn up (suc e) (suc d) → Same (m d e) fracs.nul

-- at each step what is left on the paths is what is left of the whole table, which stays symmetric and zero off the paths
abbrev pub StepsEliminate : Type 0
StepsEliminate =
    (n : ℕ) (up : ℕ → ℕ) (given : ℕ → ℕ → Frac) (table : ℕ → ℕ → ℕ → Frac) (L : ℕ → ℕ → Frac) (D : ℕ → Frac) → IsFactored n up given table L D →
    (c k : ℕ) → c + k ≡ n → AgreesOnPaths c up (left_of c k (rows_of given)) (table c)

-- no pivot is zero exactly where the elimination meets no zero pivot
abbrev pub PivotsEliminate : Type 0
PivotsEliminate =
    (n : ℕ) (up : ℕ → ℕ) (given : ℕ → ℕ → Frac) (table : ℕ → ℕ → ℕ → Frac) (L : ℕ → ℕ → Frac) (D : ℕ → Frac) → IsFactored n up given table L D →
    ArePivots n D ↔ HasPivots n (rows_of given)

-- ---- factors, and the table that has them
-- the factors of a table multiply out to it, where no pivot is zero
abbrev pub FactorsMultiplyOut : Type 0
FactorsMultiplyOut =
    (n : ℕ) (up : ℕ → ℕ) (given : ℕ → ℕ → Frac) (table : ℕ → ℕ → ℕ → Frac) (L : ℕ → ℕ → Frac) (D : ℕ → Frac) → IsFactored n up given table L D →
    ArePivots n D → HasFactors n up given L D

-- two pairs of factors of a table are the same
pub record AreSameFactors (n : ℕ) (up : ℕ → ℕ) (L : ℕ → ℕ → Frac) (D : ℕ → Frac) (L' : ℕ → ℕ → Frac) (D' : ℕ → Frac) : Type 0 where
  pub pivots : (c : ℕ) → IsColumn n c → Same (D c) (D' c)
  pub factors : (c d : ℕ) → IsColumn n c → IsAncestor up c d → Same (L c d) (L' c d)

abbrev pub FactorsAreOne : Type 0
FactorsAreOne =
    (n : ℕ) (up : ℕ → ℕ) (given : ℕ → ℕ → Frac) (table : ℕ → ℕ → ℕ → Frac) (L : ℕ → ℕ → Frac) (D : ℕ → Frac)
    (given' : ℕ → ℕ → Frac) (table' : ℕ → ℕ → ℕ → Frac) (L' : ℕ → ℕ → Frac) (D' : ℕ → Frac) → IsRegular n up →
    AreFactors fraction_steps n up given table L D → AreFactors fraction_steps n up given' table' L' D' →
    ((c d : ℕ) → IsColumn n c → IsOn up c d → Same (given c d) (given' c d)) → AreSameFactors n up L D L' D'

-- two tables with the same factors are the same
abbrev pub FactorsTellTable : Type 0
FactorsTellTable =
    (n : ℕ) (up : ℕ → ℕ) (L m k : ℕ → ℕ → Frac) (D : ℕ → Frac) → IsRegular n up → HasFactors n up m L D → HasFactors n up k L D →
    (c d : ℕ) → IsColumn n c → IsColumn n d → Same (m c d) (k c d)

-- ---- solutions
-- the equations of a table of the tree have exactly one solution for every right side, where no pivot is zero
abbrev pub PivotsSolve : Type 0
PivotsSolve =
    (n : ℕ) (up : ℕ → ℕ) (given : ℕ → ℕ → Frac) (table : ℕ → ℕ → ℕ → Frac) (L : ℕ → ℕ → Frac) (D : ℕ → Frac) → IsFactored n up given table L D →
    ArePivots n D → (right : ℕ → Frac) → HasOneSolution n (rows_of given) right

-- by any factors without a zero pivot, the numbers that are found for a right side are the one solution of the equations of the table that has them
abbrev pub FactorsSolve : Type 0
FactorsSolve =
    (n : ℕ) (up : ℕ → ℕ) (m L : ℕ → ℕ → Frac) (D right x : ℕ → Frac) → IsRegular n up → HasFactors n up m L D → ArePivots n D →
    IsFound fraction_steps n up L D right x → IsOneSolution n m right x

-- so the factors of a table find the one solution of its equations
abbrev pub EliminationSolves : Type 0
EliminationSolves =
    (n : ℕ) (up : ℕ → ℕ) (given : ℕ → ℕ → Frac) (table : ℕ → ℕ → ℕ → Frac) (L : ℕ → ℕ → Frac) (D right x : ℕ → Frac) → IsFactored n up given table L D →
    ArePivots n D → IsFound fraction_steps n up L D right x → IsOneSolution n given right x

-- ---- there are factors, tables and numbers of which all this is said
-- each table has factors
pub record HaveFactors (n : ℕ) (up : ℕ → ℕ) (given : ℕ → ℕ → Frac) : Type 0 where
  pub table : ℕ → ℕ → ℕ → Frac
  pub L : ℕ → ℕ → Frac
  pub D : ℕ → Frac
  pub are : AreFactors fraction_steps n up given table L D

abbrev pub FactorsExist : Type 0
FactorsExist = (n : ℕ) (up : ℕ → ℕ) (given : ℕ → ℕ → Frac) → IsRegular n up → HaveFactors n up given

-- any factors are those of a table
abbrev pub TableExists : Type 0
TableExists = (n : ℕ) (up : ℕ → ℕ) (L : ℕ → ℕ → Frac) (D : ℕ → Frac) → IsRegular n up → (m : ℕ → ℕ → Frac) × HasFactors n up m L D

-- by any factors numbers are found for each right side
abbrev pub FoundExists : Type 0
FoundExists =
    (n : ℕ) (up : ℕ → ℕ) (L : ℕ → ℕ → Frac) (D right : ℕ → Frac) → IsRegular n up → (x : ℕ → Frac) × IsFound fraction_steps n up L D right x
