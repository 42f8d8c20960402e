-- That there is one answer, and what it encloses.
use Rattle.std.specs.Prelude.{◌≡◌, ℕ}
use Rattle.rb_frac.specs.Frac.{Frac}
use Rattle.rb_num.specs.Interval.{Interval}
use Rattle.rb_num.specs.Fraction.{LiesIn}
use Rattle.rb_work.specs.declared.names.RowFault.{RowFault}
use Rattle.rb_work.specs.Path.{above}
use Rattle.rb_work.specs.View.{View, columns_of, M_at, L_at, D_at, w_at, z_at, x_at}
use Rattle.rb_elimination.specs.Paths.{IsColumn, IsRegular, IsAncestor, IsOn}
use Rattle.rb_elimination.specs.Factors.{fraction_steps, AreFactors}
use Rattle.rb_elimination.specs.Solving.{IsReduced, IsDivided, IsSubstituted, IsFound}
use Rattle.rb_elimination.specs.Product.{HasFactors, IsOneSolution}
use Rattle.rb_elimination.specs.Laws.{ArePivots, IsFactored}
use Rattle.rb_factor.specs.Steps.{interval_steps, AreDivisors}
use Rattle.rb_factor.specs.Factor.{IsFactorRefused}
use Rattle.rb_factor.specs.Solve.{IsSolveRefused}

-- ---- what is enclosed
-- by column, by column and ancestor, and by column and one on its path, a number lies in an interval
abbrev pub NumbersLie : ℕ → (ℕ → Frac) → (ℕ → Interval) → Type 0
NumbersLie n x v = (c : ℕ) → IsColumn n c → LiesIn (x c) (v c)

abbrev pub FactorsLie : ℕ → (ℕ → ℕ) → (ℕ → ℕ → Frac) → (ℕ → ℕ → Interval) → Type 0
FactorsLie n up L v = (c d : ℕ) → IsColumn n c → IsAncestor up c d → LiesIn (L c d) (v c d)

abbrev pub TableLies : ℕ → (ℕ → ℕ) → (ℕ → ℕ → Frac) → (ℕ → ℕ → Interval) → Type 0
TableLies n up m v = (c d : ℕ) → IsColumn n c → IsOn up c d → LiesIn (m c d) (v c d)

-- the factors of a table without a zero pivot, within those that a work holds
pub record AreWithin (held : View) (L : ℕ → ℕ → Frac) (D : ℕ → Frac) : Type 0 where
  pub pivots : ArePivots (columns_of held) D
  pub factors : FactorsLie (columns_of held) (above held.up) L (L_at held)
  pub diagonal : NumbersLie (columns_of held) D (D_at held)

-- of each table that lies in the given one
pub record EnclosesFactors (given held : View) : Type 0 where
  pub at : (m : ℕ → ℕ → Frac) (table : ℕ → ℕ → ℕ → Frac) (L : ℕ → ℕ → Frac) (D : ℕ → Frac) →
      IsFactored (columns_of given) (above given.up) m table L D → TableLies (columns_of given) (above given.up) m (M_at given) → AreWithin held L D

-- what a right side is reduced to, for each within the given one and all factors within those that are given
pub record EnclosesReduced (given held : View) : Type 0 where
  pub at : (L : ℕ → ℕ → Frac) (right : ℕ → Frac) (left : ℕ → ℕ → Frac) (w : ℕ → Frac) →
      FactorsLie (columns_of given) (above given.up) L (L_at given) → NumbersLie (columns_of given) right (w_at given) →
      IsReduced fraction_steps (columns_of given) (above given.up) L right left w → NumbersLie (columns_of given) w (w_at held)

pub record EnclosesDivided (given held : View) : Type 0 where
  pub at : (D w z : ℕ → Frac) → NumbersLie (columns_of given) D (D_at given) → NumbersLie (columns_of given) w (w_at given) →
      IsDivided fraction_steps (columns_of given) (above given.up) D w z → NumbersLie (columns_of given) z (z_at held)

pub record EnclosesSubstituted (given held : View) : Type 0 where
  pub at : (L : ℕ → ℕ → Frac) (z : ℕ → Frac) (part : ℕ → ℕ → Frac) (x : ℕ → Frac) →
      FactorsLie (columns_of given) (above given.up) L (L_at given) → NumbersLie (columns_of given) z (z_at given) →
      IsSubstituted fraction_steps (columns_of given) (above given.up) L z part x → NumbersLie (columns_of given) x (x_at held)

-- the equations of a table with such factors have exactly one solution, and it lies in x
pub record SolutionLies (held : View) (m : ℕ → ℕ → Frac) (right : ℕ → Frac) : Type 0 where
  pub x : ℕ → Frac
  pub one : IsOneSolution (columns_of held) m right x
  pub lies : NumbersLie (columns_of held) x (x_at held)

-- what is found for each right side within the given one, and all factors within those that are given
pub record EnclosesSolution (given held : View) : Type 0 where
  pub found : (L : ℕ → ℕ → Frac) (D right x : ℕ → Frac) →
      FactorsLie (columns_of given) (above given.up) L (L_at given) → NumbersLie (columns_of given) D (D_at given) →
      NumbersLie (columns_of given) right (w_at given) → IsFound fraction_steps (columns_of given) (above given.up) L D right x →
      NumbersLie (columns_of given) x (x_at held)
  pub solution : (m L : ℕ → ℕ → Frac) (D right : ℕ → Frac) →
      FactorsLie (columns_of given) (above given.up) L (L_at given) → NumbersLie (columns_of given) D (D_at given) →
      NumbersLie (columns_of given) right (w_at given) → HasFactors (columns_of given) (above given.up) m L D → SolutionLies held m right

-- ---- one answer
abbrev pub SameNumbers : ℕ → (ℕ → Interval) → (ℕ → Interval) → Type 0
SameNumbers n v w = (c : ℕ) → IsColumn n c → v c ≡ w c

abbrev pub SameFactors : ℕ → (ℕ → ℕ) → (ℕ → ℕ → Interval) → (ℕ → ℕ → Interval) → Type 0
SameFactors n up v w = (c d : ℕ) → IsColumn n c → IsAncestor up c d → v c d ≡ w c d

abbrev pub SameTables : ℕ → (ℕ → ℕ) → (ℕ → ℕ → Interval) → (ℕ → ℕ → Interval) → Type 0
SameTables n up v w = (c d : ℕ) → IsColumn n c → IsOn up c d → v c d ≡ w c d

-- from tables that are the same on the paths come the same factors, or the same refusal, and not both
pub record HasOneFactor (n : ℕ) (up : ℕ → ℕ) (given other : ℕ → ℕ → Interval) : Type 0 where
  pub factors : (table table' : ℕ → ℕ → ℕ → Interval) (L L' : ℕ → ℕ → Interval) (D D' : ℕ → Interval) →
      AreFactors interval_steps n up given table L D → AreFactors interval_steps n up other table' L' D' → SameFactors n up L L'
  pub pivots : (table table' : ℕ → ℕ → ℕ → Interval) (L L' : ℕ → ℕ → Interval) (D D' : ℕ → Interval) →
      AreFactors interval_steps n up given table L D → AreFactors interval_steps n up other table' L' D' → SameNumbers n D D'
  pub either : (table : ℕ → ℕ → ℕ → Interval) (L : ℕ → ℕ → Interval) (D : ℕ → Interval) (e : RowFault) →
      AreFactors interval_steps n up given table L D → AreDivisors n D → IsFactorRefused n up other e → ⊥
  pub refusal : (d e : RowFault) → IsFactorRefused n up given d → IsFactorRefused n up other e → d ≡ e

abbrev pub FactorIsOne : Type 0
FactorIsOne =
    (n : ℕ) (up : ℕ → ℕ) (given other : ℕ → ℕ → Interval) → IsRegular n up → SameTables n up given other → HasOneFactor n up given other

-- from the same factors, pivots and right sides comes the same solution, or the same refusal, and not both
pub record HasOneSolve (n : ℕ) (up : ℕ → ℕ) (L L' : ℕ → ℕ → Interval) (D D' right right' : ℕ → Interval) : Type 0 where
  pub values : (x x' : ℕ → Interval) → IsFound interval_steps n up L D right x → IsFound interval_steps n up L' D' right' x' → SameNumbers n x x'
  pub either : (x : ℕ → Interval) (e : RowFault) → IsFound interval_steps n up L D right x → IsSolveRefused n up L' D' right' e → ⊥
  pub refusal : (d e : RowFault) → IsSolveRefused n up L D right d → IsSolveRefused n up L' D' right' e → d ≡ e

abbrev pub SolveIsOne : Type 0
SolveIsOne =
    (n : ℕ) (up : ℕ → ℕ) (L L' : ℕ → ℕ → Interval) (D D' right right' : ℕ → Interval) → IsRegular n up → SameFactors n up L L' → SameNumbers n D D' →
    SameNumbers n right right' → HasOneSolve n up L L' D D' right right'
