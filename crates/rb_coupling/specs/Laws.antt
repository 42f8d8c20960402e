-- That there is one answer, and what it encloses.
use Rattle.std.specs.Prelude.{◌≡◌, ℕ, ◌<◌, ◌≤◌, Err}
use Rattle.rb_frac.specs.Frac.{Frac}
use Rattle.rb_num.specs.Interval.{Interval, zero_interval}
use Rattle.rb_num.specs.Dot.{iv_dot}
use Rattle.rb_num.specs.declared.interval.NumFault.TheVariants as N
use Rattle.rb_num.specs.Fraction.{LiesIn}
use Rattle.rb_work.specs.declared.names.RowFault.{RowFault}
use Rattle.rb_work.specs.Path.{above}
use Rattle.rb_work.specs.View.{View, columns_of, L_at, D_at, J_at, Y_at, C_at, l_at, w_at, z_at, g_at, e_at, lam_at}
use Rattle.rb_elimination.specs.Paths.{IsRegular}
use Rattle.rb_elimination.specs.Product.{HasFactors}
use Rattle.rb_elimination.specs.Laws.{ArePivots}
use Rattle.rb_factor.specs.Steps.{AreDivisors}
use Rattle.rb_factor.specs.Laws.{NumbersLie, FactorsLie, SameNumbers, SameFactors}
use Rattle.rb_bordered.specs.Steps.{fraction_row_steps, IsRow}
use Rattle.rb_bordered.specs.Forces.{IsRightReduced, IsRightDivided, AreForces, AreRowSides, AreForcesAdded, HaveRowFactors, HaveRigidFactors, AreForcesFound, IsFoundWithForces}
use Rattle.rb_bordered.specs.Equations.{IsOneBorderedSolution}
use Rattle.rb_coupling.specs.Steps.{pairs_of, interval_row_steps}
use Rattle.rb_coupling.specs.Couple.{IsEntryRefused, IsCoupleRefused}
use Rattle.rb_coupling.specs.Forces.{IsForceRefused}

-- ---- what is enclosed
-- by row and column, and by row and an earlier one, a number lies in an interval
abbrev pub RowsLie : ℕ → ℕ → (ℕ → ℕ → Frac) → (ℕ → ℕ → Interval) → Type 0
RowsLie n R J v = (r : ℕ) → IsRow R r → NumbersLie n (J r) (v r)

abbrev pub QuotientsLie : ℕ → (ℕ → ℕ → Frac) → (ℕ → ℕ → Interval) → Type 0
QuotientsLie R l v = (q r : ℕ) → IsRow R q → IsRow R r → r < q → LiesIn (l q r) (v q r)

-- the factors of R rows without a zero pivot, within those that a work holds
pub record AreRowsWithin (R : ℕ) (held : View) (Y l : ℕ → ℕ → Frac) (C : ℕ → Frac) : Type 0 where
  pub pivots : ArePivots R C
  pub rows : RowsLie (columns_of held) R Y (Y_at held)
  pub quotients : QuotientsLie R l (l_at held)
  pub diagonal : NumbersLie R C (C_at held)

-- of all rows, compliances and factors of the table within the given ones
pub record EnclosesCoupling (R : ℕ) (given held : View) (mus : ℕ → Interval) : Type 0 where
  pub at : (L : ℕ → ℕ → Frac) (D : ℕ → Frac) (J : ℕ → ℕ → Frac) (mu : ℕ → Frac) (Y l : ℕ → ℕ → Frac) (C : ℕ → Frac) →
      FactorsLie (columns_of given) (above given.up) L (L_at given) → NumbersLie (columns_of given) D (D_at given) →
      RowsLie (columns_of given) R J (J_at given) → NumbersLie R mu mus →
      HaveRowFactors fraction_row_steps (columns_of given) (above given.up) R L D J mu Y l C → AreRowsWithin R held Y l C

pub record EnclosesRowSides (R : ℕ) (given held : View) : Type 0 where
  pub at : (Y : ℕ → ℕ → Frac) (z g without total e : ℕ → Frac) → RowsLie (columns_of given) R Y (Y_at given) →
      NumbersLie (columns_of given) z (z_at given) → NumbersLie R g (g_at given) →
      AreRowSides fraction_row_steps (columns_of given) R Y z g without total e → NumbersLie R e (e_at held)

pub record EnclosesRowForces (R : ℕ) (given held : View) : Type 0 where
  pub at : (l : ℕ → ℕ → Frac) (C e : ℕ → Frac) (left : ℕ → ℕ → Frac) (reduced divided : ℕ → Frac) (part : ℕ → ℕ → Frac) (lam : ℕ → Frac) →
      QuotientsLie R l (l_at given) → NumbersLie R C (C_at given) → NumbersLie R e (e_at given) →
      IsRightReduced fraction_row_steps R l e left reduced → IsRightDivided fraction_row_steps R C reduced divided →
      AreForces fraction_row_steps R l divided part lam → NumbersLie R lam (lam_at held)

pub record EnclosesAddedForces (R : ℕ) (given held : View) : Type 0 where
  pub at : (Y : ℕ → ℕ → Frac) (w lam more added : ℕ → Frac) → RowsLie (columns_of given) R Y (Y_at given) →
      NumbersLie (columns_of given) w (w_at given) → NumbersLie R lam (lam_at given) →
      AreForcesAdded fraction_row_steps (columns_of given) R Y w lam more added → NumbersLie (columns_of given) added (w_at held)

-- ---- the bordered equations
-- they have exactly one solution, and it lies in these intervals
pub record BorderedSolutionLies (n R : ℕ) (m J : ℕ → ℕ → Frac) (mu k g : ℕ → Frac) (xs lams : ℕ → Interval) : Type 0 where
  pub x : ℕ → Frac
  pub lam : ℕ → Frac
  pub one : IsOneBorderedSolution n R m J mu k g x lam
  pub columns : NumbersLie n x xs
  pub rows : NumbersLie R lam lams

-- the numbers that are given, within intervals
pub record AreBorderedWithin (n : ℕ) (up : ℕ → ℕ) (R : ℕ) (L : ℕ → ℕ → Frac) (D : ℕ → Frac) (J : ℕ → ℕ → Frac) (mu k g : ℕ → Frac)
    (Ls : ℕ → ℕ → Interval) (Ds : ℕ → Interval) (Js : ℕ → ℕ → Interval) (mus ks gs : ℕ → Interval) : Type 0 where
  pub factors : FactorsLie n up L Ls
  pub diagonal : NumbersLie n D Ds
  pub rows : RowsLie n R J Js
  pub compliances : NumbersLie R mu mus
  pub torques : NumbersLie n k ks
  pub accelerations : NumbersLie R g gs

-- where intervals x and lam are found, without a zero in a pivot, the bordered equations of all numbers within the given intervals have one solution
-- there
abbrev pub BorderedEncloses : Type 0
BorderedEncloses =
    (n : ℕ) (up : ℕ → ℕ) (R : ℕ) (Ls : ℕ → ℕ → Interval) (Ds : ℕ → Interval) (Js : ℕ → ℕ → Interval) (mus : ℕ → Interval) (Ys ls : ℕ → ℕ → Interval)
    (Cs ks gs ws lams xs : ℕ → Interval) →
    IsRegular n up → AreDivisors n Ds → HaveRowFactors interval_row_steps n up R Ls Ds Js mus Ys ls Cs → AreDivisors R Cs →
    AreForcesFound interval_row_steps n up R Ls Ds Ys ls Cs ks gs ws lams → IsFoundWithForces interval_row_steps n up R Ls Ds Ys ws lams xs →
    (m L : ℕ → ℕ → Frac) (D : ℕ → Frac) (J : ℕ → ℕ → Frac) (mu k g : ℕ → Frac) → HasFactors n up m L D →
    AreBorderedWithin n up R L D J mu k g Ls Ds Js mus ks gs → BorderedSolutionLies n R m J mu k g xs lams

-- ---- rows without compliance
-- the coupling is that of rows without compliance, and an entry is refused for its sum alone
pub record IsRigid (n : ℕ) (up : ℕ → ℕ) (R : ℕ) (L : ℕ → ℕ → Interval) (D : ℕ → Interval) (J : ℕ → ℕ → Interval) (mu : ℕ → Interval) : Type 0 where
  pub rigid : (Y l : ℕ → ℕ → Interval) (C : ℕ → Interval) → HaveRowFactors interval_row_steps n up R L D J mu Y l C →
      HaveRigidFactors interval_row_steps n up R L D J Y l C
  pub compliant : (Y l : ℕ → ℕ → Interval) (C : ℕ → Interval) → HaveRigidFactors interval_row_steps n up R L D J Y l C →
      HaveRowFactors interval_row_steps n up R L D J mu Y l C
  pub entries : (Y Z : ℕ → ℕ → Interval) (q r : ℕ) → IsRow R r → IsEntryRefused n Y Z mu q r → iv_dot (pairs_of (Y r) (Z q) n) ≡ Err N.Size

-- so it is where all compliances are zero, of the columns that a work can have
abbrev pub ZeroIsRigid : Type 0
ZeroIsRigid =
    (n : ℕ) (up : ℕ → ℕ) (R : ℕ) (L : ℕ → ℕ → Interval) (D : ℕ → Interval) (J : ℕ → ℕ → Interval) (mu : ℕ → Interval) → n ≤ 64 →
    ((r : ℕ) → IsRow R r → mu r ≡ zero_interval) → IsRigid n up R L D J mu

-- ---- one answer
abbrev pub SameRows : ℕ → ℕ → (ℕ → ℕ → Interval) → (ℕ → ℕ → Interval) → Type 0
SameRows n R v w = (r : ℕ) → IsRow R r → SameNumbers n (v r) (w r)

abbrev pub SameQuotients : ℕ → (ℕ → ℕ → Interval) → (ℕ → ℕ → Interval) → Type 0
SameQuotients R v w = (q r : ℕ) → IsRow R q → IsRow R r → r < q → v q r ≡ w q r

-- from the same rows, compliances and factors of the table come the same factors of the rows, or the same refusal, and not both
pub record HasOneCoupling (n : ℕ) (up : ℕ → ℕ) (R : ℕ) (L L' : ℕ → ℕ → Interval) (D D' : ℕ → Interval) (J J' : ℕ → ℕ → Interval) (mu mu' : ℕ → Interval) : Type 0 where
  pub rows : (Y Y' l l' : ℕ → ℕ → Interval) (C C' : ℕ → Interval) → HaveRowFactors interval_row_steps n up R L D J mu Y l C →
      HaveRowFactors interval_row_steps n up R L' D' J' mu' Y' l' C' → SameRows n R Y Y'
  pub quotients : (Y Y' l l' : ℕ → ℕ → Interval) (C C' : ℕ → Interval) → HaveRowFactors interval_row_steps n up R L D J mu Y l C →
      HaveRowFactors interval_row_steps n up R L' D' J' mu' Y' l' C' → SameQuotients R l l'
  pub pivots : (Y Y' l l' : ℕ → ℕ → Interval) (C C' : ℕ → Interval) → HaveRowFactors interval_row_steps n up R L D J mu Y l C →
      HaveRowFactors interval_row_steps n up R L' D' J' mu' Y' l' C' → SameNumbers R C C'
  pub either : (Y l : ℕ → ℕ → Interval) (C : ℕ → Interval) (e : RowFault) → HaveRowFactors interval_row_steps n up R L D J mu Y l C → AreDivisors R C →
      IsCoupleRefused n up R L' D' J' mu' e → ⊥
  pub refusal : (d e : RowFault) → IsCoupleRefused n up R L D J mu d → IsCoupleRefused n up R L' D' J' mu' e → d ≡ e

abbrev pub CouplingIsOne : Type 0
CouplingIsOne =
    (n : ℕ) (up : ℕ → ℕ) (R : ℕ) (L L' : ℕ → ℕ → Interval) (D D' : ℕ → Interval) (J J' : ℕ → ℕ → Interval) (mu mu' : ℕ → Interval) → IsRegular n up →
    SameFactors n up L L' → SameNumbers n D D' → SameRows n R J J' → SameNumbers R mu mu' → HasOneCoupling n up R L L' D D' J J' mu mu'

-- from the same quotients, pivots and right sides of the rows come the same forces, or the same refusal, and not both
pub record HaveOneForces (R : ℕ) (l l' : ℕ → ℕ → Interval) (C C' e e' : ℕ → Interval) : Type 0 where
  pub values : (left left' : ℕ → ℕ → Interval) (reduced reduced' divided divided' : ℕ → Interval) (part part' : ℕ → ℕ → Interval)
      (lam lam' : ℕ → Interval) → IsRightReduced interval_row_steps R l e left reduced → IsRightDivided interval_row_steps R C reduced divided →
      AreForces interval_row_steps R l divided part lam → IsRightReduced interval_row_steps R l' e' left' reduced' →
      IsRightDivided interval_row_steps R C' reduced' divided' → AreForces interval_row_steps R l' divided' part' lam' → SameNumbers R lam lam'
  pub either : (left : ℕ → ℕ → Interval) (reduced divided : ℕ → Interval) (part : ℕ → ℕ → Interval) (lam : ℕ → Interval) (f : RowFault) →
      IsRightReduced interval_row_steps R l e left reduced → IsRightDivided interval_row_steps R C reduced divided →
      AreForces interval_row_steps R l divided part lam → IsForceRefused R l' C' e' f → ⊥
  pub refusal : (d f : RowFault) → IsForceRefused R l C e d → IsForceRefused R l' C' e' f → d ≡ f

abbrev pub ForcesAreOne : Type 0
ForcesAreOne =
    (R : ℕ) (l l' : ℕ → ℕ → Interval) (C C' e e' : ℕ → Interval) → SameQuotients R l l' → SameNumbers R C C' → SameNumbers R e e' →
    HaveOneForces R l l' C C' e e'
