-- What the coupling of rows over intervals is, and what is refused first. Featherstone, Rigid Body Dynamics Algorithms, chapter 8.
use Rattle.std.specs.Prelude.{◌≡◌, ◌⊎◌, ℕ, suc, ◌<◌, ◌≤◌, List, length, Ok, Err}
use Rattle.rb_num.specs.Interval.{Interval}
use Rattle.rb_num.specs.Dot.{iv_dot}
use Rattle.rb_num.specs.Refusing.{iv_add, iv_div}
use Rattle.rb_num.specs.Quotient.{HasZero}
use Rattle.rb_num.specs.declared.interval.NumFault.TheVariants as N
use Rattle.rb_work.specs.declared.names.NameKind.TheVariants as K
use Rattle.rb_work.specs.declared.names.RowFault.{RowFault}
use Rattle.rb_work.specs.declared.names.RowFault.TheVariants.{Size, Pivot}
use Rattle.rb_work.specs.Names.{one, two}
use Rattle.rb_work.specs.Path.{above}
use Rattle.rb_work.specs.View.{View, columns_of, L_at, D_at, J_at, Y_at, Z_at, C_at, l_at}
use Rattle.rb_elimination.specs.Solving.{IsReduced}
use Rattle.rb_factor.specs.Steps.{lessened, interval_steps, AreDivisors}
use Rattle.rb_factor.specs.Solve.{IsReduceRefused, IsDivideRefused}
use Rattle.rb_bordered.specs.Steps.{IsRow}
use Rattle.rb_bordered.specs.Coupling.{AreRowsReduced, AreCoupled}
use Rattle.rb_bordered.specs.Elimination.{AreEliminated}
use Rattle.rb_coupling.specs.Steps.{pairs_of, interval_row_steps, of_row}

-- zero lies in no pivot of the first R rows that a work holds
abbrev pub HoldsRowDivisors : ℕ → View → Type 0
HoldsRowDivisors R held = AreDivisors R (C_at held)

-- ---- values
-- a work holds Y, Z, the quotients l and the pivots C of the first R rows that another one held, with these compliances, and zero lies in no pivot
pub record HoldsCoupling (R : ℕ) (given held : View) (mu : ℕ → Interval) : Type 0 where
  pub left : ℕ → ℕ → ℕ → Interval
  pub alone : ℕ → Interval
  pub G : ℕ → ℕ → Interval
  pub table : ℕ → ℕ → ℕ → Interval
  pub reduced : AreRowsReduced interval_row_steps (columns_of given) (above given.up) R (L_at given) (D_at given) (J_at given) left (Y_at held)
      (Z_at held)
  pub coupled : AreCoupled interval_row_steps (columns_of given) (above given.up) R (Y_at held) (Z_at held) mu alone G
  pub eliminated : AreEliminated interval_row_steps R G table (l_at held) (C_at held)
  pub divisors : HoldsRowDivisors R held

-- ---- refusals
-- row r is refused, where the rows before it are reduced and divided: its first step, or a quotient
pub data IsRowRefused (n : ℕ) (up : ℕ → ℕ) (L : ℕ → ℕ → Interval) (D row : ℕ → Interval) (r : ℕ) : RowFault → Type 0 where
  by_reduce : (e : RowFault) → IsReduceRefused n up L row e → IsRowRefused n up L D row r (Size (one K.Y r))
  by_divide : (left : ℕ → ℕ → Interval) (w : ℕ → Interval) (e : RowFault) → IsReduced interval_steps n up L row left w → IsDivideRefused n D w e →
      IsRowRefused n up L D row r (Size (one K.Z r))

-- the entry of row q and of r, no later than q, in the coupling
pub data IsEntry (n : ℕ) (Y Z : ℕ → ℕ → Interval) (mu : ℕ → Interval) (q r : ℕ) (entry : Interval) : Type 0 where
  of_two : r < q → iv_dot (pairs_of (Y r) (Z q) n) ≡ Ok entry → IsEntry n Y Z mu q r entry
  of_one : (alone : Interval) → q ≡ r → iv_dot (pairs_of (Y r) (Z q) n) ≡ Ok alone → iv_add alone (mu r) ≡ Ok entry → IsEntry n Y Z mu q r entry

-- it is too large: the sum of the products, or that with the compliance
pub data IsEntryRefused (n : ℕ) (Y Z : ℕ → ℕ → Interval) (mu : ℕ → Interval) (q r : ℕ) : Type 0 where
  in_sum : iv_dot (pairs_of (Y r) (Z q) n) ≡ Err N.Size → IsEntryRefused n Y Z mu q r
  in_compliance : (alone : Interval) → q ≡ r → iv_dot (pairs_of (Y r) (Z q) n) ≡ Ok alone → iv_add alone (mu r) ≡ Err N.Size →
      IsEntryRefused n Y Z mu q r

-- entry (p, t) stands before entry (q, r): by the later row, then by the earlier one
abbrev pub StandsBefore : ℕ → ℕ → ℕ → ℕ → Type 0
StandsBefore p t q r = (p < q) ⊎ ((p ≡ q) × (t < r))

-- row r is eliminated from a table of R rows, which leaves another: `AreEliminated` says this of all rows
pub record EliminatesRow (R r : ℕ) (table left l : ℕ → ℕ → Interval) (C : ℕ → Interval) : Type 0 where
  pub pivot : C r ≡ table r r
  pub divisor : ¬ HasZero (C r)
  pub quotients : (q : ℕ) → r < q → q ≤ R → iv_div (table q r) (C r) ≡ Ok (l q r)
  pub updates : (q t : ℕ) → r < t → t ≤ q → q ≤ R → lessened (table q t) (l q r) (table t r) ≡ Ok (left q t)

-- the rows 1 to k are eliminated: table r is what is left when the rows 1 to r are gone
pub record AreEliminatedUntil (k R : ℕ) (coupling : ℕ → ℕ → Interval) (table : ℕ → ℕ → ℕ → Interval) (l : ℕ → ℕ → Interval) (C : ℕ → Interval) : Type 0 where
  pub first : (q t : ℕ) → IsRow R q → IsRow q t → table 0 q t ≡ coupling q t
  pub each : (r : ℕ) → r < k → EliminatesRow R (suc r) (table r) (table (suc r)) l C

-- row r is refused: for its pivot, for the first quotient that is too large, or, where all quotients are there, for the first entry that is, by the
-- later row and then by the earlier one
pub data IsEliminationRefused (R r : ℕ) (table : ℕ → ℕ → Interval) : RowFault → Type 0 where
  by_pivot : HasZero (table r r) → IsEliminationRefused R r table (Pivot (one K.C r) (table r r))
  by_quotient : (q : ℕ) → ¬ HasZero (table r r) → r < q → q ≤ R →
      ((p : ℕ) → r < p → p < q → (v : Interval) × (iv_div (table p r) (table r r) ≡ Ok v)) → iv_div (table q r) (table r r) ≡ Err N.Size →
      IsEliminationRefused R r table (Size (two K.l q r))
  by_update : (quotient : ℕ → Interval) (q t : ℕ) → ¬ HasZero (table r r) → r < t → t ≤ q → q ≤ R →
      ((p : ℕ) → r < p → p ≤ R → iv_div (table p r) (table r r) ≡ Ok (quotient p)) →
      ((p u : ℕ) → r < u → u ≤ p → StandsBefore p u q t → (v : Interval) × (lessened (table p u) (quotient p) (table u r) ≡ Ok v)) →
      lessened (table q t) (quotient q) (table t r) ≡ Err N.Size → IsEliminationRefused R r table (Size (two K.l q r))

-- the first refusal of the rows, their coupling and its elimination in turn
pub data IsCoupleRefused (n : ℕ) (up : ℕ → ℕ) (R : ℕ) (L : ℕ → ℕ → Interval) (D : ℕ → Interval) (J : ℕ → ℕ → Interval) (mu : ℕ → Interval) (e : RowFault) : Type 0 where
  by_row : (k : ℕ) (left : ℕ → ℕ → ℕ → Interval) (Y Z : ℕ → ℕ → Interval) → k < R →
      AreRowsReduced interval_row_steps n up k L D J left Y Z → IsRowRefused n up L D (J (suc k)) (suc k) e → IsCoupleRefused n up R L D J mu e
  by_entry : (left : ℕ → ℕ → ℕ → Interval) (Y Z : ℕ → ℕ → Interval) (q r : ℕ) → AreRowsReduced interval_row_steps n up R L D J left Y Z →
      IsRow R q → IsRow q r → ((p t : ℕ) → IsRow R p → IsRow p t → StandsBefore p t q r → (v : Interval) × IsEntry n Y Z mu p t v) →
      IsEntryRefused n Y Z mu q r → e ≡ Size (two K.G q r) → IsCoupleRefused n up R L D J mu e
  by_elimination : (left : ℕ → ℕ → ℕ → Interval) (Y Z : ℕ → ℕ → Interval) (alone : ℕ → Interval) (G : ℕ → ℕ → Interval) (k : ℕ)
      (table : ℕ → ℕ → ℕ → Interval) (l : ℕ → ℕ → Interval) (C : ℕ → Interval) → AreRowsReduced interval_row_steps n up R L D J left Y Z →
      AreCoupled interval_row_steps n up R Y Z mu alone G → k < R → AreEliminatedUntil k R G table l C →
      IsEliminationRefused R (suc k) (table k) e → IsCoupleRefused n up R L D J mu e

-- of the rows that a work held, as many as there are compliances
abbrev pub RefusesCouple : View → List Interval → RowFault → Type 0
RefusesCouple given mus e = IsCoupleRefused (columns_of given) (above given.up) (length mus) (L_at given) (D_at given) (J_at given) (of_row mus) e
