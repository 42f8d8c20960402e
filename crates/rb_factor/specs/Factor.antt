-- What a factored table of intervals is, and what is refused first. Featherstone, Rigid Body Dynamics Algorithms, chapter 6.
use Rattle.std.specs.Prelude.{◌≡◌, ℕ, suc, ◌<◌, ◌≤◌, Ok, Err}
use Rattle.rb_num.specs.Interval.{Interval}
use Rattle.rb_num.specs.Refusing.{iv_div}
use Rattle.rb_num.specs.Quotient.{HasZero}
use Rattle.rb_num.specs.declared.interval.NumFault.TheVariants as N
use Rattle.rb_work.specs.declared.names.NameKind.TheVariants as K
use Rattle.rb_work.specs.declared.names.RowFault.{RowFault}
use Rattle.rb_work.specs.declared.names.RowFault.TheVariants.{Size, Pivot}
use Rattle.rb_work.specs.Names.{one, two}
use Rattle.rb_work.specs.Path.{above}
use Rattle.rb_work.specs.View.{View, columns_of, M_at, L_at, D_at}
use Rattle.rb_elimination.specs.Paths.{IsColumn, IsAncestor, IsOn}
use Rattle.rb_elimination.specs.Factors.{AreFactors}
use Rattle.rb_factor.specs.Steps.{lessened, interval_steps, AreDivisors}

-- zero lies in no pivot that a work holds
abbrev pub HoldsDivisors : View → Type 0
HoldsDivisors held = AreDivisors (columns_of held) (D_at held)

-- ---- values
-- a work holds the factors of the table that another one held, and zero lies in no pivot
pub record HoldsFactors (given held : View) : Type 0 where
  pub table : ℕ → ℕ → ℕ → Interval
  pub are : AreFactors interval_steps (columns_of given) (above given.up) (M_at given) table (L_at held) (D_at held)
  pub divisors : HoldsDivisors held

-- ---- refusals
-- column c is eliminated from a table, which leaves another: `AreFactors` says this of all columns
pub record Eliminates (up : ℕ → ℕ) (c : ℕ) (table left : ℕ → ℕ → Interval) (L : ℕ → ℕ → Interval) (D : ℕ → Interval) : Type 0 where
  pub pivot : D c ≡ table c c
  pub divisor : ¬ HasZero (D c)
  pub quotients : (d : ℕ) → IsAncestor up c d → iv_div (table c d) (D c) ≡ Ok (L c d)
  pub updates : (d e : ℕ) → IsAncestor up c d → IsOn up d e → lessened (table d e) (L c d) (table c e) ≡ Ok (left d e)
  pub others : (d e : ℕ) → 1 ≤ d → d < c → ¬ IsAncestor up c d → IsOn up d e → left d e ≡ table d e

-- the columns above number k are eliminated, from the last on: table c is what is left when the columns 1 to c are still there
pub record AreFactorsAbove (k n : ℕ) (up : ℕ → ℕ) (given : ℕ → ℕ → Interval) (table : ℕ → ℕ → ℕ → Interval) (L : ℕ → ℕ → Interval) (D : ℕ → Interval) : Type 0 where
  pub first : (c d : ℕ) → IsColumn n c → IsOn up c d → table n c d ≡ given c d
  pub each : (c : ℕ) → k ≤ c → c < n → Eliminates up (suc c) (table (suc c)) (table c) L D

-- in the row of column c the entry of its ancestor d is divided by the pivot, and the entries of row d are lessened
pub record IsEntryFine (up : ℕ → ℕ) (c d : ℕ) (table : ℕ → ℕ → Interval) : Type 0 where
  pub quotient : Interval
  pub divides : iv_div (table c d) (table c c) ≡ Ok quotient
  pub updates : (e : ℕ) → IsOn up d e → (r : Interval) × (lessened (table d e) quotient (table c e) ≡ Ok r)

-- or one of these is too large
pub data IsEntryRefused (up : ℕ → ℕ) (c d : ℕ) (table : ℕ → ℕ → Interval) : Type 0 where
  in_quotient : iv_div (table c d) (table c c) ≡ Err N.Size → IsEntryRefused up c d table
  in_update : (q : Interval) (e : ℕ) → iv_div (table c d) (table c c) ≡ Ok q → IsOn up d e → lessened (table d e) q (table c e) ≡ Err N.Size →
      IsEntryRefused up c d table

-- column c is refused: for its pivot, or for an ancestor, where no nearer one is
pub data IsColumnRefused (up : ℕ → ℕ) (c : ℕ) (table : ℕ → ℕ → Interval) : RowFault → Type 0 where
  by_pivot : HasZero (table c c) → IsColumnRefused up c table (Pivot (one K.D c) (table c c))
  by_entry : (d : ℕ) → ¬ HasZero (table c c) → IsAncestor up c d → ((b : ℕ) → IsAncestor up c b → d < b → IsEntryFine up c b table) →
      IsEntryRefused up c d table → IsColumnRefused up c table (Size (two K.L c d))

-- the columns from the last on are eliminated up to one that is refused
pub record IsFactorRefused (n : ℕ) (up : ℕ → ℕ) (given : ℕ → ℕ → Interval) (e : RowFault) : Type 0 where
  pub column : ℕ
  pub there : IsColumn n column
  pub table : ℕ → ℕ → ℕ → Interval
  pub L : ℕ → ℕ → Interval
  pub D : ℕ → Interval
  pub until : AreFactorsAbove column n up given table L D
  pub refused : IsColumnRefused up column (table column) e

-- of the table that a work held
abbrev pub RefusesFactor : View → RowFault → Type 0
RefusesFactor given e = IsFactorRefused (columns_of given) (above given.up) (M_at given) e
