-- What the three steps of a solution by factors over intervals leave, and what is refused first. Featherstone, Rigid Body Dynamics Algorithms, chapter 6.
use Rattle.std.specs.Prelude.{◌≡◌, ℕ, suc, ◌<◌, ◌≤◌, Ok, Err}
use Rattle.rb_num.specs.Interval.{Interval}
use Rattle.rb_num.specs.Refusing.{iv_div}
use Rattle.rb_num.specs.declared.interval.NumFault.TheVariants as N
use Rattle.rb_work.specs.declared.names.NameKind.TheVariants as K
use Rattle.rb_work.specs.declared.names.RowFault.{RowFault}
use Rattle.rb_work.specs.declared.names.RowFault.TheVariants.{Size}
use Rattle.rb_work.specs.Names.{one}
use Rattle.rb_work.specs.Path.{above}
use Rattle.rb_work.specs.View.{View, columns_of, L_at, D_at, w_at, z_at, x_at}
use Rattle.rb_elimination.specs.Paths.{IsColumn, IsAncestor}
use Rattle.rb_elimination.specs.Solving.{IsReduced, IsDivided, IsSubstituted}
use Rattle.rb_factor.specs.Steps.{lessened, interval_steps}

-- ---- values
-- w of a work is what the right side w of another one is reduced to
pub record HoldsReduced (given held : View) : Type 0 where
  pub left : ℕ → ℕ → Interval
  pub is : IsReduced interval_steps (columns_of given) (above given.up) (L_at given) (w_at given) left (w_at held)

-- z is w divided by the pivots
abbrev pub HoldsDivided : View → View → Type 0
HoldsDivided given held = IsDivided interval_steps (columns_of given) (above given.up) (D_at given) (w_at given) (z_at held)

-- x is what is found from z
pub record HoldsSubstituted (given held : View) : Type 0 where
  pub part : ℕ → ℕ → Interval
  pub is : IsSubstituted interval_steps (columns_of given) (above given.up) (L_at given) (z_at given) part (x_at held)

-- w, z and x are what the three steps in turn give from the right side w
pub record HoldsSolution (given held : View) : Type 0 where
  pub left : ℕ → ℕ → Interval
  pub part : ℕ → ℕ → Interval
  pub reduced : IsReduced interval_steps (columns_of given) (above given.up) (L_at given) (w_at given) left (w_at held)
  pub divided : IsDivided interval_steps (columns_of given) (above given.up) (D_at given) (w_at held) (z_at held)
  pub substituted : IsSubstituted interval_steps (columns_of given) (above given.up) (L_at given) (z_at held) part (x_at held)

-- ---- refusals
-- column c is taken from the right side: `IsReduced` says this of all columns
pub record Takes (up : ℕ → ℕ) (L : ℕ → ℕ → Interval) (c : ℕ) (right left : ℕ → Interval) : Type 0 where
  pub updates : (d : ℕ) → IsAncestor up c d → lessened (right d) (L c d) (right c) ≡ Ok (left d)
  pub others : (d : ℕ) → 1 ≤ d → d < c → ¬ IsAncestor up c d → left d ≡ right d

-- the columns above number k are taken, from the last on
pub record IsReducedAbove (k n : ℕ) (up : ℕ → ℕ) (L : ℕ → ℕ → Interval) (right : ℕ → Interval) (left : ℕ → ℕ → Interval) : Type 0 where
  pub first : (c : ℕ) → IsColumn n c → left n c ≡ right c
  pub each : (c : ℕ) → k ≤ c → c < n → Takes up L (suc c) (left (suc c)) (left c)

-- the columns from the last on are taken up to one, which is refused for one of its ancestors
pub record IsReduceRefused (n : ℕ) (up : ℕ → ℕ) (L : ℕ → ℕ → Interval) (right : ℕ → Interval) (e : RowFault) : Type 0 where
  pub column : ℕ
  pub there : IsColumn n column
  pub left : ℕ → ℕ → Interval
  pub until : IsReducedAbove column n up L right left
  pub ancestor : ℕ
  pub is_ancestor : IsAncestor up column ancestor
  pub refused : lessened (left column ancestor) (L column ancestor) (left column column) ≡ Err N.Size
  pub named : e ≡ Size (one K.w column)

-- the first quotient that is refused
pub record IsDivideRefused (n : ℕ) (D w : ℕ → Interval) (e : RowFault) : Type 0 where
  pub column : ℕ
  pub there : IsColumn n column
  pub until : (c : ℕ) → 1 ≤ c → c < column → (z : Interval) × (iv_div (w c) (D c) ≡ Ok z)
  pub refused : iv_div (w column) (D column) ≡ Err N.Size
  pub named : e ≡ Size (one K.z column)

-- so many columns are found, and the next one is refused for one of its ancestors: own d is what is left of its z before ancestor d has its turn
pub record IsSubstituteRefused (n : ℕ) (up : ℕ → ℕ) (L : ℕ → ℕ → Interval) (z : ℕ → Interval) (e : RowFault) : Type 0 where
  pub found : ℕ
  pub fewer : found < n
  pub part : ℕ → ℕ → Interval
  pub x : ℕ → Interval
  pub until : IsSubstituted interval_steps found up L z part x
  pub own : ℕ → Interval
  pub first : own (up (suc found)) ≡ z (suc found)
  pub ancestor : ℕ
  pub is_ancestor : IsAncestor up (suc found) ancestor
  pub nearer : (b : ℕ) → IsAncestor up (suc found) b → ancestor < b → lessened (own b) (L (suc found) b) (x b) ≡ Ok (own (up b))
  pub refused : lessened (own ancestor) (L (suc found) ancestor) (x ancestor) ≡ Err N.Size
  pub named : e ≡ Size (one K.x (suc found))

-- the first refusal of the three steps in turn
pub data IsSolveRefused (n : ℕ) (up : ℕ → ℕ) (L : ℕ → ℕ → Interval) (D right : ℕ → Interval) (e : RowFault) : Type 0 where
  by_reduce : IsReduceRefused n up L right e → IsSolveRefused n up L D right e
  by_divide : (left : ℕ → ℕ → Interval) (w : ℕ → Interval) → IsReduced interval_steps n up L right left w → IsDivideRefused n D w e →
      IsSolveRefused n up L D right e
  by_substitute : (left : ℕ → ℕ → Interval) (w z : ℕ → Interval) → IsReduced interval_steps n up L right left w → IsDivided interval_steps n up D w z →
      IsSubstituteRefused n up L z e → IsSolveRefused n up L D right e

abbrev pub RefusesReduce : View → RowFault → Type 0
RefusesReduce given e = IsReduceRefused (columns_of given) (above given.up) (L_at given) (w_at given) e

abbrev pub RefusesDivide : View → RowFault → Type 0
RefusesDivide given e = IsDivideRefused (columns_of given) (D_at given) (w_at given) e

abbrev pub RefusesSubstitute : View → RowFault → Type 0
RefusesSubstitute given e = IsSubstituteRefused (columns_of given) (above given.up) (L_at given) (z_at given) e

abbrev pub RefusesSolve : View → RowFault → Type 0
RefusesSolve given e = IsSolveRefused (columns_of given) (above given.up) (L_at given) (D_at given) (w_at given) e
