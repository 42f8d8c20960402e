-- What the forces of rows over intervals are, and what is refused first. Featherstone, Rigid Body Dynamics Algorithms, chapter 8.
use Rattle.std.specs.Prelude.{◌≡◌, ℕ, suc, ◌<◌, ◌≤◌, Ok, Err}
use Rattle.rb_num.specs.Interval.{Interval}
use Rattle.rb_num.specs.Dot.{iv_dot}
use Rattle.rb_num.specs.Refusing.{iv_add, iv_div}
use Rattle.rb_num.specs.declared.interval.NumFault.TheVariants as N
use Rattle.rb_work.specs.declared.names.NameKind.TheVariants as K
use Rattle.rb_work.specs.declared.names.RowFault.{RowFault}
use Rattle.rb_work.specs.declared.names.RowFault.TheVariants.{Size}
use Rattle.rb_work.specs.Names.{one}
use Rattle.rb_work.specs.View.{View, columns_of, w_at, z_at, g_at, Y_at, C_at, l_at, e_at, lam_at}
use Rattle.rb_elimination.specs.Paths.{IsColumn}
use Rattle.rb_factor.specs.Steps.{lessened}
use Rattle.rb_bordered.specs.Steps.{IsRow}
use Rattle.rb_bordered.specs.Forces.{IsRightReduced, IsRightDivided, AreForces, AreRowSides, AreForcesAdded}
use Rattle.rb_coupling.specs.Steps.{pairs_of, interval_row_steps}

-- ---- values
-- e of a work is the right side of the forces of R rows that g, Y and z of another one give
pub record HoldsRowSides (R : ℕ) (given held : View) : Type 0 where
  pub without : ℕ → Interval
  pub total : ℕ → Interval
  pub are : AreRowSides interval_row_steps (columns_of given) R (Y_at given) (z_at given) (g_at given) without total (e_at held)

-- lam of a work is what the quotients l and the pivots C of R rows of another one find for its right side e, and e holds it too
pub record HoldsRowForces (R : ℕ) (given held : View) : Type 0 where
  pub left : ℕ → ℕ → Interval
  pub reduced : ℕ → Interval
  pub divided : ℕ → Interval
  pub part : ℕ → ℕ → Interval
  pub right_reduced : IsRightReduced interval_row_steps R (l_at given) (e_at given) left reduced
  pub right_divided : IsRightDivided interval_row_steps R (C_at given) reduced divided
  pub forces : AreForces interval_row_steps R (l_at given) divided part (lam_at held)
  pub kept : (r : ℕ) → IsRow R r → e_at held r ≡ lam_at held r

-- w of a work is that of another one with what the forces of R rows add
pub record HoldsAddedForces (R : ℕ) (given held : View) : Type 0 where
  pub more : ℕ → Interval
  pub are : AreForcesAdded interval_row_steps (columns_of given) R (Y_at given) (w_at given) (lam_at given) more (w_at held)

-- ---- refusals
-- a sum and what is added to it are within the limit
pub record IsTotal (start : Interval) (n : ℕ) (a b : ℕ → Interval) (total : Interval) : Type 0 where
  pub sum : Interval
  pub sums : iv_dot (pairs_of a b n) ≡ Ok sum
  pub adds : iv_add start sum ≡ Ok total

-- or one of the two is too large
pub data IsTotalRefused (start : Interval) (n : ℕ) (a b : ℕ → Interval) : Type 0 where
  in_sum : iv_dot (pairs_of a b n) ≡ Err N.Size → IsTotalRefused start n a b
  in_total : (sum : Interval) → iv_dot (pairs_of a b n) ≡ Ok sum → iv_add start sum ≡ Err N.Size → IsTotalRefused start n a b

-- the first row whose right side is refused
pub record IsRowSideRefused (n R : ℕ) (Y : ℕ → ℕ → Interval) (z g : ℕ → Interval) (e : RowFault) : Type 0 where
  pub row : ℕ
  pub there : IsRow R row
  pub until : (r : ℕ) → 1 ≤ r → r < row → (v : Interval) × IsTotal (g r) n (Y r) z v
  pub refused : IsTotalRefused (g row) n (Y row) z
  pub named : e ≡ Size (one K.e row)

-- the first column to which too much is added
pub record IsAddRefused (n R : ℕ) (Y : ℕ → ℕ → Interval) (w lam : ℕ → Interval) (e : RowFault) : Type 0 where
  pub column : ℕ
  pub there : IsColumn n column
  pub until : (c : ℕ) → 1 ≤ c → c < column → (v : Interval) × IsTotal (w c) R (λ r. Y r c) lam v
  pub refused : IsTotalRefused (w column) R (λ r. Y r column) lam
  pub named : e ≡ Size (one K.w column)

-- the rows 1 to k are taken from the right side: `IsRightReduced` says this of all rows
pub record IsRightReducedUntil (k R : ℕ) (l : ℕ → ℕ → Interval) (side : ℕ → Interval) (left : ℕ → ℕ → Interval) : Type 0 where
  pub first : (r : ℕ) → IsRow R r → left 0 r ≡ side r
  pub updates : (r q : ℕ) → r < k → suc r < q → q ≤ R → lessened (left r q) (l q (suc r)) (left r (suc r)) ≡ Ok (left (suc r) q)

-- the rows above number k have their forces
pub record AreForcesAbove (k R : ℕ) (l : ℕ → ℕ → Interval) (divided : ℕ → Interval) (part : ℕ → ℕ → Interval) (lam : ℕ → Interval) : Type 0 where
  pub first : (r : ℕ) → k < r → r ≤ R → part r (suc r) ≡ divided r
  pub result : (r : ℕ) → k < r → r ≤ R → lam r ≡ part r (suc R)
  pub updates : (r q : ℕ) → k < r → r < q → q ≤ R → lessened (part r q) (l q r) (lam q) ≡ Ok (part r (suc q))

-- the first refusal of the three steps in turn: the step of row k + 1 at a later row q, the quotient of a row, or the force of row k + 1 at a later row q,
-- before which own t is what is left when row t has its turn
pub data IsForceRefused (R : ℕ) (l : ℕ → ℕ → Interval) (C side : ℕ → Interval) (e : RowFault) : Type 0 where
  by_reduce : (k q : ℕ) (left : ℕ → ℕ → Interval) → k < R → IsRightReducedUntil k R l side left → suc k < q → q ≤ R →
      ((p : ℕ) → suc k < p → p < q → (v : Interval) × (lessened (left k p) (l p (suc k)) (left k (suc k)) ≡ Ok v)) →
      lessened (left k q) (l q (suc k)) (left k (suc k)) ≡ Err N.Size → e ≡ Size (one K.e (suc k)) → IsForceRefused R l C side e
  by_divide : (r : ℕ) (left : ℕ → ℕ → Interval) (reduced : ℕ → Interval) → IsRow R r → IsRightReduced interval_row_steps R l side left reduced →
      ((p : ℕ) → 1 ≤ p → p < r → (v : Interval) × (iv_div (reduced p) (C p) ≡ Ok v)) → iv_div (reduced r) (C r) ≡ Err N.Size →
      e ≡ Size (one K.e r) → IsForceRefused R l C side e
  by_force : (k q : ℕ) (left : ℕ → ℕ → Interval) (reduced divided : ℕ → Interval) (part : ℕ → ℕ → Interval) (lam own : ℕ → Interval) →
      IsRightReduced interval_row_steps R l side left reduced → IsRightDivided interval_row_steps R C reduced divided → k < R →
      AreForcesAbove (suc k) R l divided part lam → own (suc (suc k)) ≡ divided (suc k) → suc k < q → q ≤ R →
      ((p : ℕ) → suc k < p → p < q → lessened (own p) (l p (suc k)) (lam p) ≡ Ok (own (suc p))) →
      lessened (own q) (l q (suc k)) (lam q) ≡ Err N.Size → e ≡ Size (one K.lam (suc k)) → IsForceRefused R l C side e

abbrev pub RefusesRowSides : ℕ → View → RowFault → Type 0
RefusesRowSides R given e = IsRowSideRefused (columns_of given) R (Y_at given) (z_at given) (g_at given) e

abbrev pub RefusesRowForces : ℕ → View → RowFault → Type 0
RefusesRowForces R given e = IsForceRefused R (l_at given) (C_at given) (e_at given) e

abbrev pub RefusesAddedForces : ℕ → View → RowFault → Type 0
RefusesAddedForces R given e = IsAddRefused (columns_of given) R (Y_at given) (w_at given) (lam_at given) e
