-- What the rows of an impact have to gain: the negative of their speed before, times one and the restitution. Featherstone, Rigid Body Dynamics Algorithms,
-- chapter 11.
use Rattle.std.specs.Prelude.{◌≡◌, ℕ, ◌+◌, ◌-◌, ◌<◌, ◌≤◌, [], ◌∷◌, slice_set, Result, Ok, Err}
use Rattle.rb_num.specs.Interval.{Interval, one_interval, negative_of}
use Rattle.rb_num.specs.Dot.{iv_dot}
use Rattle.rb_num.specs.Refusing.{iv_add}
use Rattle.rb_num.specs.declared.interval.NumFault.{NumFault}
use Rattle.rb_result.specs.Steps.{◌>>=◌}
use Rattle.rb_sweep.specs.Sweep.{sweep, upward}
use Rattle.rb_flat.specs.Contact.{Constraints, HasRow}
use Rattle.rb_work.specs.declared.names.NameKind.TheVariants as K
use Rattle.rb_work.specs.declared.names.RowFault.{RowFault}
use Rattle.rb_work.specs.Names.{one, named_as}
use Rattle.rb_work.specs.View.{View, columns_of, J_at, e_at}
use Rattle.rb_tree.specs.State.{Row, at_place}
use Rattle.rb_coupling.specs.Steps.{pairs_of}

-- the speed of column c before the impact
abbrev pub speed_before : Row → ℕ → Interval
speed_before row c = at_place row.v (c - 1)

-- the speed of row r before the impact: the products of its line of the table and the speeds of the columns
abbrev pub row_speed_of : Row → ℕ → View → Result Interval NumFault
row_speed_of row r w = iv_dot (pairs_of (J_at w r) (speed_before row) (columns_of w))

-- what a row of this restitution and speed has to gain
unfoldable pub gain_of : Interval → Interval → Result Interval NumFault
gain_of restitution speed = iv_add one_interval restitution >>= λ s. iv_dot ((s, speed) ∷ []) >>= λ p. Ok (negative_of p)

-- what row r has to gain
abbrev pub row_gain_of : Row → Constraints Interval → ℕ → View → Result Interval NumFault
row_gain_of row k r w = row_speed_of row r w >>= λ j. gain_of (k.numbers r).restitution j

-- e[r]: the same
unfoldable pub e_rule : Row → Constraints Interval → ℕ → View → Result Interval RowFault
e_rule row k r w = named_as (one K.e r) (row_gain_of row k r w)

-- each value is what its rule gives
pub record AreSides (row : Row) (k : Constraints Interval) (w : View) : Type 0 where
  pub each_e : (r : ℕ) → HasRow k r → e_rule row k r w ≡ Ok (e_at w r)

-- the first row whose rule refuses
pub record IsSideRefused (row : Row) (k : Constraints Interval) (w : View) (e : RowFault) : Type 0 where
  pub number : ℕ
  pub there : HasRow k number
  pub until : (r : ℕ) → 1 ≤ r → r < number → (v : Interval) × (e_rule row k r w ≡ Ok v)
  pub refused : e_rule row k number w ≡ Err e

-- ---- what the sweep over the rows leaves
unfoldable pub side_step : Row → Constraints Interval → ℕ → View → Result View RowFault
side_step row k r w = e_rule row k r w >>= λ x. Ok (record w { e = slice_set w.e r x })

abbrev pub gains_of : Row → Constraints Interval → View → Result View RowFault
gains_of row k w = sweep (side_step row k) (upward 1 (k.rows + 1)) w
