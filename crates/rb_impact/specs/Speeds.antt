-- The speeds of the columns after an impact. Featherstone, Rigid Body Dynamics Algorithms, chapter 11.
use Rattle.std.specs.Prelude.{◌≡◌, ℕ, ◌+◌, ◌<◌, ◌≤◌, slice_set, Result, Ok, Err}
use Rattle.rb_num.specs.Interval.{Interval}
use Rattle.rb_num.specs.Refusing.{iv_add}
use Rattle.rb_result.specs.Steps.{◌>>=◌}
use Rattle.rb_sweep.specs.Sweep.{sweep, upward}
use Rattle.rb_work.specs.declared.names.NameKind.TheVariants as K
use Rattle.rb_work.specs.declared.names.RowFault.{RowFault}
use Rattle.rb_work.specs.Names.{one, named_as}
use Rattle.rb_work.specs.View.{View, x_at, y_at}
use Rattle.rb_tree.specs.Columns.{column_count}
use Rattle.rb_tree.specs.Robot.{Tree, HasColumn}
use Rattle.rb_tree.specs.State.{Row}
use Rattle.rb_impact.specs.Sides.{speed_before}

-- y[c]: the speed of column c before the impact, and its change
unfoldable pub y_rule : Row → ℕ → View → Result Interval RowFault
y_rule row c w = named_as (one K.y c) (iv_add (speed_before row c) (x_at w c))

-- each value is what its rule gives
pub record AreSpeeds (tree : Tree) (row : Row) (w : View) : Type 0 where
  pub each_y : (c : ℕ) → HasColumn tree c → y_rule row c w ≡ Ok (y_at w c)

-- the first column whose rule refuses
pub record IsSpeedRefused (tree : Tree) (row : Row) (w : View) (e : RowFault) : Type 0 where
  pub column : ℕ
  pub there : HasColumn tree column
  pub until : (c : ℕ) → 1 ≤ c → c < column → (y : Interval) × (y_rule row c w ≡ Ok y)
  pub refused : y_rule row column w ≡ Err e

-- ---- what the sweep over the columns leaves
unfoldable pub speed_step : Row → ℕ → View → Result View RowFault
speed_step row c w = y_rule row c w >>= λ y. Ok (record w { y = slice_set w.y c y })

abbrev pub sped_of : Tree → Row → View → Result View RowFault
sped_of tree row w = sweep (speed_step row) (upward 1 (column_count tree.bodies + 1)) w
