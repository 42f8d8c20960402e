-- What the mass table has to give: the torque of each column less its bias. Featherstone, Rigid Body Dynamics Algorithms, chapter 6.
use Rattle.std.specs.Prelude.{◌≡◌, ℕ, ◌+◌, ◌-◌, ◌<◌, ◌≤◌, slice_set, Result, Ok, Err}
use Rattle.rb_num.specs.Interval.{Interval}
use Rattle.rb_num.specs.Refusing.{iv_sub}
use Rattle.rb_result.specs.Steps.{◌>>=◌}
use Rattle.rb_sweep.specs.Sweep.{sweep, upward}
use Rattle.rb_work.specs.declared.names.NameKind.TheVariants as K
use Rattle.rb_work.specs.declared.names.RowFault.{RowFault}
use Rattle.rb_work.specs.Names.{one, named_as}
use Rattle.rb_work.specs.View.{View, T_at, k_at, w_at}
use Rattle.rb_tree.specs.Columns.{column_count}
use Rattle.rb_tree.specs.Robot.{Tree, HasColumn}
use Rattle.rb_tree.specs.State.{Row, at_place}

-- k[c]: the torque of column c less its bias
unfoldable pub k_rule : Row → ℕ → View → Result Interval RowFault
k_rule row c w = named_as (one K.k c) (iv_sub (at_place row.tau (c - 1)) (T_at w c))

-- each value is what its rule gives
pub record AreDriving (tree : Tree) (row : Row) (w : View) : Type 0 where
  pub each_k : (c : ℕ) → HasColumn tree c → k_rule row c w ≡ Ok (k_at w c)

-- and the same as the right side of the equations
pub record IsRightSide (tree : Tree) (w : View) : Type 0 where
  pub each_w : (c : ℕ) → HasColumn tree c → w_at w c ≡ k_at w c

-- the first column whose rule refuses
pub record IsDrivingRefused (tree : Tree) (row : Row) (w : View) (e : RowFault) : Type 0 where
  pub column : ℕ
  pub there : HasColumn tree column
  pub until : (c : ℕ) → 1 ≤ c → c < column → (k : Interval) × (k_rule row c w ≡ Ok k)
  pub refused : k_rule row column w ≡ Err e

-- ---- what the sweep leaves: each value, and the same as the right side
unfoldable pub driving_step : Row → ℕ → View → Result View RowFault
driving_step row c w = k_rule row c w >>= λ k. Ok (record w { k = slice_set w.k c k; w = slice_set w.w c k })

abbrev pub driven_of : Tree → Row → View → Result View RowFault
driven_of tree row w = sweep (driving_step row) (upward 1 (column_count tree.bodies + 1)) w
