-- What the impulses of the rows put on the columns. Featherstone, Rigid Body Dynamics Algorithms, chapter 11.
use Rattle.std.specs.Prelude.{◌≡◌, ℕ, ◌+◌, ◌<◌, ◌≤◌, slice_set, Result, Ok, Err}
use Rattle.rb_num.specs.Interval.{Interval, zero_interval}
use Rattle.rb_num.specs.Dot.{iv_dot}
use Rattle.rb_num.specs.declared.interval.NumFault.{NumFault}
use Rattle.rb_sweep.specs.Sweep.{sweep, upward}
use Rattle.rb_work.specs.declared.names.NameKind.TheVariants as K
use Rattle.rb_work.specs.declared.names.RowFault.{RowFault}
use Rattle.rb_work.specs.Names.{one, named_as}
use Rattle.rb_work.specs.View.{View, Y_at, lam_at, w_at}
use Rattle.rb_tree.specs.Columns.{column_count}
use Rattle.rb_tree.specs.Robot.{Tree, HasColumn}
use Rattle.rb_flat.specs.Contact.{Constraints}
use Rattle.rb_coupling.specs.Steps.{pairs_of}

-- the products of column c of Y and the impulses
abbrev pub push_of : Constraints Interval → ℕ → View → Result Interval NumFault
push_of k c w = iv_dot (pairs_of (λ r. Y_at w r c) (lam_at w) k.rows)

-- w[c]: what the impulses put on column c
unfoldable pub w_rule : Constraints Interval → ℕ → View → Result Interval RowFault
w_rule k c w = named_as (one K.w c) (push_of k c w)

-- each value is what its rule gives
pub record ArePushes (tree : Tree) (k : Constraints Interval) (w : View) : Type 0 where
  pub each_w : (c : ℕ) → HasColumn tree c → w_rule k c w ≡ Ok (w_at w c)

-- the first column whose rule refuses
pub record IsPushRefused (tree : Tree) (k : Constraints Interval) (w : View) (e : RowFault) : Type 0 where
  pub column : ℕ
  pub there : HasColumn tree column
  pub until : (c : ℕ) → 1 ≤ c → c < column → (v : Interval) × (w_rule k c w ≡ Ok v)
  pub refused : w_rule k column w ≡ Err e

-- ---- what the sweep over the columns leaves that takes away what stood there
unfoldable pub clear_step : ℕ → View → Result View RowFault
clear_step c w = Ok (record w { w = slice_set w.w c zero_interval })

abbrev pub cleared_of : Tree → View → Result View RowFault
cleared_of tree w = sweep clear_step (upward 1 (column_count tree.bodies + 1)) w
