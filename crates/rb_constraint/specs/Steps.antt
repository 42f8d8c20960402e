-- What the sweeps over the bodies and over the rows leave.
use Rattle.std.specs.Prelude.{ℕ, ◌+◌, length, slice_set, Result, Ok}
use Rattle.rb_num.specs.Interval.{Interval}
use Rattle.rb_result.specs.Steps.{◌>>=◌}
use Rattle.rb_sweep.specs.Sweep.{sweep, upward}
use Rattle.rb_flat.specs.Contact.{Constraints}
use Rattle.rb_work.specs.declared.names.NameKind.TheVariants as K
use Rattle.rb_work.specs.declared.names.RowFault.{RowFault}
use Rattle.rb_work.specs.Names.{one, named_as}
use Rattle.rb_work.specs.View.{View, column_place}
use Rattle.rb_tree.specs.Columns.{column_count}
use Rattle.rb_tree.specs.Robot.{Tree}
use Rattle.rb_constraint.specs.Rows.{no_turn, O_rule, K_rule, ways_by, column_by}
use Rattle.rb_constraint.specs.declared.ways.Ways.{Ways}
use Rattle.rb_constraint.specs.Bias.{g_rule}

-- ---- rows
unfoldable pub turn_step : Tree → ℕ → View → Result View RowFault
turn_step tree i w = O_rule tree i w >>= λ o. Ok (record w { O = slice_set w.O i o })

abbrev pub turns_of : Tree → View → Result View RowFault
turns_of tree w = sweep (turn_step tree) (upward 1 (length tree.bodies + 1)) (record w { O = slice_set w.O 0 no_turn })

unfoldable pub entry_step : Tree → Ways → ℕ → ℕ → View → Result View RowFault
entry_step tree ways r c w =
    named_as (one K.J r) (column_by tree.bodies ways c) >>= λ x. Ok (record w { J = slice_set w.J (column_place w r c) x })

abbrev pub put_of : Tree → Ways → ℕ → View → Result View RowFault
put_of tree ways r w = sweep (entry_step tree ways r) (upward 0 (column_count tree.bodies + 1)) w

unfoldable pub entries_step : Tree → Constraints Interval → ℕ → View → Result View RowFault
entries_step tree k r w = named_as (one K.J r) (ways_by tree.bodies k r w) >>= λ ways. put_of tree ways r w

unfoldable pub row_step : Tree → Constraints Interval → ℕ → View → Result View RowFault
row_step tree k r w = K_rule k r w >>= λ forces. entries_step tree k r (record w { K = slice_set w.K r forces })

abbrev pub lines_of : Tree → Constraints Interval → View → Result View RowFault
lines_of tree k w = sweep (row_step tree k) (upward 1 (k.rows + 1)) w

-- one after the other
abbrev pub fills_of : Tree → Constraints Interval → View → Result View RowFault
fills_of tree k w = turns_of tree w >>= λ s. lines_of tree k s

-- ---- their bias
unfoldable pub bias_step : Constraints Interval → ℕ → View → Result View RowFault
bias_step k r w = g_rule k r w >>= λ x. Ok (record w { g = slice_set w.g r x })

abbrev pub bias_of : Constraints Interval → View → Result View RowFault
bias_of k w = sweep (bias_step k) (upward 1 (k.rows + 1)) w
