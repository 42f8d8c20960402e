-- What the sweeps behind the places of a row leave.
use Rattle.std.specs.Prelude.{ℕ, ◌+◌, List, length, slice_set, Result, Ok}
use Rattle.rb_num.specs.Interval.{Interval}
use Rattle.rb_result.specs.Steps.{◌>>=◌}
use Rattle.rb_sweep.specs.Sweep.{sweep, upward, downward}
use Rattle.rb_work.specs.declared.names.RowFault.{RowFault}
use Rattle.rb_work.specs.View.{View}
use Rattle.rb_work.specs.Zeros.{zero_motion}
use Rattle.rb_tree.specs.Columns.{column_count}
use Rattle.rb_tree.specs.Robot.{Tree}
use Rattle.rb_tree.specs.State.{Row}
use Rattle.rb_rnea.specs.Speeds.{s_rule, v_rule}
use Rattle.rb_rnea.specs.Accelerations.{world_acceleration, c_rule, a_rule, b_rule}
use Rattle.rb_rnea.specs.Forces.{f_rule}
use Rattle.rb_rnea.specs.Torques.{t_rule, T_rule}

unfoldable pub speed_step : Tree → Row → ℕ → View → Result View RowFault
speed_step tree row i w =
    s_rule tree row i >>= λ s.
    let w1 = record w { s = slice_set w.s i s } in
    v_rule tree i w1 >>= λ v.
    Ok (record w1 { v = slice_set w1.v i v })

abbrev pub speeds_of : Tree → Row → View → Result View RowFault
speeds_of tree row w = sweep (speed_step tree row) (upward 1 (length tree.bodies + 1)) (record w { v = slice_set w.v 0 zero_motion })

unfoldable pub acceleration_step : Tree → Row → ℕ → View → Result View RowFault
acceleration_step tree row i w =
    c_rule tree i w >>= λ c.
    let w1 = record w { c = slice_set w.c i c } in
    a_rule tree row i w1 >>= λ a.
    let w2 = record w1 { a = slice_set w1.a i a } in
    b_rule tree i w2 >>= λ b.
    Ok (record w2 { b = slice_set w2.b i b })

abbrev pub accelerations_of : Tree → Row → View → Result View RowFault
accelerations_of tree row w =
    sweep (acceleration_step tree row) (upward 1 (length tree.bodies + 1)) (record w { a = slice_set w.a 0 (world_acceleration row) })

unfoldable pub force_step : Tree → ℕ → View → Result View RowFault
force_step tree i w = f_rule tree i w >>= λ f. Ok (record w { f = slice_set w.f i f })

abbrev pub forces_of : Tree → View → Result View RowFault
forces_of tree w = sweep (force_step tree) (downward 1 (length tree.bodies + 1)) w

unfoldable pub power_step : Tree → ℕ → View → Result View RowFault
power_step tree i w = t_rule tree i w >>= λ t. Ok (record w { t = slice_set w.t i t })

abbrev pub powers_of : Tree → View → Result View RowFault
powers_of tree w = sweep (power_step tree) (upward 1 (length tree.bodies + 1)) w

unfoldable pub torque_step : Tree → ℕ → View → Result View RowFault
torque_step tree c w = T_rule tree c w >>= λ x. Ok (record w { T = slice_set w.T c x })

abbrev pub torques_of : Tree → View → Result View RowFault
torques_of tree w = sweep (torque_step tree) (upward 1 (column_count tree.bodies + 1)) w

-- one after the other, for a row with these accelerations
abbrev pub sweeps_of : Tree → Row → List Interval → View → Result View RowFault
sweeps_of tree row numbers w =
    speeds_of tree row w >>= λ s.
    (accelerations_of tree (record row { a = numbers }) s >>= λ a.
    (forces_of tree a >>= λ f.
    (powers_of tree f >>= λ t. torques_of tree t)))
