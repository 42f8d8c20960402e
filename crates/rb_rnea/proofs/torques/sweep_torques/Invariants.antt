use Rattle.std.proofs.Common.{◌≡◌, ◌+◌}
use Rattle.rb_sweep.specs.Sweep.{sweep, upward}
use Rattle.rb_tree.specs.Columns.{column_count}
use Rattle.rb_rnea.specs.Steps.{torque_step, torques_of}
use Rattle.rb_rnea.proofs.torques.sweep_torques.Given as goal

abbrev pub invariant-loop-c : goal.invariant-loop-c
invariant-loop-c l = record {
  others : l.work ≡ record l.fn.work { T = l.work.T };
  rest : sweep (torque_step l.robot) (upward l.c (column_count l.robot.bodies + 1)) l.work ≡ torques_of l.robot l.fn.work;
}
