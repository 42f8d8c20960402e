use Rattle.std.proofs.Common.{◌≡◌, ◌+◌}
use Rattle.rb_sweep.specs.Sweep.{sweep, upward}
use Rattle.rb_tree.specs.Columns.{column_count}
use Rattle.rb_impact.specs.Speeds.{speed_step, sped_of}
use Rattle.rb_impact.proofs.speeds.sweep_speeds.Given as goal

abbrev pub invariant-loop-c : goal.invariant-loop-c
invariant-loop-c l = record {
  others : l.work ≡ record l.fn.work { y = l.work.y };
  rest : sweep (speed_step l.state) (upward l.c (column_count l.robot.bodies + 1)) l.work ≡ sped_of l.robot l.state l.fn.work;
}
