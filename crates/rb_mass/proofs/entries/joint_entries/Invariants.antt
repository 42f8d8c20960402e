use Rattle.std.proofs.Common.{◌≡◌}
use Rattle.rb_sweep.specs.Sweep.{sweep, upward}
use Rattle.rb_tree.specs.Columns.{full_at}
use Rattle.rb_mass.specs.Steps.{column_step}
use Rattle.rb_mass.proofs.entries.joint_entries.Given as goal

abbrev pub invariant-loop-k : goal.invariant-loop-k
invariant-loop-k l = record {
  others : l.work ≡ record l.fn.work { H = l.work.H };
  rest : sweep (column_step l.robot l.i) (upward l.k (full_at l.robot.bodies l.i)) l.work ≡ sweep (column_step l.robot l.i) (upward 0 (full_at l.robot.bodies l.i)) l.fn.work;
}
