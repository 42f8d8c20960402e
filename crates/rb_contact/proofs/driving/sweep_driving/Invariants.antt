use Rattle.std.proofs.Common.{◌≡◌, ◌+◌}
use Rattle.rb_sweep.specs.Sweep.{sweep, upward}
use Rattle.rb_tree.specs.Columns.{column_count}
use Rattle.rb_contact.specs.Driving.{driving_step, driven_of}
use Rattle.rb_contact.proofs.driving.sweep_driving.Given as goal

abbrev pub invariant-loop-c : goal.invariant-loop-c
invariant-loop-c l = record {
  others : l.work ≡ record l.fn.work { k = l.work.k; w = l.work.w };
  rest : sweep (driving_step l.state) (upward l.c (column_count l.robot.bodies + 1)) l.work ≡ driven_of l.robot l.state l.fn.work;
}
