use Rattle.std.proofs.Common.{◌≡◌, ◌+◌, length}
use Rattle.rb_sweep.specs.Sweep.{sweep, upward}
use Rattle.rb_mass.specs.Steps.{joint_step, entries_of}
use Rattle.rb_mass.proofs.entries.sweep_entries.Given as goal

abbrev pub invariant-loop-i : goal.invariant-loop-i
invariant-loop-i l = record {
  others : l.work ≡ record l.fn.work { H = l.work.H };
  rest : sweep (joint_step l.robot) (upward l.i (length l.robot.bodies + 1)) l.work ≡ entries_of l.robot l.fn.work;
}
