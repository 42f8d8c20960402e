use Rattle.std.proofs.Common.{◌≡◌, ◌+◌, length}
use Rattle.rb_sweep.specs.Sweep.{sweep, upward}
use Rattle.rb_aba.specs.Steps.{down_step, downs_of}
use Rattle.rb_aba.proofs.accelerations.sweep_down.Given as goal

abbrev pub invariant-loop-i : goal.invariant-loop-i
invariant-loop-i l = record {
  others : l.work ≡ record l.fn.work { x = l.work.x; a = l.work.a };
  rest : sweep (down_step l.robot) (upward l.i (length l.robot.bodies + 1)) l.work ≡ downs_of l.robot l.state l.fn.work;
}
