use Rattle.std.proofs.Common.{◌≡◌, ◌+◌, length}
use Rattle.rb_sweep.specs.Sweep.{sweep, upward}
use Rattle.rb_rnea.specs.Steps.{speed_step, speeds_of}
use Rattle.rb_rnea.proofs.speeds.sweep_speeds.Given as goal

abbrev pub invariant-loop-i : goal.invariant-loop-i
invariant-loop-i l = record {
  others : l.work ≡ record l.fn.work { s = l.work.s; v = l.work.v };
  rest : sweep (speed_step l.robot l.state) (upward l.i (length l.robot.bodies + 1)) l.work ≡ speeds_of l.robot l.state l.fn.work;
}
