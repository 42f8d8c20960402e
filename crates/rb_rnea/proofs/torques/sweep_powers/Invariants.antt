use Rattle.std.proofs.Common.{◌≡◌, ◌+◌, length}
use Rattle.rb_sweep.specs.Sweep.{sweep, upward}
use Rattle.rb_rnea.specs.Steps.{power_step, powers_of}
use Rattle.rb_rnea.proofs.torques.sweep_powers.Given as goal

abbrev pub invariant-loop-i : goal.invariant-loop-i
invariant-loop-i l = record {
  others : l.work ≡ record l.fn.work { t = l.work.t };
  rest : sweep (power_step l.robot) (upward l.i (length l.robot.bodies + 1)) l.work ≡ powers_of l.robot l.fn.work;
}
