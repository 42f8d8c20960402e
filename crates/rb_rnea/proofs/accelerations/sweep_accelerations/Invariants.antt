use Rattle.std.proofs.Common.{◌≡◌, ◌+◌, length}
use Rattle.rb_sweep.specs.Sweep.{sweep, upward}
use Rattle.rb_rnea.specs.Steps.{acceleration_step, accelerations_of}
use Rattle.rb_rnea.proofs.accelerations.sweep_accelerations.Given as goal

abbrev pub invariant-loop-i : goal.invariant-loop-i
invariant-loop-i l = record {
  others : l.work ≡ record l.fn.work { c = l.work.c; a = l.work.a; b = l.work.b };
  rest : sweep (acceleration_step l.robot (record l.state { a = l.accelerations })) (upward l.i (length l.robot.bodies + 1)) l.work ≡ accelerations_of l.robot (record l.state { a = l.accelerations }) l.fn.work;
}
