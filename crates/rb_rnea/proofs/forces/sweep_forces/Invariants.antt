use Rattle.std.proofs.Common.{◌≡◌}
use Rattle.rb_sweep.specs.Sweep.{sweep, downward}
use Rattle.rb_rnea.specs.Steps.{force_step, forces_of}
use Rattle.rb_rnea.proofs.forces.sweep_forces.Given as goal

abbrev pub invariant-loop-i : goal.invariant-loop-i
invariant-loop-i l = record {
  others : l.work ≡ record l.fn.work { f = l.work.f };
  rest : sweep (force_step l.robot) (downward 1 l.i) l.work ≡ forces_of l.robot l.fn.work;
}
