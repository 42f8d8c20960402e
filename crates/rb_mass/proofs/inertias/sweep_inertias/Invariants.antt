use Rattle.std.proofs.Common.{◌≡◌}
use Rattle.rb_sweep.specs.Sweep.{sweep, downward}
use Rattle.rb_mass.specs.Steps.{inertia_step, inertias_of}
use Rattle.rb_mass.proofs.inertias.sweep_inertias.Given as goal

abbrev pub invariant-loop-i : goal.invariant-loop-i
invariant-loop-i l = record {
  others : l.work ≡ record l.fn.work { I = l.work.I };
  rest : sweep (inertia_step l.robot) (downward 1 l.i) l.work ≡ inertias_of l.robot l.fn.work;
}
