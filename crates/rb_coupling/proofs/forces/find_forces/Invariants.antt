use Rattle.std.proofs.Common.{◌≡◌}
use Rattle.rb_sweep.specs.Sweep.{sweep, downward}
use Rattle.rb_coupling.specs.Sweeps.{force_step, forces_of}
use Rattle.rb_coupling.proofs.forces.find_forces.Given as goal

abbrev pub invariant-loop-r : goal.invariant-loop-r
invariant-loop-r l = record {
  others : l.work ≡ record l.fn.work { lam = l.work.lam };
  rest : sweep (force_step l.fn.work.rows l.rows l.fn.work.pairs l.fn.work.e) (downward 1 l.r) l.work.lam ≡ forces_of l.fn.work.rows l.rows l.fn.work.pairs l.fn.work.e l.fn.work.lam;
}
