use Rattle.std.proofs.Common.{◌≡◌, ◌+◌}
use Rattle.rb_sweep.specs.Sweep.{sweep, upward}
use Rattle.rb_coupling.specs.Sweeps.{keep_step, kept_of}
use Rattle.rb_coupling.proofs.forces.keep_forces.Given as goal

abbrev pub invariant-loop-r : goal.invariant-loop-r
invariant-loop-r l = record {
  others : l.work ≡ record l.fn.work { e = l.work.e };
  rest : sweep (keep_step l.fn.work.lam) (upward l.r (l.rows + 1)) l.work.e ≡ kept_of l.rows l.fn.work.lam l.fn.work.e;
}
