use Rattle.std.proofs.Common.{◌≡◌}
use Rattle.rb_sweep.specs.Sweep.{sweep, downward}
use Rattle.rb_factor.specs.Sweeps.{column_step, factor_of}
use Rattle.rb_factor.proofs.factors.eliminate_all.Given as goal

abbrev pub invariant-loop-c : goal.invariant-loop-c
invariant-loop-c l = record {
  others : l.work ≡ record l.fn.work { packed = l.work.packed };
  rest : sweep (column_step l.fn.work.up) (downward 1 l.c) l.work.packed ≡ factor_of l.fn.work.up l.fn.work.packed;
}
