use Rattle.std.proofs.Common.{◌≡◌}
use Rattle.rb_sweep.specs.Sweep.{sweep, downward}
use Rattle.rb_factor.specs.Sweeps.{reduce_step, reduce_of}
use Rattle.rb_factor.proofs.solution.take_all.Given as goal

abbrev pub invariant-loop-c : goal.invariant-loop-c
invariant-loop-c l = record {
  others : l.work ≡ record l.fn.work { w = l.work.w };
  rest : sweep (reduce_step l.fn.work.up l.fn.work.packed) (downward 1 l.c) l.work.w ≡ reduce_of l.fn.work.up l.fn.work.packed l.fn.work.w;
}
