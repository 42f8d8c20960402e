use Rattle.std.proofs.Common.{◌≡◌}
use Rattle.rb_sweep.specs.Sweep.{sweep, downward}
use Rattle.rb_coupling.specs.Sweeps.{reduce_step, reduced_of}
use Rattle.rb_coupling.proofs.rows.take_all.Given as goal

abbrev pub invariant-loop-c : goal.invariant-loop-c
invariant-loop-c l = record {
  others : l.work ≡ record l.fn.work { Y = l.work.Y };
  rest : sweep (reduce_step l.fn.work.up l.fn.work.packed l.r) (downward 1 l.c) l.work.Y ≡ reduced_of l.fn.work.up l.fn.work.packed l.r l.fn.work.Y;
}
