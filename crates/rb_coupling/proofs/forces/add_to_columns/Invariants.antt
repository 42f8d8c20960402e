use Rattle.std.proofs.Common.{◌≡◌, ◌+◌, length}
use Rattle.rb_sweep.specs.Sweep.{sweep, upward}
use Rattle.rb_coupling.specs.Sweeps.{add_step, added_of}
use Rattle.rb_coupling.proofs.forces.add_to_columns.Given as goal

abbrev pub invariant-loop-c : goal.invariant-loop-c
invariant-loop-c l = record {
  room : length l.pairs ≡ length l.fn.pairs;
  others : l.work ≡ record l.fn.work { w = l.work.w };
  rest : sweep (add_step (length l.fn.work.up) l.rows l.fn.work.Y l.fn.work.lam) (upward l.c (length l.fn.work.up + 1)) l.work.w ≡ added_of (length l.fn.work.up) l.rows l.fn.work.Y l.fn.work.lam l.fn.work.w;
}
