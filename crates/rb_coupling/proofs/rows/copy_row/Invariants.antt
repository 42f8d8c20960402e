use Rattle.std.proofs.Common.{◌≡◌, ◌+◌, length}
use Rattle.rb_sweep.specs.Sweep.{sweep, upward}
use Rattle.rb_coupling.specs.Sweeps.{copy_step, copied_of}
use Rattle.rb_coupling.proofs.rows.copy_row.Given as goal

abbrev pub invariant-loop-c : goal.invariant-loop-c
invariant-loop-c l = record {
  others : l.work ≡ record l.fn.work { Y = l.work.Y };
  rest : sweep (copy_step (length l.fn.work.up) l.fn.work.J l.r) (upward l.c (length l.fn.work.up + 1)) l.work.Y ≡ copied_of l.fn.work.up l.fn.work.J l.r l.fn.work.Y;
}
