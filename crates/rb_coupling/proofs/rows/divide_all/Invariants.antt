use Rattle.std.proofs.Common.{◌≡◌, ◌+◌, length}
use Rattle.rb_sweep.specs.Sweep.{sweep, upward}
use Rattle.rb_coupling.specs.Sweeps.{divide_step, divided_of}
use Rattle.rb_coupling.proofs.rows.divide_all.Given as goal

abbrev pub invariant-loop-c : goal.invariant-loop-c
invariant-loop-c l = record {
  others : l.work ≡ record l.fn.work { Z = l.work.Z };
  rest : sweep (divide_step l.fn.work.up l.fn.work.packed l.fn.work.Y l.r) (upward l.c (length l.fn.work.up + 1)) l.work.Z ≡ divided_of l.fn.work.up l.fn.work.packed l.fn.work.Y l.r l.fn.work.Z;
}
