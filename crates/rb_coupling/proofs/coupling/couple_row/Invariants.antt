use Rattle.std.proofs.Common.{◌≡◌, ◌+◌, length}
use Rattle.rb_sweep.specs.Sweep.{sweep, upward}
use Rattle.rb_coupling.specs.Sweeps.{couple_step, couple_row_step}
use Rattle.rb_coupling.proofs.coupling.couple_row.Given as goal

abbrev pub invariant-loop-r : goal.invariant-loop-r
invariant-loop-r l = record {
  others : l.work ≡ record l.fn.work { pairs = l.work.pairs };
  rest : sweep (couple_step (length l.fn.work.up) l.fn.work.rows l.compliances l.fn.work.Y l.fn.work.Z l.q) (upward l.r (l.q + 1)) l.work.pairs ≡ couple_row_step (length l.fn.work.up) l.fn.work.rows l.compliances l.fn.work.Y l.fn.work.Z l.q l.fn.work.pairs;
}
