use Rattle.std.proofs.Common.{◌≡◌, ◌+◌, length}
use Rattle.rb_sweep.specs.Sweep.{sweep, upward}
use Rattle.rb_coupling.specs.Sweeps.{couple_row_step, coupled_of}
use Rattle.rb_coupling.proofs.coupling.couple_rows.Given as goal

abbrev pub invariant-loop-q : goal.invariant-loop-q
invariant-loop-q l = record {
  others : l.work ≡ record l.fn.work { pairs = l.work.pairs };
  rest : sweep (couple_row_step (length l.fn.work.up) l.fn.work.rows l.compliances l.fn.work.Y l.fn.work.Z) (upward l.q (l.rows + 1)) l.work.pairs ≡ coupled_of (length l.fn.work.up) l.fn.work.rows l.rows l.compliances l.fn.work.Y l.fn.work.Z l.fn.work.pairs;
}
