use Rattle.std.proofs.Common.{◌≡◌, ◌+◌}
use Rattle.rb_sweep.specs.Sweep.{sweep, upward}
use Rattle.rb_coupling.specs.Sweeps.{lessen_step, lessen_row_step}
use Rattle.rb_coupling.proofs.forces.take_row.Given as goal

abbrev pub invariant-loop-q : goal.invariant-loop-q
invariant-loop-q l = record {
  others : l.work ≡ record l.fn.work { e = l.work.e };
  rest : sweep (lessen_step l.fn.work.rows l.fn.work.pairs l.r l.own) (upward l.q (l.rows + 1)) l.work.e ≡ lessen_row_step l.fn.work.rows l.rows l.fn.work.pairs l.r l.fn.work.e;
}
