use Rattle.std.proofs.Common.{◌≡◌, ◌+◌}
use Rattle.rb_sweep.specs.Sweep.{sweep, upward}
use Rattle.rb_coupling.specs.Sweeps.{lessen_row_step, right_reduced_of}
use Rattle.rb_coupling.proofs.forces.take_rows.Given as goal

abbrev pub invariant-loop-r : goal.invariant-loop-r
invariant-loop-r l = record {
  others : l.work ≡ record l.fn.work { e = l.work.e };
  rest : sweep (lessen_row_step l.fn.work.rows l.rows l.fn.work.pairs) (upward l.r (l.rows + 1)) l.work.e ≡ right_reduced_of l.fn.work.rows l.rows l.fn.work.pairs l.fn.work.e;
}
