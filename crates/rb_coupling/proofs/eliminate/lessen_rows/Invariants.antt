use Rattle.std.proofs.Common.{◌≡◌, ◌+◌}
use Rattle.rb_sweep.specs.Sweep.{sweep, upward}
use Rattle.rb_coupling.specs.Sweeps.{update_row_step, updates_of}
use Rattle.rb_coupling.proofs.eliminate.lessen_rows.Given as goal

abbrev pub invariant-loop-q : goal.invariant-loop-q
invariant-loop-q l = record {
  others : l.work ≡ record l.fn.work { pairs = l.work.pairs };
  rest : sweep (update_row_step l.fn.work.rows l.r) (upward l.q (l.rows + 1)) l.work.pairs ≡ updates_of l.fn.work.rows l.rows l.r l.fn.work.pairs;
}
