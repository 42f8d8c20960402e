use Rattle.std.proofs.Common.{◌≡◌, ◌+◌}
use Rattle.rb_sweep.specs.Sweep.{sweep, upward}
use Rattle.rb_coupling.specs.Sweeps.{update_step, update_row_step}
use Rattle.rb_coupling.proofs.eliminate.lessen_row.Given as goal

abbrev pub invariant-loop-t : goal.invariant-loop-t
invariant-loop-t l = record {
  others : l.work ≡ record l.fn.work { pairs = l.work.pairs };
  rest : sweep (update_step l.fn.work.rows l.r l.q) (upward l.t (l.q + 1)) l.work.pairs ≡ update_row_step l.fn.work.rows l.r l.q l.fn.work.pairs;
}
