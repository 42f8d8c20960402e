use Rattle.std.proofs.Common.{◌≡◌, ◌+◌}
use Rattle.rb_sweep.specs.Sweep.{sweep, upward}
use Rattle.rb_coupling.specs.Sweeps.{eliminate_step, eliminated_of}
use Rattle.rb_coupling.proofs.eliminate.eliminate_rows.Given as goal

abbrev pub invariant-loop-r : goal.invariant-loop-r
invariant-loop-r l = record {
  others : l.work ≡ record l.fn.work { pairs = l.work.pairs };
  rest : sweep (eliminate_step l.fn.work.rows l.rows) (upward l.r (l.rows + 1)) l.work.pairs ≡ eliminated_of l.fn.work.rows l.rows l.fn.work.pairs;
}
