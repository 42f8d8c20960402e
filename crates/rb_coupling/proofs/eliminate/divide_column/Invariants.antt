use Rattle.std.proofs.Common.{◌≡◌, ◌+◌}
use Rattle.rb_sweep.specs.Sweep.{sweep, upward}
use Rattle.rb_coupling.specs.Sweeps.{quotient_step, quotients_of}
use Rattle.rb_coupling.proofs.eliminate.divide_column.Given as goal

abbrev pub invariant-loop-q : goal.invariant-loop-q
invariant-loop-q l = record {
  others : l.work ≡ record l.fn.work { pairs = l.work.pairs };
  rest : sweep (quotient_step l.fn.work.rows l.r l.p) (upward l.q (l.rows + 1)) l.work.pairs ≡ quotients_of l.fn.work.rows l.rows l.r l.p l.fn.work.pairs;
}
