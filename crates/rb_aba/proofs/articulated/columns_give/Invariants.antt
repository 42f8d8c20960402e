use Rattle.std.proofs.Common.{◌≡◌}
use Rattle.rb_sweep.specs.Sweep.{sweep, downward}
use Rattle.rb_aba.specs.Steps.{giving, column_step, columns_of}
use Rattle.rb_aba.proofs.articulated.columns_give.Given as goal

abbrev pub invariant-loop-k : goal.invariant-loop-k
invariant-loop-k l = record {
  others : l.work ≡ record l.fn.work { U = l.work.U; packed = l.work.packed; u = l.work.u };
  rest : sweep (column_step l.robot l.state l.i) (downward 0 l.k) (giving l.work l.rest) ≡ columns_of l.robot l.state l.i (giving l.fn.work l.fn.rest);
}
