use Rattle.std.proofs.Common.{◌≡◌, ◌+◌}
use Rattle.rb_sweep.specs.Sweep.{sweep, upward}
use Rattle.rb_constraint.specs.Constraints.{constraints_of}
use Rattle.rb_constraint.specs.Steps.{row_step, lines_of}
use Rattle.rb_constraint.proofs.rows.sweep_rows.Given as goal

abbrev pub invariant-loop-r : goal.invariant-loop-r
invariant-loop-r l = record {
  others : l.work ≡ record l.fn.work { K = l.work.K; J = l.work.J };
  rest : sweep (row_step l.robot (constraints_of l.cons)) (upward l.r ((constraints_of l.cons).rows + 1)) l.work ≡ lines_of l.robot (constraints_of l.cons) l.fn.work;
}
