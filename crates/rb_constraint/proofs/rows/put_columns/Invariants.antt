use Rattle.std.proofs.Common.{◌≡◌, ◌+◌}
use Rattle.rb_sweep.specs.Sweep.{sweep, upward}
use Rattle.rb_tree.specs.Columns.{column_count}
use Rattle.rb_constraint.specs.Steps.{entry_step, put_of}
use Rattle.rb_constraint.proofs.rows.put_columns.Given as goal

abbrev pub invariant-loop-c : goal.invariant-loop-c
invariant-loop-c l = record {
  others : l.work ≡ record l.fn.work { J = l.work.J };
  rest : sweep (entry_step l.robot l.ways l.r) (upward l.c (column_count l.robot.bodies + 1)) l.work ≡ put_of l.robot l.ways l.r l.fn.work;
}
