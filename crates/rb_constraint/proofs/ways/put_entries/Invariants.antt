use Rattle.std.proofs.Common.{◌≡◌}
use Rattle.rb_sweep.specs.Sweep.{sweep, upward}
use Rattle.rb_tree.specs.Columns.{full_at}
use Rattle.rb_constraint.specs.Rows.{entry_at_column, entries_at_body}
use Rattle.rb_constraint.proofs.ways.put_entries.Given as goal

abbrev pub invariant-loop-k : goal.invariant-loop-k
invariant-loop-k l =
    sweep (entry_at_column l.robot.bodies l.a) (upward l.k (full_at l.robot.bodies l.a)) l.way ≡ entries_at_body l.robot.bodies l.a l.fn.way
