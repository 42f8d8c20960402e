use Rattle.std.proofs.Common.{◌≡◌}
use Rattle.rb_sweep.specs.Sweep.{sweep, upward}
use Rattle.rb_tree.specs.Columns.{full_at}
use Rattle.rb_mass.specs.Table.{add_column}
use Rattle.rb_mass.proofs.masses.with_joint.Given as goal

abbrev pub invariant-loop-k : goal.invariant-loop-k
invariant-loop-k l =
    sweep (add_column l.robot l.work l.sought.c l.sought.d l.i) (upward l.k (full_at l.robot.bodies l.i)) l.sum
    ≡ sweep (add_column l.robot l.work l.sought.c l.sought.d l.i) (upward 0 (full_at l.robot.bodies l.i)) l.fn.start
