use Rattle.std.proofs.Common.{◌≡◌, ◌+◌, length}
use Rattle.rb_num.specs.Interval.{zero_interval}
use Rattle.rb_sweep.specs.Sweep.{sweep, upward}
use Rattle.rb_constraint.specs.Rows.{add_joint}
use Rattle.rb_constraint.proofs.rows.summed.Given as goal

abbrev pub invariant-loop-j : goal.invariant-loop-j
invariant-loop-j l =
    sweep (add_joint l.robot.bodies l.ways l.of.i l.of.k) (upward l.j (length l.robot.bodies + 1)) l.sum
    ≡ sweep (add_joint l.robot.bodies l.ways l.of.i l.of.k) (upward 1 (length l.robot.bodies + 1)) zero_interval
