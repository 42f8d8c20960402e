use Rattle.std.proofs.Common.{◌≡◌, ◌+◌, length}
use Rattle.rb_num.specs.Interval.{zero_interval}
use Rattle.rb_sweep.specs.Sweep.{sweep, upward}
use Rattle.rb_mass.specs.Table.{add_joint}
use Rattle.rb_mass.proofs.masses.gathered.Given as goal

abbrev pub invariant-loop-i : goal.invariant-loop-i
invariant-loop-i l =
    sweep (add_joint l.robot l.work l.c l.d) (upward l.i (length l.robot.bodies + 1)) l.sum
    ≡ sweep (add_joint l.robot l.work l.c l.d) (upward 1 (length l.robot.bodies + 1)) zero_interval
