use Rattle.std.proofs.Common.{◌≡◌, replicate}
use Rattle.rb_num.specs.Interval.{zero_interval}
use Rattle.rb_sweep.specs.Sweep.{sweep, upward}
use Rattle.rb_rnea.specs.Rates.{joint_columns}
use Rattle.rb_rnea.specs.Torques.{add_power}
use Rattle.rb_rnea.proofs.torques.powers_at.Given as goal

abbrev pub invariant-loop-k : goal.invariant-loop-k
invariant-loop-k l =
    sweep (add_power l.robot.bodies l.work l.i) (upward l.k (joint_columns l.robot.bodies l.i)) l.powers
    ≡ sweep (add_power l.robot.bodies l.work l.i) (upward 0 (joint_columns l.robot.bodies l.i)) (replicate 6 zero_interval)
