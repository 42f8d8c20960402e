use Rattle.std.proofs.Common.{◌≡◌, ◌+◌, length}
use Rattle.rb_sweep.specs.Sweep.{sweep, upward}
use Rattle.rb_work.specs.View.{t_at}
use Rattle.rb_tree.specs.State.{at_place}
use Rattle.rb_rnea.specs.Torques.{add_follower}
use Rattle.rb_rnea.proofs.torques.torque_at.Given as goal

abbrev pub invariant-loop-j : goal.invariant-loop-j
invariant-loop-j l =
    sweep (add_follower l.robot.bodies l.work l.i l.k) (upward l.j (length l.robot.bodies + 1)) l.sum
    ≡ sweep (add_follower l.robot.bodies l.work l.i l.k) (upward 1 (length l.robot.bodies + 1)) (at_place (t_at l.work l.i) l.k)
