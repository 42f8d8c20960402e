use Rattle.std.proofs.Common.{◌≡◌, ◌+◌, length}
use Rattle.rb_sweep.specs.Sweep.{sweep, downward}
use Rattle.rb_work.specs.View.{b_at}
use Rattle.rb_rnea.specs.Forces.{add_child}
use Rattle.rb_rnea.proofs.forces.force_at.Given as goal

abbrev pub invariant-loop-j : goal.invariant-loop-j
invariant-loop-j l =
    sweep (add_child l.robot.bodies l.work l.i) (downward (l.i + 1) l.j) l.sum
    ≡ sweep (add_child l.robot.bodies l.work l.i) (downward (l.i + 1) (length l.robot.bodies + 1)) (b_at l.work l.i)
