use Rattle.std.proofs.Common.{◌≡◌, ◌+◌, length}
use Rattle.rb_sweep.specs.Sweep.{sweep, downward}
use Rattle.rb_aba.specs.Articulated.{add_bias}
use Rattle.rb_aba.proofs.articulated.bias_from.Given as goal

abbrev pub invariant-loop-j : goal.invariant-loop-j
invariant-loop-j l =
    sweep (add_bias l.robot.bodies l.work l.i) (downward (l.i + 1) l.j) l.total
    ≡ sweep (add_bias l.robot.bodies l.work l.i) (downward (l.i + 1) (length l.robot.bodies + 1)) l.fn.own
