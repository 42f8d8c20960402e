use Rattle.std.proofs.Common.{◌≡◌, ◌+◌, length}
use Rattle.rb_num.specs.Arith.{intervals}
use Rattle.rb_spatial.specs.Inertias.{table}
use Rattle.rb_sweep.specs.Sweep.{sweep, downward}
use Rattle.rb_tree.specs.Numbers.{inertia_at}
use Rattle.rb_aba.specs.Articulated.{add_inertia}
use Rattle.rb_aba.proofs.articulated.inertia_at.Given as goal

abbrev pub invariant-loop-j : goal.invariant-loop-j
invariant-loop-j l =
    sweep (add_inertia l.robot.bodies l.work l.i) (downward (l.i + 1) l.j) l.total
    ≡ sweep (add_inertia l.robot.bodies l.work l.i) (downward (l.i + 1) (length l.robot.bodies + 1)) (table intervals (inertia_at l.robot.bodies l.i))
