use Rattle.std.proofs.Common.{◌≡◌, ◌+◌, length}
use Rattle.std.specs.List.{list_any}
use Rattle.rb_sweep.specs.Sweep.{upward}
use Rattle.rb_flat.specs.Dynamics.{follows}
use Rattle.rb_tree.specs.Numbers.{mimic_at}
use Rattle.rb_tree.specs.Shape.{master_of}
use Rattle.rb_constraint.specs.Rows.{is_led}
use Rattle.rb_constraint.proofs.rows.is_led.Given as goal

abbrev pub invariant-loop-j : goal.invariant-loop-j
invariant-loop-j l =
    list_any (λ j. follows (master_of (mimic_at l.robot.bodies j)) l.i) (upward l.j (length l.robot.bodies + 1)) ≡ is_led l.robot.bodies l.i
