use Rattle.std.proofs.Common.{◌≡◌, ◌++◌, ◌-◌}
use Rattle.rb_model.proofs.Numbered.{bodies_text}
use Rattle.rb_model.proofs.model.put_bodies.Given as goal

abbrev pub invariant-loop-i : goal.invariant-loop-i
invariant-loop-i l = l.text.items ≡ l.fn.text.items ++ bodies_text l.robot.bodies (l.i - 1)
