use Rattle.rb_tree.specs.Robot.{Tree}
use Rattle.rb_tree.proofs.Spans.{ups_below}
use Rattle.rb_tree.proofs.robot.Robot.ups.Goals as goal

pub returns-clause-above : goal.returns-clause-above
returns-clause-above c =
    let tree : Tree = record { name = c.self.inside.name; bodies = c.self.inside.bodies.items; groups = c.self.inside.groups.items; states = c.self.inside.states.items } in
    rw c.as_slice.ensures.value (ups_below tree c.self.inside.ups.items c.self.invariant.ups_are c.self.invariant.bodies_kept.parents)
