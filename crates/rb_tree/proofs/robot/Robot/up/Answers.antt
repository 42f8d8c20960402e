use Rattle.std.proofs.Common.{◌≡◌, ap, arith}
use Rattle.rb_tree.specs.Robot.{Tree, HasColumn}
use Rattle.rb_tree.specs.Columns.{column_count}
use Rattle.rb_tree.proofs.Spans.{up_is, up_below}
use Rattle.rb_tree.proofs.robot.Robot.up.Goals as goal

pub returns-clause-above : goal.returns-clause-above
returns-clause-above c =
    let tree : Tree = record { name = c.self.inside.name; bodies = c.self.inside.bodies.items; groups = c.self.inside.groups.items; states = c.self.inside.states.items } in
    let count : column_count tree.bodies ≡ column_count c.args.self.now.bodies = ap (λ (t : Tree). column_count t.bodies) c.self.view_is in
    let there : HasColumn tree c.args.c = record { from = c.requires.from; to = omega (arith, count, c.requires.to) } in
    omega (arith, up_below tree c.args.c there c.self.invariant.bodies_kept.parents, up_is tree.bodies c.self.inside.ups.items c.args.c c.index.result.now c.self.invariant.ups_are c.requires.from there.to c.index.ensures)
