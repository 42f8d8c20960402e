use Rattle.std.proofs.Common.{◌≡◌, ◌-◌, ap, refl, length, arith}
use Rattle.std.proofs.lemmas.Option.{slice_get_read}
use Rattle.rb_tree.specs.Robot.{Tree}
use Rattle.rb_tree.proofs.ColumnLaws.{body_found, parent_number}
use Rattle.rb_tree.proofs.robot.Robot.body.Goals as goal

pub returns-clause-is : goal.returns-clause-is
returns-clause-is c =
    let bodies = c.self.inside.bodies.items in
    let same : bodies ≡ c.args.self.now.bodies = ap (λ (t : Tree). t.bodies) c.self.view_is in
    let h = slice_get_read bodies (length bodies) (c.args.i - 1) c.index.result.now refl (omega (arith, ap length same)) c.index.ensures in
    rw (← same) (body_found bodies c.args.i c.index.result.now c.requires.from h)

pub returns-clause-above : goal.returns-clause-above
returns-clause-above c =
    let bodies = c.self.inside.bodies.items in
    let same : bodies ≡ c.args.self.now.bodies = ap (λ (t : Tree). t.bodies) c.self.view_is in
    let h = slice_get_read bodies (length bodies) (c.args.i - 1) c.index.result.now refl (omega (arith, ap length same)) c.index.ensures in
    omega (arith, parent_number bodies c.args.i (c.args.i - 1) c.index.result.now (omega arith) h, c.self.invariant.bodies_kept.parents c.args.i c.requires.from)
