use Rattle.std.proofs.Common.{sym, ◌∙◌}
use Rattle.rb_tree.proofs.Shapes.{only_joint}
use Rattle.rb_tree.proofs.robot.Robot.joint_name.Goals as goal

pub returns-clause-only : goal.returns-clause-only
returns-clause-only c =
    let name = sym (c.as_bytes.ensures.value ∙ c.as_str.ensures.same) in
    rw c.body.ensures.is (only_joint c.args.self.now.bodies c.body.ensures.robot c.args.i c.body.result.now c.body.ensures.is c.as_bytes.result.now name)
