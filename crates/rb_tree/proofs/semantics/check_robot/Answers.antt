use Rattle.std.proofs.Common.{Some, rules}
use Rattle.rb_tree.specs.declared.faults.TreeKind.TheVariants.{OtherRobot}
use Rattle.rb_tree.specs.declared.faults.WhichFile.TheVariants.{Srdf}
use Rattle.rb_tree.specs.Faults.{IsIn}
use Rattle.rb_tree.specs.Refusals.{IsOtherRobot}
use Rattle.rb_tree.proofs.SemanticsSteps.{other_robot_first}
use Rattle.rb_tree.proofs.semantics.check_robot.Goals as goal

pub returns-else-eq-clause-err : goal.returns-else-eq-clause-err
returns-else-eq-clause-err c =
    let other : IsIn Srdf OtherRobot c.new.result (IsOtherRobot c.args.urdf.now (Some c.args.srdf.now) c.new.result.at) = search rules in
    other_robot_first c.args.urdf.now c.args.srdf.now c.new.result other
