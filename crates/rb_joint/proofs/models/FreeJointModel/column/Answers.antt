use Rattle.std.proofs.Common.{arith}
use Rattle.std.proofs.lemmas.Grind.{common_steps}
use Rattle.rb_flat.specs.Joint.{joint_column}
use Rattle.rb_joint.proofs.Choices.{free_column_lies}
use Rattle.rb_joint.proofs.models.FreeJointModel.column.Goals as goal

pub returns-then-k-lt3-clause-encloses : goal.returns-then-k-lt3-clause-encloses
unfolding joint_column
returns-then-k-lt3-clause-encloses c = free_column_lies c.args.self.now.frame c.args.k _ (grind (arith, common_steps))

pub returns-else-k-lt3-clause-encloses : goal.returns-else-k-lt3-clause-encloses
unfolding joint_column
returns-else-k-lt3-clause-encloses c = free_column_lies c.args.self.now.frame c.args.k _ (grind (arith, common_steps))
