use Rattle.std.proofs.Common.{rules}
use Rattle.rb_joint.proofs.Choices.{prismatic_column}
use Rattle.rb_joint.proofs.models.PrismaticJointModel.column.Goals as goal

pub returns-clause-encloses : goal.returns-clause-encloses
returns-clause-encloses c = prismatic_column _ _ _ _ (search rules)
