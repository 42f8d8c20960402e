use Rattle.std.proofs.Common.{rules}
use Rattle.rb_joint.proofs.Choices.{continuous_column}
use Rattle.rb_joint.proofs.models.ContinuousJointModel.column.Goals as goal

pub returns-clause-encloses : goal.returns-clause-encloses
returns-clause-encloses c = continuous_column _ _ _ _ (search rules)
