use Rattle.std.proofs.Common.{rules}
use Rattle.rb_joint.proofs.Choices.{revolute_column}
use Rattle.rb_joint.proofs.models.RevoluteJointModel.column.Goals as goal

pub returns-clause-encloses : goal.returns-clause-encloses
returns-clause-encloses c = revolute_column _ _ _ _ (search rules)
