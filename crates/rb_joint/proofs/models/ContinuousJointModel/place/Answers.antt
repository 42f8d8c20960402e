use Rattle.std.proofs.Common.{arith}
use Rattle.std.proofs.lemmas.Grind.{common_steps}
use Rattle.rb_joint.specs.Models.{continuous_place}
use Rattle.rb_joint.proofs.Choices.{continuous_answer}
use Rattle.rb_joint.proofs.models.ContinuousJointModel.place.Goals as goal

pub returns-clause-encloses : goal.returns-clause-encloses
unfolding continuous_place
returns-clause-encloses c = continuous_answer _ _ _ _ (grind (arith, common_steps))
