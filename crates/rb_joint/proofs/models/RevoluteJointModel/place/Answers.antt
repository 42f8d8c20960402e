use Rattle.std.proofs.Common.{arith}
use Rattle.std.proofs.lemmas.Grind.{common_steps}
use Rattle.rb_joint.specs.Models.{revolute_place}
use Rattle.rb_joint.proofs.Choices.{revolute_answer}
use Rattle.rb_joint.proofs.models.RevoluteJointModel.place.Goals as goal

pub returns-clause-encloses : goal.returns-clause-encloses
unfolding revolute_place
returns-clause-encloses c = revolute_answer _ _ _ _ (grind (arith, common_steps))
