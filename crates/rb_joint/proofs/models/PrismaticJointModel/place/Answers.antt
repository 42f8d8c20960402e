use Rattle.std.proofs.Common.{arith}
use Rattle.std.proofs.lemmas.Grind.{common_steps}
use Rattle.rb_joint.specs.Models.{prismatic_place}
use Rattle.rb_joint.specs.Models.{place_along}
use Rattle.rb_joint.proofs.Choices.{prismatic_answer}
use Rattle.rb_joint.proofs.models.PrismaticJointModel.place.Goals as goal

pub returns-clause-encloses : goal.returns-clause-encloses
unfolding prismatic_place place_along
returns-clause-encloses c = prismatic_answer _ _ _ _ (grind (arith, common_steps))
