use Rattle.std.proofs.Common.{arith}
use Rattle.std.proofs.lemmas.Grind.{common_steps}
use Rattle.rb_joint.specs.Models.{planar_place}
use Rattle.rb_joint.specs.Models.{place_level}
use Rattle.rb_joint.proofs.Choices.{planar_answer}
use Rattle.rb_joint.proofs.models.PlanarJointModel.place.Goals as goal

pub returns-clause-encloses : goal.returns-clause-encloses
unfolding planar_place place_level
returns-clause-encloses c = planar_answer _ _ _ (grind (arith, common_steps))
