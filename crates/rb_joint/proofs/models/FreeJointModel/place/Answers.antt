use Rattle.std.proofs.Common.{arith}
use Rattle.std.proofs.lemmas.Grind.{common_steps}
use Rattle.rb_joint.specs.Models.{free_place}
use Rattle.rb_joint.specs.Models.{place_free}
use Rattle.rb_joint.proofs.Choices.{free_answer}
use Rattle.rb_joint.proofs.models.FreeJointModel.place.Goals as goal

pub returns-clause-encloses : goal.returns-clause-encloses
unfolding free_place place_free
returns-clause-encloses c = free_answer _ _ _ (grind (arith, common_steps))
