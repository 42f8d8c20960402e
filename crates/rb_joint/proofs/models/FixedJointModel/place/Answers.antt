use Rattle.std.proofs.Common.{rules}
use Rattle.rb_joint.specs.Models.{place_fixed}
use Rattle.rb_joint.specs.Places.{place_shifted}
use Rattle.rb_joint.specs.Models.{fixed_place}
use Rattle.rb_joint.proofs.Choices.{fixed_answer}
use Rattle.rb_joint.proofs.models.FixedJointModel.place.Goals as goal

pub returns-clause-encloses : goal.returns-clause-encloses
unfolding fixed_place place_fixed place_shifted
returns-clause-encloses c = fixed_answer _ _ _ (search rules)
