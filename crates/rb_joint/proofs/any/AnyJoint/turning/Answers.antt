use Rattle.rb_joint.proofs.JointMotionLies.{turning_encloses}
use Rattle.rb_joint.proofs.any.AnyJoint.turning.Goals as goal

pub returns-clause-encloses : goal.returns-clause-encloses
returns-clause-encloses c = turning_encloses _ _ _ _ c.turning_of.ensures.exact
