use Rattle.rb_joint.proofs.JointMotionLies.{power_encloses}
use Rattle.rb_joint.proofs.any.AnyJoint.power.Goals as goal

pub returns-clause-encloses : goal.returns-clause-encloses
returns-clause-encloses c = power_encloses _ _ _ _ c.power_of.ensures.exact
