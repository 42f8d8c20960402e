use Rattle.rb_joint.proofs.JointMotionLies.{motion_encloses}
use Rattle.rb_joint.proofs.any.AnyJoint.motion.Goals as goal

pub returns-clause-encloses : goal.returns-clause-encloses
returns-clause-encloses c = motion_encloses _ _ _ c.motion_of.ensures.exact
