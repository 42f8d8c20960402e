use Rattle.rb_joint.proofs.Identities.{rotation-product, turn_about-axis, turn_of-quaternion}
use Rattle.rb_joint.proofs.laws.turns.Goals as goal

pub returns-clause-rotation : goal.returns-clause-rotation
returns-clause-rotation c = rotation-product

pub returns-clause-about : goal.returns-clause-about
returns-clause-about c = turn_about-axis

pub returns-clause-quaternion : goal.returns-clause-quaternion
returns-clause-quaternion c = turn_of-quaternion
