use Rattle.rb_flat.proofs.Identities.{turn_keeps_axis, quaternion_keeps_vector, turns_about_coordinates, roll_pitch_yaw_in_turn, points_in_turn}
use Rattle.rb_flat.proofs.laws.turn_law.Goals as goal

pub returns-clause-axis : goal.returns-clause-axis
returns-clause-axis c = turn_keeps_axis

pub returns-clause-quaternion : goal.returns-clause-quaternion
returns-clause-quaternion c = quaternion_keeps_vector

pub returns-clause-coordinates : goal.returns-clause-coordinates
returns-clause-coordinates c = turns_about_coordinates

pub returns-clause-angles : goal.returns-clause-angles
returns-clause-angles c = roll_pitch_yaw_in_turn

pub returns-clause-points : goal.returns-clause-points
returns-clause-points c = points_in_turn
