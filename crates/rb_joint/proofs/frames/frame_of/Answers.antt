use Rattle.std.proofs.Common.{rules}
use Rattle.rb_joint.specs.Frames.{frame_by}
use Rattle.rb_joint.proofs.Choices.{frame_answer}
use Rattle.rb_joint.proofs.Ranges.{frame_range, frame_not_unit}
use Rattle.rb_joint.proofs.frames.frame_of.Goals as goal

pub returns-clause-encloses : goal.returns-clause-encloses
unfolding frame_by
returns-clause-encloses c = frame_answer _ _ _ (search rules)

pub returns-in_err-roll-clause-range : goal.returns-in_err-roll-clause-range
unfolding frame_by
returns-in_err-roll-clause-range c = frame_range c.args.xyz.now c.args.rpy.now _ (search rules)

pub returns-in_err-pitch-clause-range : goal.returns-in_err-pitch-clause-range
unfolding frame_by
returns-in_err-pitch-clause-range c = frame_range c.args.xyz.now c.args.rpy.now _ (search rules)

pub returns-in_err-yaw-clause-range : goal.returns-in_err-yaw-clause-range
unfolding frame_by
returns-in_err-yaw-clause-range c = frame_range c.args.xyz.now c.args.rpy.now _ (search rules)

pub returns-in_err-rot-clause-range : goal.returns-in_err-rot-clause-range
unfolding frame_by
returns-in_err-rot-clause-range c = frame_range c.args.xyz.now c.args.rpy.now _ (search rules)

pub returns-clause-range : goal.returns-clause-range
unfolding frame_by
returns-clause-range c = frame_range c.args.xyz.now c.args.rpy.now _ (search rules)

pub returns-in_err-roll-clause-faults : goal.returns-in_err-roll-clause-faults
unfolding frame_by
returns-in_err-roll-clause-faults c = frame_not_unit c.args.xyz.now c.args.rpy.now _ (search rules)

pub returns-in_err-pitch-clause-faults : goal.returns-in_err-pitch-clause-faults
unfolding frame_by
returns-in_err-pitch-clause-faults c = frame_not_unit c.args.xyz.now c.args.rpy.now _ (search rules)

pub returns-in_err-yaw-clause-faults : goal.returns-in_err-yaw-clause-faults
unfolding frame_by
returns-in_err-yaw-clause-faults c = frame_not_unit c.args.xyz.now c.args.rpy.now _ (search rules)

pub returns-in_err-rot-clause-faults : goal.returns-in_err-rot-clause-faults
unfolding frame_by
returns-in_err-rot-clause-faults c = frame_not_unit c.args.xyz.now c.args.rpy.now _ (search rules)
