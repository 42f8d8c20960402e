use Rattle.std.proofs.Common.{rules}
use Rattle.rb_body.specs.Joint.{joint_by}
use Rattle.rb_body.proofs.Models.{joint_encloses}
use Rattle.rb_body.proofs.Refusals.{joint_range, joint_zero}
use Rattle.rb_body.proofs.joint.joint_of.Goals as goal

pub returns-clause-encloses : goal.returns-clause-encloses
unfolding joint_by
returns-clause-encloses c = joint_encloses c.args.kind c.args.xyz c.args.rpy c.args.axis _ (search rules)

pub returns-clause-range : goal.returns-clause-range
unfolding joint_by
returns-clause-range c = joint_range c.args.kind c.args.xyz c.args.rpy c.args.axis _ (search rules)

pub returns-clause-zero : goal.returns-clause-zero
unfolding joint_by
returns-clause-zero c = joint_zero c.args.kind c.args.xyz c.args.rpy c.args.axis _ (search rules)
