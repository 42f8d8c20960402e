use Rattle.rb_body.proofs.joint.joint_in.Goals as goal

pub returns-in-Fixed-clause-numbers : goal.returns-in-Fixed-clause-numbers
returns-in-Fixed-clause-numbers c = c.plain.ensures.numbers c.args.axis

pub returns-in-Planar-clause-numbers : goal.returns-in-Planar-clause-numbers
returns-in-Planar-clause-numbers c = c.plain-in-Planar.ensures.numbers c.args.axis

pub returns-in-Floating-clause-numbers : goal.returns-in-Floating-clause-numbers
returns-in-Floating-clause-numbers c = c.plain-in-Floating.ensures.numbers c.args.axis
