use Rattle.std.proofs.Common.{ap, rules, ◌∙◌}
use Rattle.rb_flat.specs.Joint.{column_count}
use Rattle.rb_joint.specs.Any.{kind_of, any_column}
use Rattle.rb_joint.proofs.JointTurning.{fixed_turning, revolute_turning, prismatic_turning}
use Rattle.rb_joint.proofs.any.AnyJoint.turning_of.Goals as goal

pub returns-in-Fixed-clause-exact : goal.returns-in-Fixed-clause-exact
returns-in-Fixed-clause-exact c =
    fixed_turning (any_column c.args.self.now) c.args.v.now c.nothing.result c.nothing-in-Fixed.result c.args.rates.now c.nothing.ensures c.nothing-in-Fixed.ensures
    (c.requires ∙ ap (λ j. column_count (kind_of j)) c.in-Fixed.is)

pub returns-in-Revolute-clause-exact : goal.returns-in-Revolute-clause-exact
unfolding any_column
returns-in-Revolute-clause-exact c =
    revolute_turning (any_column c.args.self.now) c.in-Revolute.joint.axis c.column.result c.args.v.now c.args.rates.now c.turning_around.result (ap any_column c.in-Revolute.is)
    (c.requires ∙ ap (λ j. column_count (kind_of j)) c.in-Revolute.is) (search rules) (search rules)

pub returns-in-Continuous-clause-exact : goal.returns-in-Continuous-clause-exact
unfolding any_column
returns-in-Continuous-clause-exact c =
    revolute_turning (any_column c.args.self.now) c.in-Continuous.joint.axis c.column-in-Continuous.result c.args.v.now c.args.rates.now c.turning_around-in-Continuous.result (ap any_column c.in-Continuous.is)
    (c.requires ∙ ap (λ j. column_count (kind_of j)) c.in-Continuous.is) (search rules) (search rules)

pub returns-in-Prismatic-clause-exact : goal.returns-in-Prismatic-clause-exact
unfolding any_column
returns-in-Prismatic-clause-exact c =
    prismatic_turning (any_column c.args.self.now) c.in-Prismatic.joint.axis c.column-in-Prismatic.result c.args.v.now c.args.rates.now c.turning_along.result (ap any_column c.in-Prismatic.is)
    (c.requires ∙ ap (λ j. column_count (kind_of j)) c.in-Prismatic.is) (search rules) (search rules)
