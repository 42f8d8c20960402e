use Rattle.std.proofs.Common.{ap, rules, ◌∙◌}
use Rattle.rb_flat.specs.Joint.{column_count}
use Rattle.rb_joint.specs.Any.{kind_of, any_column}
use Rattle.rb_joint.proofs.JointMotion.{fixed_motion, revolute_motion, prismatic_motion, planar_motion, free_motion}
use Rattle.rb_joint.proofs.any.AnyJoint.motion_of.Goals as goal

pub returns-in-Fixed-clause-exact : goal.returns-in-Fixed-clause-exact
returns-in-Fixed-clause-exact c =
    fixed_motion (any_column c.args.self.now) c.nothing.result c.nothing-in-Fixed.result c.args.rates.now c.nothing.ensures c.nothing-in-Fixed.ensures
    (c.requires ∙ ap (λ j. column_count (kind_of j)) c.in-Fixed.is)

pub returns-in-Revolute-clause-exact : goal.returns-in-Revolute-clause-exact
unfolding any_column
returns-in-Revolute-clause-exact c =
    revolute_motion (any_column c.args.self.now) c.in-Revolute.joint.axis c.column.result c.args.rates.now c.motion_around.result (ap any_column c.in-Revolute.is)
    (c.requires ∙ ap (λ j. column_count (kind_of j)) c.in-Revolute.is) (search rules) (search rules)

pub returns-in-Continuous-clause-exact : goal.returns-in-Continuous-clause-exact
unfolding any_column
returns-in-Continuous-clause-exact c =
    revolute_motion (any_column c.args.self.now) c.in-Continuous.joint.axis c.column-in-Continuous.result c.args.rates.now c.motion_around-in-Continuous.result (ap any_column c.in-Continuous.is)
    (c.requires ∙ ap (λ j. column_count (kind_of j)) c.in-Continuous.is) (search rules) (search rules)

pub returns-in-Prismatic-clause-exact : goal.returns-in-Prismatic-clause-exact
unfolding any_column
returns-in-Prismatic-clause-exact c =
    prismatic_motion (any_column c.args.self.now) c.in-Prismatic.joint.axis c.column-in-Prismatic.result c.args.rates.now c.motion_along.result (ap any_column c.in-Prismatic.is)
    (c.requires ∙ ap (λ j. column_count (kind_of j)) c.in-Prismatic.is) (search rules) (search rules)

pub returns-in-Planar-clause-exact : goal.returns-in-Planar-clause-exact
unfolding any_column
returns-in-Planar-clause-exact c =
    planar_motion _ _ _ (ap any_column c.in-Planar.is) (c.requires ∙ ap (λ j. column_count (kind_of j)) c.in-Planar.is) c.motion_level.ensures.exact

pub returns-in-Free-clause-exact : goal.returns-in-Free-clause-exact
unfolding any_column
returns-in-Free-clause-exact c =
    free_motion _ _ _ (ap any_column c.in-Free.is) (c.requires ∙ ap (λ j. column_count (kind_of j)) c.in-Free.is) c.motion_free.ensures.exact
