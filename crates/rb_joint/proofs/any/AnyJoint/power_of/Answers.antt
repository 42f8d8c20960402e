use Rattle.std.proofs.Common.{ap, sym, rules, ◌∙◌}
use Rattle.rb_num.specs.Arith.{intervals}
use Rattle.rb_spatial.specs.Motions.{power}
use Rattle.rb_joint.specs.Any.{any_column}
use Rattle.rb_joint.proofs.JointMotion.{revolute_power, prismatic_power}
use Rattle.rb_joint.proofs.any.AnyJoint.power_of.Goals as goal

pub returns-in-Revolute-clause-exact : goal.returns-in-Revolute-clause-exact
unfolding any_column
returns-in-Revolute-clause-exact c =
    revolute_power _ c.in-Revolute.joint.axis c.column.result c.args.f.now c.axis_product.result (ap (λ j. any_column j c.args.k) c.in-Revolute.is) (search rules) (search rules)

pub returns-in-Continuous-clause-exact : goal.returns-in-Continuous-clause-exact
unfolding any_column
returns-in-Continuous-clause-exact c =
    revolute_power _ c.in-Continuous.joint.axis c.column-in-Continuous.result c.args.f.now c.axis_product-in-Continuous.result (ap (λ j. any_column j c.args.k) c.in-Continuous.is) (search rules) (search rules)

pub returns-in-Prismatic-clause-exact : goal.returns-in-Prismatic-clause-exact
unfolding any_column
returns-in-Prismatic-clause-exact c =
    prismatic_power _ c.in-Prismatic.joint.axis c.column-in-Prismatic.result c.args.f.now c.axis_product-in-Prismatic.result (ap (λ j. any_column j c.args.k) c.in-Prismatic.is) (search rules) (search rules)

pub returns-in-Planar-clause-exact : goal.returns-in-Planar-clause-exact
unfolding any_column
returns-in-Planar-clause-exact c = c.planar_part.ensures.exact ∙ ap (λ j. power intervals (any_column j c.args.k) c.args.f.now) (sym c.in-Planar.is)

pub returns-in-Free-clause-exact : goal.returns-in-Free-clause-exact
unfolding any_column
returns-in-Free-clause-exact c = c.free_part.ensures.exact ∙ ap (λ j. power intervals (any_column j c.args.k) c.args.f.now) (sym c.in-Free.is)
