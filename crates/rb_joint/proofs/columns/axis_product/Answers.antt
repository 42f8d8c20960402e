use Rattle.std.proofs.Common.{rules}
use Rattle.rb_joint.proofs.AxisTurns.{lone_product}
use Rattle.rb_joint.proofs.columns.axis_product.Goals as goal

pub returns-in-Some-clause-exact : goal.returns-in-Some-clause-exact
returns-in-Some-clause-exact c =
    lone_product c.args.axis.now c.args.v.now c.in-Some.k c.in-Some.part c.part_along.result c.part_times.result c.in-Some.ensures c.part_along.ensures (search rules)
