use Rattle.std.proofs.Common.{◌-◌, arith}
use Rattle.rb_tree.specs.Columns.{leader_at}
use Rattle.rb_tree.proofs.Entries.{columns_followed, column_from}
use Rattle.rb_rnea.proofs.rates.rates_at.Goals as goal

pub overflow_sub-first_column : goal.overflow_sub-first_column
overflow_sub-first_column c = let bodies = c.args.robot.now.bodies in omega (arith, column_from bodies (leader_at bodies c.args.i - 1))

pub number_at-leading-requires : goal.number_at-leading-requires
number_at-leading-requires c =
    let bodies = c.args.robot.now.bodies in
    let one = columns_followed bodies c.args.i c.in-Some.mimic c.mimic_of.result c.mimic_of.ensures.follows c.in-Some.is c.mimic_of.ensures.at in
    omega (arith, one, column_from bodies (leader_at bodies c.args.i - 1))
