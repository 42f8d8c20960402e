use Rattle.std.proofs.Common.{◌-◌, arith}
use Rattle.rb_tree.specs.Columns.{leader_at}
use Rattle.rb_tree.proofs.Entries.{columns_own, column_from}
use Rattle.rb_aba.proofs.Named.{no_mimic}
use Rattle.rb_aba.proofs.articulated.column_number.Goals as goal

pub returns-clause-from : goal.returns-clause-from
returns-clause-from c = let bodies = c.args.robot.now.bodies in omega (arith, c.first_column.ensures.exact, column_from bodies (leader_at bodies c.args.i - 1))

pub returns-clause-to : goal.returns-clause-to
returns-clause-to c =
    let bodies = c.args.robot.now.bodies in
    omega (arith, c.first_column.ensures.within, c.requires.column.below, columns_own bodies c.args.i (no_mimic bodies c.requires.lead c.args.i))
