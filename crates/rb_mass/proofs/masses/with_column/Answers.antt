use Rattle.std.proofs.Common.{sym, ◌∙◌}
use Rattle.rb_mass.proofs.Ways.{column_added, column_passed}
use Rattle.rb_mass.proofs.masses.with_column.Goals as goal

pub returns-then-is_sought-clause-exact : goal.returns-then-is_sought-clause-exact
returns-then-is_sought-clause-exact c =
    c.on_the_way.ensures.exact
    ∙ column_added c.args.robot.now c.bodies-tree.ensures.kept c.args.work.now c.args.sought.c c.args.sought.d c.args.of.body c.args.of.k c.args.sum c.requires.there.body
    (sym c.is_sought.ensures ∙ c.if-is_sought.true)

pub returns-else-is_sought-clause-exact : goal.returns-else-is_sought-clause-exact
returns-else-is_sought-clause-exact c =
    sym
    (column_passed c.args.robot.now c.bodies-tree.ensures.kept c.args.work.now c.args.sought.c c.args.sought.d c.args.of.body c.args.of.k c.args.sum
    (sym c.is_sought.ensures ∙ c.if-is_sought.false))
