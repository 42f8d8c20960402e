use Rattle.std.proofs.Common.{ap, arith}
use Rattle.rb_tree.specs.declared.columns.Start.{Start}
use Rattle.rb_tree.specs.Columns.{leader_at}
use Rattle.rb_tree.proofs.Spans.{column_within_all}
use Rattle.rb_tree.proofs.robot.Robot.first_column.Goals as goal

pub returns-clause-within : goal.returns-clause-within
returns-clause-within c =
    omega (arith, ap (λ (s : Start). s.column) c.start.ensures.exact, column_within_all c.args.self.now (leader_at c.args.self.now.bodies c.args.i) c.start.ensures.there)
