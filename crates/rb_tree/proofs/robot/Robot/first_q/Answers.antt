use Rattle.std.proofs.Common.{ap, arith}
use Rattle.rb_tree.specs.declared.columns.Start.{Start}
use Rattle.rb_tree.specs.Columns.{leader_at}
use Rattle.rb_tree.proofs.Spans.{entry_within}
use Rattle.rb_tree.proofs.robot.Robot.first_q.Goals as goal

pub returns-clause-within : goal.returns-clause-within
returns-clause-within c =
    omega (arith, ap (λ (s : Start). s.entry) c.start.ensures.exact, entry_within c.args.self.now (leader_at c.args.self.now.bodies c.args.i) c.start.ensures.there)
