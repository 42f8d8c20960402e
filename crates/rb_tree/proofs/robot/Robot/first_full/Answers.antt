use Rattle.std.proofs.Common.{◌≡◌, ◌-◌, ◌∙◌, List, length, ap, arith}
use Rattle.rb_tree.specs.declared.columns.Start.{Start}
use Rattle.rb_tree.specs.declared.robot.Body.{Body}
use Rattle.rb_tree.specs.Robot.{Tree}
use Rattle.rb_tree.specs.Columns.{start_behind}
use Rattle.rb_tree.proofs.ListLaws.{IsListOf-get}
use Rattle.rb_tree.proofs.Spans.{full_within}
use Rattle.rb_tree.proofs.robot.Robot.first_full.Goals as goal

pub returns-clause-within : goal.returns-clause-within
returns-clause-within c =
    let bodies = c.self.inside.bodies.items in
    let same : bodies ≡ c.args.self.now.bodies = ap (λ (t : Tree). t.bodies) c.self.view_is in
    let is : c.index.result.now ≡ start_behind c.args.self.now.bodies (c.args.i - 1) =
    c.index.ensures ∙ (IsListOf-get _ (start_behind bodies) c.self.inside.starts.items (c.args.i - 1) _ c.self.invariant.starts_are (omega (arith, ap length same)) ∙ ap (λ (xs : List Body). start_behind xs (c.args.i - 1)) same) in
    omega (arith, ap (λ (s : Start). s.full) is, full_within c.args.self.now c.args.i c.requires)
