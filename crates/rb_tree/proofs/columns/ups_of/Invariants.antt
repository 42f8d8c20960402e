use Rattle.std.proofs.Common.{◌≡◌, ◌+◌}
use Rattle.rb_tree.specs.Columns.{up_of, IsListOf}
use Rattle.rb_tree.proofs.columns.ups_of.Given as goal

abbrev pub invariant-loop-owner : goal.invariant-loop-owner
invariant-loop-owner l = (l.previous ≡ l.owner-index) × IsListOf l.owner-index (λ k. up_of l.bodies (k + 1)) l.ups.items
