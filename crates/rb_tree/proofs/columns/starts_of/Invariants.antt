use Rattle.std.proofs.Common.{◌≡◌, ◌+◌}
use Rattle.rb_tree.specs.Columns.{start_behind, IsListOf}
use Rattle.rb_tree.proofs.columns.starts_of.Given as goal

abbrev pub invariant-loop-body : goal.invariant-loop-body
invariant-loop-body l = (l.next ≡ start_behind l.bodies l.body-index) × IsListOf (l.body-index + 1) (start_behind l.bodies) l.starts.items
