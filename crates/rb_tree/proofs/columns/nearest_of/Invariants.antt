use Rattle.std.proofs.Common.{◌≡◌, ◌+◌, take}
use Rattle.std.specs.List.{sum_by}
use Rattle.rb_tree.specs.Columns.{own_columns, nearest_column, IsListOf}
use Rattle.rb_tree.proofs.columns.nearest_of.Given as goal

abbrev pub invariant-loop-body : goal.invariant-loop-body
invariant-loop-body l = (l.columns ≡ sum_by own_columns (take l.body-index l.bodies)) × IsListOf (l.body-index + 1) (nearest_column l.bodies) l.lasts.items
