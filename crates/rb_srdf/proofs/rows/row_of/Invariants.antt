use Rattle.std.proofs.Common.{◌≡◌, take}
use Rattle.std.specs.List.{filter_map}
use Rattle.rb_srdf.specs.Loops.{number_of_item}
use Rattle.rb_srdf.proofs.rows.row_of.Given as goal

abbrev pub invariant-loop-item : goal.invariant-loop-item
invariant-loop-item l = l.held.items ≡ filter_map (number_of_item l.names) (take l.item-index l.items)
