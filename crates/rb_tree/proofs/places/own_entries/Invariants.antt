use Rattle.std.proofs.Common.{◌≡◌}
use Rattle.rb_flat.specs.Choice.{items_from}
use Rattle.rb_tree.specs.Columns.{first_entry}
use Rattle.rb_tree.specs.State.{at_place}
use Rattle.rb_tree.specs.Places.{padded}
use Rattle.rb_tree.proofs.places.own_entries.Given as goal

abbrev pub invariant-loop-k : goal.invariant-loop-k
invariant-loop-k l = l.entries ≡ padded 7 (items_from (at_place l.state.q) (first_entry l.robot.bodies l.i) l.k)
