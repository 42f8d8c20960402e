use Rattle.std.proofs.Common.{◌≡◌, ◌-◌}
use Rattle.rb_flat.specs.Choice.{items_from}
use Rattle.rb_tree.specs.Columns.{first_column}
use Rattle.rb_tree.specs.State.{at_place}
use Rattle.rb_tree.specs.Places.{padded}
use Rattle.rb_rnea.proofs.rates.own_rates.Given as goal

abbrev pub invariant-loop-k : goal.invariant-loop-k
invariant-loop-k l = l.rates ≡ padded 6 (items_from (at_place l.numbers) (first_column l.robot.bodies l.i - 1) l.k)
