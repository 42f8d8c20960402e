use Rattle.std.proofs.Common.{◌≡◌, take}
use Rattle.rb_tree.specs.Columns.{owners_from}
use Rattle.rb_tree.proofs.columns.owners_of.Given as goal

abbrev pub invariant-loop-body : goal.invariant-loop-body
invariant-loop-body l = (l.number ≡ l.body-index) × (l.owners.items ≡ owners_from 1 (take l.body-index l.bodies))
