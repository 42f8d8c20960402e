use Rattle.std.proofs.Common.{◌≡◌, ◌++◌, take}
use Rattle.std.specs.List.{All}
use Rattle.rb_flat.specs.Choice.{IsOrdered}
use Rattle.rb_tree.specs.States.{entries_from}
use Rattle.rb_tree.proofs.states.put_values.Given as goal

abbrev pub invariant-loop-k : goal.invariant-loop-k
invariant-loop-k l = record {
  entries : l.entries.items ≡ l.fn.entries.items ++ entries_from l.place (take l.k l.values);
  ordered : All IsOrdered (take l.k l.values);
}
