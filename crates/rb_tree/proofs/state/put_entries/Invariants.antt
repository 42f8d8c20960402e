use Rattle.std.proofs.Common.{take}
use Rattle.std.specs.List.{All}
use Rattle.rb_flat.specs.Choice.{IsOrdered}
use Rattle.rb_tree.specs.States.{IsPositionWith}
use Rattle.rb_tree.proofs.state.put_entries.Given as goal

-- the entries so far are set
abbrev pub invariant-loop-entry : goal.invariant-loop-entry
invariant-loop-entry l = record {
  position : IsPositionWith (take l.entry-index l.entries) l.fn.q l.q;
  ordered : All IsOrdered l.fn.q → All IsOrdered l.q;
}
