use Rattle.std.proofs.Common.{take}
use Rattle.std.specs.List.{All}
use Rattle.rb_flat.specs.Choice.{IsOrdered}
use Rattle.rb_tree.specs.States.{IsPositionWith, entries_named}
use Rattle.rb_tree.proofs.state.put_named.Given as goal

-- the states so far are set
abbrev pub invariant-loop-state : goal.invariant-loop-state
invariant-loop-state l = record {
  position : IsPositionWith (entries_named (take l.state-index l.states) l.name) l.fn.q l.q;
  ordered : All IsOrdered l.fn.q → All IsOrdered l.q;
}
