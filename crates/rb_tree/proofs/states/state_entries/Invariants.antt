use Rattle.std.proofs.Common.{◌≡◌, List}
use Rattle.std.specs.List.{AllByRecursion}
use Rattle.rb_srdf.specs.declared.srdf.Virtual.{Virtual}
use Rattle.rb_srdf.specs.Srdf.{names_of_virtuals}
use Rattle.rb_tree.specs.Robot.{IsEntryKept}
use Rattle.rb_tree.proofs.StateLoops.{IsSoFar}
use Rattle.rb_tree.proofs.states.state_entries.Given as goal

-- the entries of the values so far
abbrev pub invariant-loop-value : goal.invariant-loop-value
invariant-loop-value l = record {
  entries : (virtuals : List Virtual) → l.virtual_names ≡ names_of_virtuals virtuals → IsSoFar l.bodies virtuals l.state.values l.value-index l.entries;
  kept : (virtuals : List Virtual) → l.virtual_names ≡ names_of_virtuals virtuals → AllByRecursion (IsEntryKept l.bodies) l.entries;
}
