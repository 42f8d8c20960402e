use Rattle.std.specs.List.{AllByRecursion}
use Rattle.rb_tree.specs.Robot.{IsStateKept}
use Rattle.rb_tree.proofs.StateLoops.{AreSoFar}
use Rattle.rb_tree.proofs.states.states_of.Given as goal

-- the states so far
abbrev pub invariant-loop-state : goal.invariant-loop-state
invariant-loop-state l = record {
  made : AreSoFar l.bodies l.srdf.virtuals l.srdf.states l.state-index l.states.items;
  kept : AllByRecursion (IsStateKept l.bodies) l.states.items;
}
