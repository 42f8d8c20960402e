use Rattle.std.proofs.Common.{◌≡◌, take}
use Rattle.rb_srdf.specs.Srdf.{names_of_virtuals}
use Rattle.rb_tree.proofs.bearers.names_of_virtuals.Given as goal

abbrev pub invariant-loop-joint : goal.invariant-loop-joint
invariant-loop-joint l = l.names ≡ take l.joint-index (names_of_virtuals l.virtuals)
