use Rattle.std.proofs.Common.{take}
use Rattle.std.specs.List.{AllByRecursion}
use Rattle.rb_tree.specs.Build.{BearsLink}
use Rattle.rb_tree.proofs.semantics.check_children.Given as goal

abbrev pub invariant-loop-virtual_joint : goal.invariant-loop-virtual_joint
invariant-loop-virtual_joint l = AllByRecursion (BearsLink l.names) (take l.virtual_joint-index l.virtuals)
