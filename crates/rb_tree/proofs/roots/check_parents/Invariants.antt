use Rattle.std.proofs.Common.{take}
use Rattle.rb_tree.specs.Roots.{HaveOneParent}
use Rattle.rb_tree.proofs.roots.check_parents.Given as goal

abbrev pub invariant-loop-number : goal.invariant-loop-number
invariant-loop-number l = HaveOneParent (take l.number l.joints)
