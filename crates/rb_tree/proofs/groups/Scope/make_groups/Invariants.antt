use Rattle.rb_tree.proofs.GroupMaking.{MadeUpTo}
use Rattle.rb_tree.proofs.groups.Scope.make_groups.Given as goal

abbrev pub invariant-loop-number : goal.invariant-loop-number
invariant-loop-number l = MadeUpTo l.fn.self.bodies l.fn.self.srdf.groups l.number-items l.number-index l.made.items
