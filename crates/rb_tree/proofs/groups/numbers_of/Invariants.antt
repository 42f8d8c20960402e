use Rattle.rb_tree.proofs.GroupMarking.{MarkedBelow}
use Rattle.rb_tree.proofs.groups.numbers_of.Given as goal

abbrev pub invariant-loop-number : goal.invariant-loop-number
invariant-loop-number l = MarkedBelow l.marks l.number l.numbers.items
