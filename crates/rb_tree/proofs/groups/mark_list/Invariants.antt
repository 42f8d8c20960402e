use Rattle.std.proofs.Common.{take}
use Rattle.std.specs.List.{Contains}
use Rattle.rb_tree.specs.GroupMarks.{Adds}
use Rattle.rb_tree.proofs.groups.mark_list.Given as goal

abbrev pub invariant-loop-number : goal.invariant-loop-number
invariant-loop-number l = Adds (Contains (take l.number-index l.numbers)) l.initial.marks l.marks
