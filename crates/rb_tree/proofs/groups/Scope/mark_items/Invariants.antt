use Rattle.std.proofs.Common.{take}
use Rattle.std.specs.List.{Any}
use Rattle.rb_tree.specs.GroupMarks.{Adds, ItemGivesAll}
use Rattle.rb_tree.proofs.groups.Scope.mark_items.Given as goal

abbrev pub invariant-loop-item : goal.invariant-loop-item
invariant-loop-item l = Adds (λ i. Any (λ item. ItemGivesAll l.self.bodies l.self.srdf.groups item i) (take l.item-index l.items)) l.initial.marks l.marks
