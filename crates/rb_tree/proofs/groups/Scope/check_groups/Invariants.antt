use Rattle.std.proofs.Common.{take}
use Rattle.std.specs.List.{AllByRecursion}
use Rattle.rb_tree.specs.Groups.{IsGroupRight}
use Rattle.rb_tree.proofs.groups.Scope.check_groups.Given as goal

abbrev pub invariant-loop-group : goal.invariant-loop-group
invariant-loop-group l = AllByRecursion (IsGroupRight l.fn.self.bodies l.fn.self.srdf.virtuals) (take l.group-index l.group-items)
