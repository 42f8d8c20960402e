use Rattle.std.proofs.Common.{◌≡◌, take}
use Rattle.rb_srdf.specs.Srdf.{names_of_groups}
use Rattle.rb_tree.proofs.groups.names_of_groups.Given as goal

abbrev pub invariant-loop-group : goal.invariant-loop-group
invariant-loop-group l = l.names ≡ take l.group-index (names_of_groups l.groups)
