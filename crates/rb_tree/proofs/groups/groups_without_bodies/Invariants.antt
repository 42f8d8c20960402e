use Rattle.std.proofs.Common.{◌≡◌, map, take}
use Rattle.rb_srdf.specs.Srdf.{names_of_groups}
use Rattle.rb_tree.specs.declared.groups.BodyGroup.{BodyGroup}
use Rattle.rb_tree.proofs.groups.groups_without_bodies.Given as goal

abbrev pub invariant-loop-group : goal.invariant-loop-group
invariant-loop-group l = map (λ (group : BodyGroup). group.name) l.made.items ≡ take l.group-index (names_of_groups l.groups)
