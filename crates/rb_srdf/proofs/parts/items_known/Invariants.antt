use Rattle.std.proofs.Common.{◌≡◌, length}
use Rattle.std.specs.Prelude.{codes}
use Rattle.std.specs.List.{list_all}
use Rattle.rb_tags.specs.Elements.{as_element, elements}
use Rattle.rb_srdf.specs.Parts.{names_known, groups_inside}
use Rattle.rb_srdf.proofs.parts.items_known.Given as goal

-- what is left decides
abbrev pub invariant-loop-rest : goal.invariant-loop-rest
invariant-loop-rest l =
    list_all (names_known l.fn.groups (codes "name")) (groups_inside (as_element l.fn.element))
    ≡ list_all (names_known l.fn.groups (codes "name")) (elements (codes "group") l.fn.element.tag.now.depth l.rest)

abbrev pub decreases-loop-rest : goal.decreases-loop-rest
decreases-loop-rest l = length l.rest
