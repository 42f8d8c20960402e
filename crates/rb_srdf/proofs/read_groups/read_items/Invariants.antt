use Rattle.std.proofs.Common.{◌≡◌, length}
use Rattle.rb_tags.specs.Elements.{elements_inside}
use Rattle.rb_srdf.specs.ReadGroups.{items_of, items_after}
use Rattle.rb_tags.specs.Elements.{as_element}
use Rattle.rb_srdf.proofs.read_groups.read_items.Given as goal

-- what is left gives the items that are missing
abbrev pub invariant-loop-rest : goal.invariant-loop-rest
invariant-loop-rest l = items_of (as_element l.fn.element) ≡ items_after l.items.items (elements_inside l.fn.element.tag.now.depth l.rest)

abbrev pub decreases-loop-rest : goal.decreases-loop-rest
decreases-loop-rest l = length l.rest
