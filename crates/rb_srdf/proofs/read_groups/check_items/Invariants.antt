use Rattle.std.proofs.Common.{length}
use Rattle.rb_tags.specs.Elements.{as_element, elements_inside}
use Rattle.rb_srdf.specs.ReadGroups.{items_of, items_after}
use Rattle.rb_srdf.proofs.Passes.{Reached}
use Rattle.rb_srdf.proofs.read_groups.check_items.Given as goal

abbrev pub invariant-loop-rest : goal.invariant-loop-rest
invariant-loop-rest l = Reached items_after (items_of (as_element l.fn.element)) (elements_inside l.fn.element.tag.now.depth l.rest)

abbrev pub decreases-loop-rest : goal.decreases-loop-rest
decreases-loop-rest l = length l.rest
