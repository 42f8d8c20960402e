use Rattle.std.proofs.Common.{◌≡◌, slice_get, length}
use Rattle.rb_tags.specs.Elements.{elements}
use Rattle.rb_tags.proofs.element.first_element.Given as goal

-- what is left has the same first element
abbrev pub invariant-loop-rest : goal.invariant-loop-rest
invariant-loop-rest l = slice_get (elements l.name l.around l.fn.tags) 0 ≡ slice_get (elements l.name l.around l.rest) 0

abbrev pub decreases-loop-rest : goal.decreases-loop-rest
decreases-loop-rest l = length l.rest
