use Rattle.std.proofs.Common.{◌≡◌, [], length}
use Rattle.rb_tags.specs.Elements.{as_element, elements}
use Rattle.std.specs.Prelude.{codes}
use Rattle.rb_srdf.specs.ReadStates.{values_after, joints_inside}
use Rattle.rb_srdf.proofs.read_states.read_values.Given as goal

-- what is left gives what is missing
abbrev pub invariant-loop-rest : goal.invariant-loop-rest
invariant-loop-rest l = values_after [] (joints_inside (as_element l.fn.element)) ≡ values_after l.values.items (elements (codes "joint") l.fn.element.tag.now.depth l.rest)

abbrev pub decreases-loop-rest : goal.decreases-loop-rest
decreases-loop-rest l = length l.rest
