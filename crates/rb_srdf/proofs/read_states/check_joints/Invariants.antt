use Rattle.std.proofs.Common.{◌≡◌, length}
use Rattle.rb_tags.specs.Elements.{as_element, elements}
use Rattle.std.specs.Prelude.{codes}
use Rattle.rb_srdf.specs.ReadStates.{all_named, joints_inside}
use Rattle.rb_srdf.proofs.read_states.check_joints.Given as goal

-- what is left gives what is missing
abbrev pub invariant-loop-rest : goal.invariant-loop-rest
invariant-loop-rest l = all_named (joints_inside (as_element l.fn.element)) ≡ all_named (elements (codes "joint") l.fn.element.tag.now.depth l.rest)

abbrev pub decreases-loop-rest : goal.decreases-loop-rest
decreases-loop-rest l = length l.rest
