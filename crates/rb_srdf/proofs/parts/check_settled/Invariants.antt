use Rattle.std.proofs.Common.{◌≡◌, length}
use Rattle.rb_tags.specs.Elements.{elements_inside}
use Rattle.rb_srdf.specs.Parts.{all_settled}
use Rattle.rb_srdf.proofs.parts.check_settled.Given as goal

-- what is left decides
abbrev pub invariant-loop-rest : goal.invariant-loop-rest
invariant-loop-rest l = all_settled l.fn.groups (elements_inside 1 l.fn.tags) ≡ all_settled l.fn.groups (elements_inside 1 l.rest)

abbrev pub decreases-loop-rest : goal.decreases-loop-rest
decreases-loop-rest l = length l.rest
