use Rattle.std.proofs.Common.{◌≡◌, length}
use Rattle.rb_tags.specs.Words.{words}
use Rattle.rb_srdf.specs.ReadStates.{numbers_in, numbers_after}
use Rattle.rb_srdf.proofs.read_states.read_numbers.Given as goal

-- what is left gives what is missing
abbrev pub invariant-loop-word : goal.invariant-loop-word
invariant-loop-word l = numbers_in (words l.fn.text) ≡ numbers_after l.numbers.items (words l.rest)

abbrev pub decreases-loop-word : goal.decreases-loop-word
decreases-loop-word l = length (words l.rest)
