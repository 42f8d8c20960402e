use Rattle.rb_tags.proofs.Closing.{ClosesLater}
use Rattle.rb_tags.proofs.marks.closing.Given as goal

abbrev pub invariant-loop-place : goal.invariant-loop-place
invariant-loop-place l = ClosesLater l.text l.place l.quote
