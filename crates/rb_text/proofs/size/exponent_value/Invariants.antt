use Rattle.rb_text.proofs.Digits.{IsReadTo}
use Rattle.rb_text.proofs.size.exponent_value.Given as goal
use Rattle.rb_text.specs.declared.size.TheConstants.{FARTHEST}

abbrev pub invariant-loop-digit : goal.invariant-loop-digit
invariant-loop-digit l = IsReadTo 0 l.digits l.digit-index l.value FARTHEST
