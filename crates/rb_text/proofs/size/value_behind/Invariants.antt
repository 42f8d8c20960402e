use Rattle.std.proofs.Common.{◌*◌}
use Rattle.rb_num.specs.Interval.{grid}
use Rattle.rb_text.proofs.Digits.{IsReadTo}
use Rattle.rb_text.proofs.size.value_behind.Given as goal
use Rattle.rb_text.specs.declared.size.TheConstants.{LARGEST}

abbrev pub invariant-loop-digit : goal.invariant-loop-digit
invariant-loop-digit l = IsReadTo l.start l.digits l.digit-index l.value (LARGEST * grid)
