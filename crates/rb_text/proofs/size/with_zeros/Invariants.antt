use Rattle.std.proofs.Common.{◌≡◌, ◌≤◌, ◌<◌, ◌*◌, ◌^◌}
use Rattle.rb_num.specs.Interval.{grid}
use Rattle.rb_text.proofs.size.with_zeros.Given as goal
use Rattle.rb_text.specs.declared.size.TheConstants.{LARGEST}

abbrev pub invariant-loop-place : goal.invariant-loop-place
invariant-loop-place l = record { value_is : l.value ≡ l.number * 10 ^ l._place; small : l.value ≤ LARGEST * grid; some : 0 < l.number }
