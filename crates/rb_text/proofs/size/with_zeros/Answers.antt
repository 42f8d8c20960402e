use Rattle.std.proofs.Common.{◌*◌, arith}
use Rattle.rb_num.specs.Interval.{grid}
use Rattle.rb_text.proofs.Digits.{zeros_next, zeros_past}
use Rattle.rb_text.proofs.size.with_zeros.Goals as goal
use Rattle.rb_text.specs.declared.size.TheConstants.{LARGEST}

pub returns-then-value-gt-MOST : goal.returns-then-value-gt-MOST
returns-then-value-gt-MOST c = λ small.
    let past = zeros_past c.args.number c.loop-place._place c.args.zeros c.loop-place.value (LARGEST * grid) c.loop-place.invariant.value_is c.loop-place-test.true c.if-value-gt-MOST.true in
    omega (arith, past)

pub loop-place-preserved : goal.loop-place-preserved
loop-place-preserved c = record {
  value_is = zeros_next c.args.number c.loop-place._place c.loop-place.value c.loop-place.invariant.value_is;
  small = omega arith;
  some = c.loop-place.invariant.some;
}
