use Rattle.std.proofs.Common.{arith}
use Rattle.rb_text.proofs.Digits.{read_more, read_past}
use Rattle.rb_text.proofs.size.exponent_value.Goals as goal
use Rattle.rb_text.specs.declared.size.TheConstants.{FARTHEST}

pub returns-then-value-gt-FARTHEST : goal.returns-then-value-gt-FARTHEST
returns-then-value-gt-FARTHEST c =
    let past = read_past 0 c.args.digits.now c.loop-digit.digit-index c.loop-digit.value FARTHEST c.from.result c.requires c.loop-digit.invariant c.loop-digit-test.true c.from.ensures c.if-value-gt-FARTHEST.true in
    omega (arith, past)

pub loop-digit-preserved : goal.loop-digit-preserved
loop-digit-preserved c = record {
  value_is = read_more 0 c.args.digits.now c.loop-digit.digit-index c.loop-digit.value FARTHEST c.from.result c.requires c.loop-digit.invariant c.loop-digit-test.true c.from.ensures;
  small = omega arith;
}
