use Rattle.std.proofs.Common.{◌*◌, arith}
use Rattle.rb_num.specs.Interval.{grid}
use Rattle.rb_text.proofs.Digits.{read_more, read_past}
use Rattle.rb_text.proofs.size.value_behind.Goals as goal
use Rattle.rb_text.specs.declared.size.TheConstants.{LARGEST}

pub returns-then-value-gt-MOST : goal.returns-then-value-gt-MOST
returns-then-value-gt-MOST c = λ small.
    let past = read_past c.args.start c.args.digits.now c.loop-digit.digit-index c.loop-digit.value (LARGEST * grid) c.from-in-loop-digit.result c.requires.digits c.loop-digit.invariant c.loop-digit-test.true c.from-in-loop-digit.ensures c.if-value-gt-MOST.true in
    omega (arith, past)

pub loop-digit-preserved : goal.loop-digit-preserved
loop-digit-preserved c = record {
  value_is = read_more c.args.start c.args.digits.now c.loop-digit.digit-index c.loop-digit.value (LARGEST * grid) c.from-in-loop-digit.result c.requires.digits c.loop-digit.invariant c.loop-digit-test.true c.from-in-loop-digit.ensures;
  small = omega arith;
}
