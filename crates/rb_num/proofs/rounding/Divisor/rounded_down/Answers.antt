use Rattle.rb_num.proofs.Reciprocal.{span_low, span_high, lifted, below_near, near_is, rounded_is, not_near}
use Rattle.rb_num.proofs.rounding.Divisor.rounded_down.Goals as goal

pub quotient-requires : goal.quotient-requires
quotient-requires c = below_near _ _ _ c.requires.close (span_low _ _ c.requires.even c.if-lifted-self.true)

pub returns-then-lifted-self : goal.returns-then-lifted-self
returns-then-lifted-self c =
    let i = c.args.self.is_reciprocal in
    let t = span_low _ _ c.requires.even c.if-lifted-self.true in
    let e = lifted c.args.z _ _ i.high c.requires.above c.requires.below c.cast_unsigned-lifted.ensures t in
    (near_is c.args.z _ _ e t, rounded_is c.args.z _ _ _ _ _ i e t c.quotient.ensures)

pub returns-else-lifted-self : goal.returns-else-lifted-self
returns-else-lifted-self c =
    let t = span_high _ _ c.requires.even c.if-lifted-self.false in
    not_near c.args.z _ _ c.args.self.is_reciprocal.high c.requires.above c.requires.below c.cast_unsigned-lifted.ensures t
