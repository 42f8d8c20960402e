use Rattle.std.proofs.Common.{arith}
use Rattle.rb_trig.proofs.Short.{short_less, turn, divider_low, divider_high}
use Rattle.rb_trig.proofs.sine.Series.turned.Goals as goal

pub part_down-least-requires-clause-low : goal.part_down-least-requires-clause-low
part_down-least-requires-clause-low c = divider_low c.args.self _ _ c.requires.low c.divider-by.ensures.divisor

pub part_down-least-requires-clause-high : goal.part_down-least-requires-clause-high
part_down-least-requires-clause-high c = divider_high c.args.self _ _ (omega (arith, c.requires.high)) c.divider-by.ensures.divisor

pub part_up-greatest-requires-clause-low : goal.part_up-greatest-requires-clause-low
part_up-greatest-requires-clause-low c = divider_low c.args.self _ _ c.requires.low c.divider-by.ensures.divisor

pub part_up-greatest-requires-clause-high : goal.part_up-greatest-requires-clause-high
part_up-greatest-requires-clause-high c = divider_high c.args.self _ _ (omega (arith, c.requires.high)) c.divider-by.ensures.divisor

pub overflow_sub-result-else-greatest : goal.overflow_sub-result-else-greatest
overflow_sub-result-else-greatest c =
    let t = turn c.args.self c.args.square c.args.k c.args.lo c.args.hi _ _ _ _ _ c.requires.square c.lo.ensures.value c.hi.ensures.value c.requires.low c.requires.ordered c.divider-by.ensures.divisor c.part_down-least.ensures c.part_up-greatest.ensures in
    omega (arith, t.below, c.if-greatest.false)

pub returns-else-greatest-clause-nested : goal.returns-else-greatest-clause-nested
returns-else-greatest-clause-nested c terms few known =
    let t = turn c.args.self c.args.square c.args.k c.args.lo c.args.hi _ _ _ _ _ c.requires.square c.lo.ensures.value c.hi.ensures.value c.requires.low c.requires.ordered c.divider-by.ensures.divisor c.part_down-least.ensures c.part_up-greatest.ensures in
    short_less c.args.self c.args.square terms c.args.k _ _ c.args.lo c.args.hi _ _ c.requires.square t.first t.second c.requires.low few known t.least t.greatest t.below (omega (arith, c.if-greatest.false))

pub returns-else-greatest-clause-ordered : goal.returns-else-greatest-clause-ordered
returns-else-greatest-clause-ordered c =
    let t = turn c.args.self c.args.square c.args.k c.args.lo c.args.hi _ _ _ _ _ c.requires.square c.lo.ensures.value c.hi.ensures.value c.requires.low c.requires.ordered c.divider-by.ensures.divisor c.part_down-least.ensures c.part_up-greatest.ensures in
    omega (arith, t.below)
