use Rattle.std.proofs.Common.{◌-◌, ◌<◌, ◌^◌, arith}
use Rattle.rb_trig.proofs.Nested.{partly_fits, nested_less, divisor_held, divisor_low, divisor_high}
use Rattle.rb_trig.proofs.sine.Series.nested.Goals as goal

pub loop-k-init : goal.loop-k-init
loop-k-init c = record { some = c.short_nested-last.ensures.some; value = c.short_nested-last.ensures.value }

pub step-sum-requires-clause-fit : goal.step-sum-requires-clause-fit
step-sum-requires-clause-fit c = partly_fits c.args.self c.args.square _ c.args.terms c.loop-k.k c.requires.square (omega (arith, c.short_nested-last.ensures.few, c.requires.within, c.requires.few)) c.loop-k.invariant

pub step-sum-requires-clause-low : goal.step-sum-requires-clause-low
step-sum-requires-clause-low c =
    let k = c.loop-k.k - 1 in
    let b : k < 2 ^ 30 = omega (arith, c.short_nested-last.ensures.few, c.requires.within, c.requires.few) in
    divisor_low c.args.self k _ (omega (arith, c.short_nested-last.ensures.few, c.requires.within, c.requires.few)) (divisor_held c.args.self k _ b c.divisor.ensures)

pub step-sum-requires-clause-high : goal.step-sum-requires-clause-high
step-sum-requires-clause-high c =
    let k = c.loop-k.k - 1 in
    let b : k < 2 ^ 30 = omega (arith, c.short_nested-last.ensures.few, c.requires.within, c.requires.few) in
    divisor_high c.args.self k _ b (divisor_held c.args.self k _ b c.divisor.ensures)

pub loop-k-preserved : goal.loop-k-preserved
loop-k-preserved c =
    nested_less c.args.self c.args.square c.loop-k.sum _ c.args.terms c.loop-k.k c.divisor.result c.loop-k-test.true (omega (arith, c.short_nested-last.ensures.few, c.requires.within)) (omega (arith, c.requires.few)) c.loop-k.invariant c.divisor.ensures c.step-sum.ensures
