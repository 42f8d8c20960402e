use Rattle.std.proofs.Common.{◌≡◌, ◌∙◌, sym, ap, pos}
use Rattle.rb_trig.specs.declared.sine.Series.{Series}
use Rattle.rb_trig.specs.declared.sine.Series.TheVariants.{Sine, Cosine}
use Rattle.rb_trig.specs.Sine.{divisor}
use Rattle.rb_trig.proofs.Read.{sine_divisor_held, cosine_divisor_held}
use Rattle.rb_trig.proofs.sine.Series.divisor.Goals as goal

pub returns-in-Sine : goal.returns-in-Sine
unfolding divisor
returns-in-Sine c =
    let e : c.args.self ≡ Sine = cc c.in-Sine.is in
    sine_divisor_held _ c.args.k c.from-twice.ensures c.requires.high ∙ ap (λ (s : Series). pos (divisor s c.args.k)) (sym e)

pub returns-in-Cosine : goal.returns-in-Cosine
unfolding divisor
returns-in-Cosine c =
    let e : c.args.self ≡ Cosine = cc c.in-Cosine.is in
    cosine_divisor_held _ c.args.k c.from-twice.ensures c.requires.low c.requires.high ∙ ap (λ (s : Series). pos (divisor s c.args.k)) (sym e)
