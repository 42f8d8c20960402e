use Rattle.std.proofs.Common.{Ok, ◌∙◌, sym, ap}
use Rattle.rb_num.specs.Interval.{Interval}
use Rattle.rb_text.proofs.Outcomes.{value_rounded, value_large}
use Rattle.rb_text.proofs.bracket.bracket.Goals as goal

pub returns-in-Some : goal.returns-in-Some
returns-in-Some c =
    let d = c.args.decimal in
    ap (λ (v : Interval). Ok v) c.signed.ensures ∙ sym (value_rounded d.negative d.whole.now d.part.now d.down d.exponent.now c.in-Some.low c.in-Some.high c.in-Some.ensures)

pub returns-in-None : goal.returns-in-None
returns-in-None c =
    let d = c.args.decimal in
    sym (value_large d.negative d.whole.now d.part.now d.down d.exponent.now c.in-None.ensures)
