use Rattle.std.proofs.Common.{◌∙◌, pos, ◌≤ℤ◌, ap, sym, subst, arith, rules}
use Rattle.std.proofs.lemmas.Grind.{common_steps}
use Rattle.rb_num.specs.Interval.{Interval}
use Rattle.rb_trig.specs.Ends.{outward}
use Rattle.rb_trig.specs.Sine.{square_of, IsSquare}
use Rattle.rb_trig.proofs.Sizes.{is_square}
use Rattle.rb_trig.proofs.sine.square.Goals as goal

pub returns-clause-value : goal.returns-clause-value
unfolding square_of
returns-clause-value c = c.outward.ensures ∙ ap (λ (v : Interval). outward v (pos 100000000)) c.squares.ensures

pub returns-clause-bounds : goal.returns-clause-bounds
unfolding square_of
returns-clause-bounds c =
    let o : c.args.angle.lo ≤ℤ c.args.angle.hi = first_of (search rules, grind (arith, common_steps)) in
    subst IsSquare (sym (c.outward.ensures ∙ ap (λ (v : Interval). outward v (pos 100000000)) c.squares.ensures)) (is_square c.args.angle o c.requires)
