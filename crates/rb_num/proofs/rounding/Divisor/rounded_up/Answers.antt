use Rattle.std.proofs.Common.{ℤ, pos, ◌+ℤ◌, ◌+◌, ◌-◌, ◌<◌, arith, subst}
use Rattle.std.specs.Prelude.{SomeIff}
use Rattle.std.proofs.lemmas.Nat.{pow_pos}
use Rattle.rb_num.specs.Dot.{floor_of}
use Rattle.rb_num.specs.Reciprocal.{IsNear}
use Rattle.rb_num.proofs.Reciprocal.{up_held, floor_of_more}
use Rattle.rb_num.proofs.rounding.Divisor.rounded_up.Goals as goal

pub returns : goal.returns
returns c =
    let i = c.args.self.is_reciprocal in
    let d = c.args.self.by in
    let some : 0 < d = omega (arith, i.low, pow_pos (c.args.self.shift + 2)) in
    let same = up_held c.args.z d c.requires.above c.requires.below some i.high in
    subst (λ (v : ℤ). SomeIff c.rounded_down.result (IsNear d (c.args.z +ℤ pos (d - 1))) v) (floor_of_more c.args.z d some)
    (subst (λ (w : ℤ). SomeIff c.rounded_down.result (IsNear d w) (floor_of w d)) same c.rounded_down.ensures)
