use Rattle.std.proofs.Common.{◌≡◌, ◌∙◌, refl, ℤ, arith}
use Rattle.std.proofs.lemmas.Int.{ints}
use Rattle.rb_num.specs.Interval.{Interval, IsInterval, IsWithin}
use Rattle.rb_num.proofs.Ends.{read}
use Rattle.rb_num.proofs.Quotient.{negative_read}
use Rattle.rb_trig.proofs.Read.{held, lo_held, outward_makes}
use Rattle.rb_trig.proofs.ends.outward.Goals as goal

end_within : {v : Interval} {z : ℤ} → IsInterval v.lo v.hi → z ≡ v.hi → IsWithin z
end_within {v} {z} i e = record { above = omega (arith, ints, i); below = omega (arith, ints, i) }

pub new-requires : goal.new-requires
new-requires c =
    let v = c.args.v in
    let i = c.lo.ensures.bounds in
    let e = c.hi.ensures.value in
    (outward_makes v c.args.by (held c.args.by) _ _ _ _ i c.requires (read c.args.by c.ranges.by refl)
    c.div_euclid-lo.ensures (lo_held c.lo.result v c.lo.ensures.value i)
    c.div_euclid-hi.ensures (negative_read c.hi.result v.hi (end_within i e) e)).whole

pub returns : goal.returns
returns c =
    let v = c.args.v in
    let i = c.lo.ensures.bounds in
    let e = c.hi.ensures.value in
    c.new.ensures ∙ (outward_makes v c.args.by (held c.args.by) _ _ _ _ i c.requires (read c.args.by c.ranges.by refl)
    c.div_euclid-lo.ensures (lo_held c.lo.result v c.lo.ensures.value i)
    c.div_euclid-hi.ensures (negative_read c.hi.result v.hi (end_within i e) e)).value
