-- The products of ends do not change when the two intervals change places.
use Rattle.std.proofs.Common.{◌≡◌, arith}
use Rattle.std.proofs.lemmas.Int.{ints, clamps}
use Rattle.std.proofs.Math.IntN.{*ℤ_comm}
use Rattle.rb_num.specs.Interval.{Interval}
use Rattle.rb_num.specs.Dot.{least_product, greatest_product}

pub least_turned : (a b : Interval) → least_product (b, a) ≡ least_product (a, b)
unfolding least_product
least_turned a b =
    let ll = *ℤ_comm a.lo b.lo in let lh = *ℤ_comm a.lo b.hi in let hl = *ℤ_comm a.hi b.lo in let hh = *ℤ_comm a.hi b.hi in
    omega (arith, ints, clamps)

pub greatest_turned : (a b : Interval) → greatest_product (b, a) ≡ greatest_product (a, b)
unfolding greatest_product
greatest_turned a b =
    let ll = *ℤ_comm a.lo b.lo in let lh = *ℤ_comm a.lo b.hi in let hl = *ℤ_comm a.hi b.lo in let hh = *ℤ_comm a.hi b.hi in
    omega (arith, ints, clamps)
