use Rattle.std.proofs.Common.{◌∙◌, ℤ, pos, ◌≤ℤ◌, refl, ap, arith}
use Rattle.std.proofs.lemmas.Int.{ints}
use Rattle.rb_num.specs.Interval.{interval}
use Rattle.rb_num.proofs.Ends.{read}
use Rattle.rb_trig.specs.Axis.{floor_root, ceil_root}
use Rattle.rb_trig.proofs.Root.{root_held, ceil_held, floor_some}
use Rattle.rb_trig.proofs.Factor.{factor_makes, roots_ordered, nonzero_held}
use Rattle.rb_trig.proofs.axis.factor.Goals as goal

pub div_euclid-lo-requires-clause-nonzero : goal.div_euclid-lo-requires-clause-nonzero
div_euclid-lo-requires-clause-nonzero c =
    let q = interval c.args.least c.args.greatest in
    let some : pos 0 ≤ℤ c.args.least = omega (arith, ints, c.requires.some) in
    let more : pos 0 ≤ℤ c.args.greatest = omega (arith, ints, c.requires.some, c.requires.ordered) in
    let k = ceil_held c.args.greatest _ more c.ranges.greatest (c.ceil_root.ensures ∙ ap (λ (t : ℤ). pos (ceil_root t)) (read c.args.greatest c.ranges.greatest refl)) in
    nonzero_held _ _ k (omega (arith, floor_some c.args.least c.requires.some, roots_ordered q c.requires))

pub div_euclid-hi-requires-clause-nonzero : goal.div_euclid-hi-requires-clause-nonzero
div_euclid-hi-requires-clause-nonzero c =
    let some : pos 0 ≤ℤ c.args.least = omega (arith, ints, c.requires.some) in
    let l = root_held c.args.least _ some c.ranges.least (c.floor_root.ensures ∙ ap (λ (t : ℤ). pos (floor_root t)) (read c.args.least c.ranges.least refl)) in
    nonzero_held _ _ l (floor_some c.args.least c.requires.some)

pub new-requires : goal.new-requires
new-requires c =
    let q = interval c.args.least c.args.greatest in
    let some : pos 0 ≤ℤ c.args.least = omega (arith, ints, c.requires.some) in
    let more : pos 0 ≤ℤ c.args.greatest = omega (arith, ints, c.requires.some, c.requires.ordered) in
    let k = ceil_held c.args.greatest _ more c.ranges.greatest (c.ceil_root.ensures ∙ ap (λ (t : ℤ). pos (ceil_root t)) (read c.args.greatest c.ranges.greatest refl)) in
    let l = root_held c.args.least _ some c.ranges.least (c.floor_root.ensures ∙ ap (λ (t : ℤ). pos (floor_root t)) (read c.args.least c.ranges.least refl)) in
    (factor_makes q _ _ _ _ _ _ c.requires c.div_euclid-lo.ensures refl k c.div_euclid-hi.ensures refl l).whole

pub returns : goal.returns
returns c =
    let q = interval c.args.least c.args.greatest in
    let some : pos 0 ≤ℤ c.args.least = omega (arith, ints, c.requires.some) in
    let more : pos 0 ≤ℤ c.args.greatest = omega (arith, ints, c.requires.some, c.requires.ordered) in
    let k = ceil_held c.args.greatest _ more c.ranges.greatest (c.ceil_root.ensures ∙ ap (λ (t : ℤ). pos (ceil_root t)) (read c.args.greatest c.ranges.greatest refl)) in
    let l = root_held c.args.least _ some c.ranges.least (c.floor_root.ensures ∙ ap (λ (t : ℤ). pos (floor_root t)) (read c.args.least c.ranges.least refl)) in
    c.new.ensures ∙ (factor_makes q _ _ _ _ _ _ c.requires c.div_euclid-lo.ensures refl k c.div_euclid-hi.ensures refl l).value
