use Rattle.std.proofs.Common.{◌≡◌, Result, Ok, arith}
use Rattle.std.proofs.lemmas.Int.{ints}
use Rattle.rb_num.specs.Interval.{Interval}
use Rattle.rb_trig.specs.declared.sine.AngleRange.{AngleRange}
use Rattle.rb_trig.specs.Sine.{IsAngle, sin_cos_of}
use Rattle.rb_trig.proofs.Results.{sine_is, cosine_is, answered, refused, ranges, result_encloses}
use Rattle.rb_trig.proofs.sine.sin_cos.Goals as goal
use Rattle.rb_trig.proofs.sine.sin_cos.Goals.{After-clamp-2, then-lo-via-then-lo, then-lo-via-else-lo+then-hi-gt-ANGLE_LIMIT}

pub returns-then-lo-clause-exact : goal.returns-then-lo-clause-exact
returns-then-lo-clause-exact c =
    let i = c.lo.ensures.bounds in
    let l = c.lo.ensures.value in
    elim c.then-lo.branch [
      | then-lo-via-then-lo w ↦ refused c.args.angle (λ a. omega (arith, ints, w.if-lo.true, a.low, i, l))
      | then-lo-via-else-lo+then-hi-gt-ANGLE_LIMIT w ↦ refused c.args.angle (λ a. omega (arith, ints, w.if-hi-gt-ANGLE_LIMIT.true, a.high, i, w.hi.ensures.value))
    ]

the_answer : (c : After-clamp-2) → ◌≡◌ {A = Result (Interval × Interval) AngleRange} (Ok (c.clamp.result, c.clamp-2.result)) (sin_cos_of c.args.angle)
the_answer c =
    let t = c.args.angle in
    let i = c.lo.ensures.bounds in
    let l = c.lo.ensures.value in
    let h = c.hi.ensures.value in
    let a : IsAngle t = record { low = omega (arith, ints, c.if-lo.false, i, l); high = omega (arith, ints, c.if-hi-gt-ANGLE_LIMIT.false, i, h) } in
    let u = c.square-square.ensures.value in
    answered t _ _ a
    (sine_is t _ _ _ _ _ u c.sine.ensures c.sine-2.ensures c.hull-sines.ensures.exact c.clamp.ensures)
    (cosine_is t _ _ _ _ _ u c.cosine.ensures c.cosine-2.ensures c.hull-cosines.ensures.exact c.clamp-2.ensures)

pub returns-clause-exact : goal.returns-clause-exact
returns-clause-exact c = the_answer c

pub returns-clause-range : goal.returns-clause-range
returns-clause-range c = ranges c.args.angle _ (the_answer c)

pub returns-clause-encloses : goal.returns-clause-encloses
returns-clause-encloses c = result_encloses c.args.angle _ (the_answer c)
