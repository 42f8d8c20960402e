use Rattle.std.proofs.Common.{◌≡◌, ◌∙◌, pos, ◌<ℤ◌, Result, Ok, Err, ap, arith, rules}
use Rattle.std.proofs.lemmas.Int.{ints}
use Rattle.std.proofs.lemmas.Grind.{common_steps}
use Rattle.rb_num.specs.Interval.{Interval}
use Rattle.rb_trig.specs.declared.axis.AxisFault.{AxisFault}
use Rattle.rb_trig.specs.declared.axis.AxisFault.TheVariants.{ZeroAxis}
use Rattle.rb_trig.specs.Axis.{AxisFits, IsLength, squared_length, factor, unit_scale_of}
use Rattle.rb_trig.proofs.Factor.{is_length, lengths_held, zero_length, no_zero, too_large, may_be_zero, has_factor, sizes, zeros, makes_unit}
use Rattle.rb_trig.proofs.axis.unit_scale.Goals as goal
use Rattle.rb_trig.proofs.axis.unit_scale.Goals.{Then-least-eq0, After-factor}

zero_axis : (c : Then-least-eq0) → ◌≡◌ {A = Result Interval AxisFault} (Err ZeroAxis) (unit_scale_of c.args.x c.args.y c.args.z)
zero_axis c =
    let f : AxisFits c.args.x c.args.y c.args.z = first_of (search (rules, c.if-not-axis_fits.ensures), grind (arith, common_steps, c.if-not-axis_fits.ensures)) in
    let s = c.squared_length-least in
    let n : s.result.0 ≡ pos 0 = omega (arith, ints, c.if-least-eq0.true, s.ensures.low, s.ensures.ordered, s.ensures.high) in
    may_be_zero c.args.x c.args.y c.args.z f (zero_length (squared_length c.args.x c.args.y c.args.z) _ _ s.ensures.value n s.ensures.ordered)

length : (c : After-factor) → IsLength (squared_length c.args.x c.args.y c.args.z)
length c =
    let s = c.squared_length-least in
    let p : pos 0 <ℤ s.result.0 = first_of (omega (arith, ints), search rules, grind (arith, common_steps)) in
    is_length (squared_length c.args.x c.args.y c.args.z) _ _ s.ensures.value p s.ensures.ordered s.ensures.high

the_factor : (c : After-factor) → c.factor.result ≡ factor (squared_length c.args.x c.args.y c.args.z)
the_factor c =
    let s = c.squared_length-least in
    c.factor.ensures ∙ ap factor (lengths_held (squared_length c.args.x c.args.y c.args.z) _ _ s.ensures.value s.ensures.low s.ensures.ordered s.ensures.high)

the_answer : (c : After-factor) → ◌≡◌ {A = Result Interval AxisFault} (Ok c.factor.result) (unit_scale_of c.args.x c.args.y c.args.z)
the_answer c =
    let f : AxisFits c.args.x c.args.y c.args.z = first_of (search (rules, c.if-not-axis_fits.ensures), grind (arith, common_steps, c.if-not-axis_fits.ensures)) in
    has_factor c.args.x c.args.y c.args.z _ f (no_zero _ (length c)) (the_factor c)

pub squared_length-least-requires : goal.squared_length-least-requires
squared_length-least-requires c = first_of (search (rules, c.if-not-axis_fits.ensures), grind (arith, common_steps, c.if-not-axis_fits.ensures))

pub returns-then-not-axis_fits-clause-exact : goal.returns-then-not-axis_fits-clause-exact
returns-then-not-axis_fits-clause-exact c =
    let n : AxisFits c.args.x c.args.y c.args.z → ⊥ = first_of (search (rules, c.if-not-axis_fits.ensures), grind (arith, common_steps, c.if-not-axis_fits.ensures)) in
    too_large c.args.x c.args.y c.args.z n

pub returns-then-least-eq0-clause-exact : goal.returns-then-least-eq0-clause-exact
returns-then-least-eq0-clause-exact c = zero_axis c

pub returns-then-least-eq0-clause-zero : goal.returns-then-least-eq0-clause-zero
returns-then-least-eq0-clause-zero c = zeros c.args.x c.args.y c.args.z _ (zero_axis c)

pub returns-clause-exact : goal.returns-clause-exact
returns-clause-exact c = the_answer c

pub returns-clause-size : goal.returns-clause-size
returns-clause-size c = sizes c.args.x c.args.y c.args.z _ (the_answer c)

pub returns-clause-zero : goal.returns-clause-zero
returns-clause-zero c = zeros c.args.x c.args.y c.args.z _ (the_answer c)

pub returns-clause-unit : goal.returns-clause-unit
returns-clause-unit c = makes_unit c.args.x c.args.y c.args.z _ (length c) (the_factor c)
