use Rattle.std.proofs.Common.{◌≡◌, ◌+ℤ◌}
use Rattle.rb_trig.specs.Ends.{squares}
use Rattle.rb_trig.proofs.Read.{held}
use Rattle.rb_trig.proofs.Factor.{low_is, high_is, three_fits, three_held, lo_within, hi_within, LengthsAre, lengths_are}
use Rattle.rb_trig.proofs.axis.squared_length.Goals as goal
use Rattle.rb_trig.proofs.axis.squared_length.Goals.{After-hi-3}

high_x : (c : After-hi-3) → held c.hi.result ≡ (squares c.args.x).hi
high_x c = high_is _ _ _ c.hi.ensures.value c.hi.ensures.bounds c.squares-x.ensures

high_y : (c : After-hi-3) → held c.hi-2.result ≡ (squares c.args.y).hi
high_y c = high_is _ _ _ c.hi-2.ensures.value c.hi-2.ensures.bounds c.squares-y.ensures

high_z : (c : After-hi-3) → held c.hi-3.result ≡ (squares c.args.z).hi
high_z c = high_is _ _ _ c.hi-3.ensures.value c.hi-3.ensures.bounds c.squares-z.ensures

the_lengths : (c : After-hi-3) → LengthsAre c.args.x c.args.y c.args.z (held (held (held c.lo.result +ℤ held c.lo-2.result) +ℤ held c.lo-3.result)) (held (held (held c.hi.result +ℤ held c.hi-2.result) +ℤ held c.hi-3.result))
the_lengths c =
    let x = low_is _ _ _ c.lo.ensures.value c.lo.ensures.bounds c.squares-x.ensures in
    let y = low_is _ _ _ c.lo-2.ensures.value c.lo-2.ensures.bounds c.squares-y.ensures in
    let z = low_is _ _ _ c.lo-3.ensures.value c.lo-3.ensures.bounds c.squares-z.ensures in
    let f = c.requires in
    lengths_are c.args.x c.args.y c.args.z _ _ f
    (three_held _ _ _ _ _ _ x y z (lo_within c.args.x f.first) (lo_within c.args.y f.second) (lo_within c.args.z f.third))
    (three_held _ _ _ _ _ _ (high_x c) (high_y c) (high_z c) (hi_within c.args.x f.first) (hi_within c.args.y f.second) (hi_within c.args.z f.third))

pub overflow_add-result-2 : goal.overflow_add-result-2
overflow_add-result-2 c =
    three_fits _ _ _ _ _ _
    (low_is _ _ _ c.lo.ensures.value c.lo.ensures.bounds c.squares-x.ensures)
    (low_is _ _ _ c.lo-2.ensures.value c.lo-2.ensures.bounds c.squares-y.ensures)
    (low_is _ _ _ c.lo-3.ensures.value c.lo-3.ensures.bounds c.squares-z.ensures)
    (lo_within c.args.x c.requires.first) (lo_within c.args.y c.requires.second) (lo_within c.args.z c.requires.third)

pub overflow_add-result-4 : goal.overflow_add-result-4
overflow_add-result-4 c =
    three_fits _ _ _ _ _ _ (high_x c) (high_y c) (high_z c) (hi_within c.args.x c.requires.first) (hi_within c.args.y c.requires.second) (hi_within c.args.z c.requires.third)

pub returns-clause-value : goal.returns-clause-value
returns-clause-value c = (the_lengths c).value

pub returns-clause-low : goal.returns-clause-low
returns-clause-low c = (the_lengths c).low

pub returns-clause-ordered : goal.returns-clause-ordered
returns-clause-ordered c = (the_lengths c).ordered

pub returns-clause-high : goal.returns-clause-high
returns-clause-high c = (the_lengths c).high
