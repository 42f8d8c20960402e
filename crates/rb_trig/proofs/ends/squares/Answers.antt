use Rattle.std.proofs.Common.{◌∙◌, rules}
use Rattle.rb_num.specs.Quotient.{HasZero}
use Rattle.rb_trig.proofs.Read.{lo_held, hi_held, product_held, squares_make_zero, squares_make}
use Rattle.rb_trig.proofs.ends.squares.Goals as goal

pub new-requires : goal.new-requires
new-requires c =
    let v = c.args.v in
    let i = c.lo.ensures.bounds in
    let z : HasZero v = search (rules, c.if-has_zero.ensures) in
    (squares_make_zero v _ _ _ c.requires z c.max-greatest.ensures.value
    (product_held _ _ _ _ (lo_held c.lo.result v c.lo.ensures.value i) (lo_held c.lo-2.result v c.lo-2.ensures.value i) c.requires.low)
    (product_held _ _ _ _ (hi_held c.hi.result v c.hi.ensures.value i) (hi_held c.hi-2.result v c.hi-2.ensures.value i) c.requires.high)).whole

pub returns-then-has_zero : goal.returns-then-has_zero
returns-then-has_zero c =
    let v = c.args.v in
    let i = c.lo.ensures.bounds in
    let z : HasZero v = search (rules, c.if-has_zero.ensures) in
    c.new.ensures ∙ (squares_make_zero v _ _ _ c.requires z c.max-greatest.ensures.value
    (product_held _ _ _ _ (lo_held c.lo.result v c.lo.ensures.value i) (lo_held c.lo-2.result v c.lo-2.ensures.value i) c.requires.low)
    (product_held _ _ _ _ (hi_held c.hi.result v c.hi.ensures.value i) (hi_held c.hi-2.result v c.hi-2.ensures.value i) c.requires.high)).value

pub new-requires-2 : goal.new-requires-2
new-requires-2 c =
    let v = c.args.v in
    let i = c.lo.ensures.bounds in
    let z : HasZero v → ⊥ = search (rules, c.if-has_zero.ensures) in
    (squares_make v _ _ _ _ c.requires z c.min.ensures.value c.max-greatest.ensures.value
    (product_held _ _ _ _ (lo_held c.lo.result v c.lo.ensures.value i) (lo_held c.lo-2.result v c.lo-2.ensures.value i) c.requires.low)
    (product_held _ _ _ _ (hi_held c.hi.result v c.hi.ensures.value i) (hi_held c.hi-2.result v c.hi-2.ensures.value i) c.requires.high)).whole

pub returns : goal.returns
returns c =
    let v = c.args.v in
    let i = c.lo.ensures.bounds in
    let z : HasZero v → ⊥ = search (rules, c.if-has_zero.ensures) in
    c.new-2.ensures ∙ (squares_make v _ _ _ _ c.requires z c.min.ensures.value c.max-greatest.ensures.value
    (product_held _ _ _ _ (lo_held c.lo.result v c.lo.ensures.value i) (lo_held c.lo-2.result v c.lo-2.ensures.value i) c.requires.low)
    (product_held _ _ _ _ (hi_held c.hi.result v c.hi.ensures.value i) (hi_held c.hi-2.result v c.hi-2.ensures.value i) c.requires.high)).value
