use Rattle.std.proofs.Common.{◌∙◌, ◌*◌, ℤ, pos, ◌+ℤ◌, ◌≤ℤ◌, ◌<ℤ◌, refl, ap, sym, arith}
use Rattle.std.proofs.lemmas.Int.{ints}
use Rattle.rb_num.proofs.Ends.{read}
use Rattle.rb_trig.specs.Axis.{floor_root}
use Rattle.rb_trig.proofs.Root.{root_held, root_small, square_fits, square_held, ceil_exact, ceil_above}
use Rattle.rb_trig.proofs.axis.ceil_root.Goals as goal

pub overflow_mul-root : goal.overflow_mul-root
overflow_mul-root c =
    let z = c.args.square in
    let f = c.ranges.square in
    let e = root_held z _ c.requires f (c.floor_root-root.ensures ∙ ap (λ (t : ℤ). pos (floor_root t)) (read z f refl)) in
    square_fits z _ c.requires f e

pub overflow_add-result : goal.overflow_add-result
overflow_add-result c =
    let z = c.args.square in
    let f = c.ranges.square in
    let e = root_held z _ c.requires f (c.floor_root-root.ensures ∙ ap (λ (t : ℤ). pos (floor_root t)) (read z f refl)) in
    omega (arith, ints, e, root_small z c.requires f)

pub returns-then-root-square : goal.returns-then-root-square
returns-then-root-square c =
    let z = c.args.square in
    let f = c.ranges.square in
    let e = root_held z _ c.requires f (c.floor_root-root.ensures ∙ ap (λ (t : ℤ). pos (floor_root t)) (read z f refl)) in
    let s = square_held z _ c.requires f e in
    let l : pos (floor_root z * floor_root z) <ℤ z = omega (arith, ints, s, c.if-root-square.true, f) in
    read _ (omega (arith, ints, e, root_small z c.requires f)) (ap (λ (t : ℤ). t +ℤ pos 1) e) ∙ ap pos (sym (ceil_above z c.requires l))

pub returns : goal.returns
returns c =
    let z = c.args.square in
    let f = c.ranges.square in
    let e = root_held z _ c.requires f (c.floor_root-root.ensures ∙ ap (λ (t : ℤ). pos (floor_root t)) (read z f refl)) in
    let s = square_held z _ c.requires f e in
    let l : z ≤ℤ pos (floor_root z * floor_root z) = omega (arith, ints, s, c.if-root-square.false, f) in
    e ∙ ap pos (sym (ceil_exact z c.requires l))
