use Rattle.std.proofs.Common.{get_or, refl, sym, ◌∙◌, ap, subst, arith}
use Rattle.std.specs.List.{slice_get}
use Rattle.std.proofs.lemmas.Option.{slice_get-get_or}
use Rattle.rb_srdf.specs.Groups.{IsHoldingOrder}
use Rattle.rb_tree.specs.GroupMarks.{Scope}
use Rattle.rb_tree.proofs.GroupMaking.{made_count, made_more, made_held, made_all, marked_bodies}
use Rattle.rb_tree.proofs.groups.Scope.make_groups.Goals as goal

pub marks_of-marks-requires-clause-held : goal.marks_of-marks-requires-clause-held
marks_of-marks-requires-clause-held c =
    let s = c.args.self.now in
    let order = c.holding_order-number-items.result.now in
    let n = c.loop-number.number-index in
    let P : Scope → Type 0 = λ x. IsHoldingOrder x.srdf.groups order in
    let holding = subst P c.self.view_is c.holding_order-number-items.ensures in
    λ b holds group got. made_held s.bodies s.srdf.groups order n c.loop-number.made.items c.loop-number.invariant holding (get_or order n 0)
    (slice_get-get_or order n 0 c.loop-number-test.true) b holds group (ap (λ xs. slice_get xs b) (sym c.as_slice-in-loop-number.ensures.value) ∙ got)

pub index_mut-requires : goal.index_mut-requires
index_mut-requires c =
    let s = c.args.self.now in
    let order = c.holding_order-number-items.result.now in
    let n = c.loop-number.number-index in
    let P : Scope → Type 0 = λ x. IsHoldingOrder x.srdf.groups order in
    let holding = subst P c.self.view_is c.holding_order-number-items.ensures in
    omega (arith, holding.there n (get_or order n 0) (slice_get-get_or order n 0 c.loop-number-test.true), made_count s.srdf.groups c.loop-number.made.items c.loop-number.invariant.names)

pub loop-number-preserved : goal.loop-number-preserved
loop-number-preserved c =
    let s = c.args.self.now in
    let order = c.holding_order-number-items.result.now in
    let n = c.loop-number.number-index in
    let k = get_or order n 0 in
    let P : Scope → Type 0 = λ x. IsHoldingOrder x.srdf.groups order in
    let holding = subst P c.self.view_is c.holding_order-number-items.ensures in
    let at = slice_get-get_or order n 0 c.loop-number-test.true in
    made_more s.bodies s.srdf.groups order n c.loop-number.made.items c.loop-number.invariant k c.index_mut.result.now _ at
    (omega (arith, holding.there n k at, made_count s.srdf.groups c.loop-number.made.items c.loop-number.invariant.names)) c.index_mut.ensures.value refl
    (marked_bodies s.bodies s.srdf.groups k c.marks_of-marks.result c.in_ok-made-2.field-0 c.in_ok-made-2.ensures c.marks_of-marks.ensures.marks)

pub returns : goal.returns
returns c =
    let s = c.args.self.now in
    let order = c.holding_order-number-items.result.now in
    let n = c.loop-number.number-index in
    let P : Scope → Type 0 = λ x. IsHoldingOrder x.srdf.groups order in
    made_all s.bodies s.srdf.groups order n c.loop-number.made.items c.loop-number.invariant (subst P c.self.view_is c.holding_order-number-items.ensures) s.srdf.virtuals
    c.requires c.loop-number-test.false
