use Rattle.std.proofs.Common.{[], subst, sym, ◌≡◌, ◌≢◌, Ok, refl}
use Rattle.rb_tags.specs.Elements.{elements_inside}
use Rattle.rb_srdf.specs.Parts.{all_settled}
use Rattle.rb_srdf.specs.Read.{semantics_with}
use Rattle.rb_srdf.proofs.KeptLaws.{few-groups, semantics-kept}
use Rattle.rb_srdf.proofs.read.semantics_from.Goals as goal

pub holding_order-requires-clause-few : goal.holding_order-requires-clause-few
holding_order-requires-clause-few c = rw c.as_slice.ensures (few-groups c.args.tags.now c.args.parts c.requires.few c.requires.parts)

pub invariant_of-result : goal.invariant_of-result
invariant_of-result c =
    let known = subst (λ names. all_settled names (elements_inside 1 c.args.tags.now) ≡ Ok tt) c.requires.names (sym c.in_ok-check_settled.ensures.exact) in
    let given = subst (λ name. name ≢ []) (sym c.in_ok-copy.ensures) c.requires.given in (
      semantics-kept c.args.tags.now c.args.parts c.requires.few c.requires.parts c.in_ok-copy.field-0 c.args.place given known c.in_ok-order.ensures.ok.no_loop,
      c.in_ok-order.ensures.ok.ordered,
    )

pub returns-clause-answers : goal.returns-clause-answers
unfolding semantics_with
returns-clause-answers c =
    let known = subst (λ names. all_settled names (elements_inside 1 c.args.tags.now) ≡ Ok tt) c.requires.names (sym c.in_ok-check_settled.ensures.exact) in
    (rw (c.requires.parts, known, c.in_ok-copy.ensures) refl, c.in_ok-order.ensures.ok.no_loop)
