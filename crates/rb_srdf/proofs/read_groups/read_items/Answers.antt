use Rattle.std.proofs.Common.{rules, sym, ◌∙◌, ap, arith}
use Rattle.rb_tags.specs.Elements.{as_element, elements_inside}
use Rattle.rb_srdf.specs.ReadGroups.{items_of, item_in, items_after}
use Rattle.rb_srdf.proofs.ItemSteps.{items_pass, item-push, item-none}
use Rattle.rb_srdf.proofs.Passes.{inside_walk, pass-more, pass-fails, pass-other, pass-end}
use Rattle.rb_srdf.proofs.FaultSteps.{not_memory}
use Rattle.rb_srdf.specs.declared.faults.SrdfFaultKind.TheVariants.{Memory}
use Rattle.rb_srdf.proofs.read_groups.read_items.Goals as goal

pub loop-rest-init : goal.loop-rest-init
unfolding items_of
loop-rest-init c = ap (λ items. items_after items (elements_inside c.args.element.tag.now.depth c.args.element.inside.now)) (sym c.new-items.ensures.items)

pub returns-in_err-item : goal.returns-in_err-item
returns-in_err-item c =
    let made = not_memory Memory c.in_err-item.field-0.0 (item_in (as_element c.new.result)) c.in_err-item.ensures.gives c.in_err-item.ensures.takes_no_memory in
    rw (pass-fails items_pass (inside_walk c.args.element.tag.now.depth) _ c.loop-rest.items.items c.loop-rest.rest.now c.tag-item.result _ _ c.loop-rest.invariant (omega arith) c.tag-item.is (sym c.is_inside.ensures ∙ c.if-is_inside.true) c.new.ensures made) (search rules)

pub loop-rest-preserved-in_ok-push : goal.loop-rest-preserved-in_ok-push
loop-rest-preserved-in_ok-push c =
    pass-more items_pass (inside_walk c.args.element.tag.now.depth) _ c.loop-rest.items.items c.loop-rest.rest.now c.tag-item.result _ _ _ c.loop-rest.invariant (omega arith) c.tag-item.is (sym c.is_inside.ensures ∙ c.if-is_inside.true) c.new.ensures c.in_ok-item.ensures.gives (item-push c.loop-rest.items.items _ _ _ _ c.in-Some.is c.in_ok-copy_of.ensures c.in_ok-push.ensures.items)

pub loop-rest-preserved-in_default-2 : goal.loop-rest-preserved-in_default-2
loop-rest-preserved-in_default-2 c =
    pass-more items_pass (inside_walk c.args.element.tag.now.depth) _ c.loop-rest.items.items c.loop-rest.rest.now c.tag-item.result _ _ _ c.loop-rest.invariant (omega arith) c.tag-item.is (sym c.is_inside.ensures ∙ c.if-is_inside.true) c.new.ensures c.in_ok-item.ensures.gives (item-none c.loop-rest.items.items _ c.in_default-2.is)

pub loop-rest-preserved : goal.loop-rest-preserved
loop-rest-preserved c = pass-other items_pass (inside_walk c.args.element.tag.now.depth) _ c.loop-rest.items.items c.loop-rest.rest.now c.tag-item.result c.loop-rest.invariant (omega arith) c.tag-item.is (sym c.is_inside.ensures ∙ c.if-is_inside.false)

pub returns : goal.returns
returns c = pass-end items_pass (inside_walk c.args.element.tag.now.depth) _ c.loop-rest.items.items c.loop-rest.rest.now c.loop-rest.invariant (omega arith)
