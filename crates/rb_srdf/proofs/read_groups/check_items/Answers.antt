use Rattle.std.proofs.Common.{rules, sym, ◌∙◌, refl, arith}
use Rattle.rb_tags.specs.Elements.{as_element}
use Rattle.rb_srdf.specs.ReadGroups.{items_of, item_in}
use Rattle.rb_srdf.proofs.ItemSteps.{items_pass}
use Rattle.rb_srdf.proofs.Passes.{inside_walk, pass-more, pass-fails, pass-other, pass-end}
use Rattle.rb_srdf.proofs.FaultSteps.{not_memory}
use Rattle.rb_srdf.specs.declared.faults.SrdfFaultKind.TheVariants.{Memory}
use Rattle.rb_srdf.proofs.read_groups.check_items.Goals as goal

pub loop-rest-init : goal.loop-rest-init
unfolding items_of
loop-rest-init c = record { so_far = _; are = refl }

pub returns-in_err-item_in-clause-exact : goal.returns-in_err-item_in-clause-exact
returns-in_err-item_in-clause-exact c =
    let made = not_memory Memory c.in_err-item_in.field-0.0 (item_in (as_element c.new.result)) c.in_err-item_in.ensures.gives c.in_err-item_in.ensures.takes_no_memory in
    rw (pass-fails items_pass (inside_walk c.args.element.tag.now.depth) _ c.loop-rest.invariant.so_far c.loop-rest.rest.now c.tag-item.result _ _ c.loop-rest.invariant.are (omega arith) c.tag-item.is (sym c.is_inside.ensures ∙ c.if-is_inside.true) c.new.ensures made) (search rules)

pub loop-rest-preserved-in_ok-item_in : goal.loop-rest-preserved-in_ok-item_in
loop-rest-preserved-in_ok-item_in c = record {
  so_far = _;
  are = pass-more items_pass (inside_walk c.args.element.tag.now.depth) _ c.loop-rest.invariant.so_far c.loop-rest.rest.now c.tag-item.result _ _ _ c.loop-rest.invariant.are (omega arith) c.tag-item.is (sym c.is_inside.ensures ∙ c.if-is_inside.true) c.new.ensures c.in_ok-item_in.ensures.gives refl;
}

pub loop-rest-preserved : goal.loop-rest-preserved
loop-rest-preserved c = record {
  so_far = c.loop-rest.invariant.so_far;
  are = pass-other items_pass (inside_walk c.args.element.tag.now.depth) _ c.loop-rest.invariant.so_far c.loop-rest.rest.now c.tag-item.result c.loop-rest.invariant.are (omega arith) c.tag-item.is (sym c.is_inside.ensures ∙ c.if-is_inside.false);
}

pub returns-clause-exact : goal.returns-clause-exact
returns-clause-exact c = rw (pass-end items_pass (inside_walk c.args.element.tag.now.depth) _ c.loop-rest.invariant.so_far c.loop-rest.rest.now c.loop-rest.invariant.are (omega arith)) refl
