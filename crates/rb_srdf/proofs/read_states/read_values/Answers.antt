use Rattle.std.proofs.Common.{rules, sym, ◌∙◌, arith}
use Rattle.std.specs.Prelude.{codes}
use Rattle.rb_tags.specs.Elements.{as_element}
use Rattle.rb_srdf.specs.declared.faults.SrdfFaultKind.TheVariants.{Memory}
use Rattle.rb_srdf.specs.ReadStates.{value_in}
use Rattle.rb_srdf.proofs.FaultSteps.{or_memory}
use Rattle.rb_srdf.proofs.Passes.{named_walk, pass-more, pass-fails, pass-other, pass-end}
use Rattle.rb_srdf.proofs.ValueSteps.{values_pass}
use Rattle.rb_srdf.proofs.read_states.read_values.Goals as goal

pub returns-in_err-read_value : goal.returns-in_err-read_value
returns-in_err-read_value c =
    let fails = or_memory Memory c.in_err-read_value.field-0.0 (value_in (as_element c.new.result)) _ c.in_err-read_value.ensures
    (pass-fails values_pass (named_walk (codes "joint") c.args.element.tag.now.depth) _ c.loop-rest.values.items c.loop-rest.rest.now c.tag-item.result _ _ c.loop-rest.invariant (omega arith) c.tag-item.is (sym c.is_child.ensures ∙ c.if-is_child.true) c.new.ensures) in
    search (rules, fails)

pub loop-rest-preserved-in_ok-push : goal.loop-rest-preserved-in_ok-push
loop-rest-preserved-in_ok-push c =
    pass-more values_pass (named_walk (codes "joint") c.args.element.tag.now.depth) _ c.loop-rest.values.items c.loop-rest.rest.now c.tag-item.result _ _ _ c.loop-rest.invariant (omega arith) c.tag-item.is (sym c.is_child.ensures ∙ c.if-is_child.true) c.new.ensures c.in_ok-read_value.ensures c.in_ok-push.ensures.items

pub loop-rest-preserved : goal.loop-rest-preserved
loop-rest-preserved c = pass-other values_pass (named_walk (codes "joint") c.args.element.tag.now.depth) _ c.loop-rest.values.items c.loop-rest.rest.now c.tag-item.result c.loop-rest.invariant (omega arith) c.tag-item.is (sym c.is_child.ensures ∙ c.if-is_child.false)

pub returns : goal.returns
returns c = pass-end values_pass (named_walk (codes "joint") c.args.element.tag.now.depth) _ c.loop-rest.values.items c.loop-rest.rest.now c.loop-rest.invariant (omega arith)
