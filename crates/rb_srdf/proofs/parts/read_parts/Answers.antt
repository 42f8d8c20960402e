use Rattle.std.proofs.Common.{rules, sym, ◌∙◌, refl, arith}
use Rattle.rb_result.specs.Steps.{placed}
use Rattle.rb_tags.specs.Elements.{as_element}
use Rattle.rb_srdf.specs.Faults.{no_memory, fault_at}
use Rattle.rb_srdf.specs.Parts.{parts_with}
use Rattle.rb_srdf.proofs.FaultSteps.{or_memory}
use Rattle.rb_srdf.proofs.Passes.{inside_walk, pass-more, pass-fails, pass-other, pass-end}
use Rattle.rb_srdf.proofs.PartSteps.{parts_pass}
use Rattle.rb_srdf.proofs.parts.read_parts.Goals as goal

pub returns-in_err-put_part-clause-gives : goal.returns-in_err-put_part-clause-gives
returns-in_err-put_part-clause-gives c =
    let fails = or_memory no_memory c.in_err-put_part.field-0.0 (placed fault_at c.new.result.tag.now.place (parts_with c.loop-rest.parts (as_element c.new.result))) _ c.in_err-put_part.ensures.gives
    (pass-fails parts_pass (inside_walk 1) _ c.loop-rest.parts c.loop-rest.rest.now c.tag-item.result _ _ c.loop-rest.invariant.parts (omega arith) c.tag-item.is (sym c.is_inside.ensures ∙ c.if-is_inside.true) c.new.ensures) in
    search (rules, fails)

pub loop-rest-preserved-in_ok-put_part : goal.loop-rest-preserved-in_ok-put_part
loop-rest-preserved-in_ok-put_part c = record {
  parts = pass-more parts_pass (inside_walk 1) _ c.loop-rest.parts c.loop-rest.rest.now c.tag-item.result _ _ c.put_part.new.parts c.loop-rest.invariant.parts (omega arith) c.tag-item.is (sym c.is_inside.ensures ∙ c.if-is_inside.true) c.new.ensures c.in_ok-put_part.ensures.gives refl;
  named = c.in_ok-put_part.ensures.named;
}

pub loop-rest-preserved : goal.loop-rest-preserved
loop-rest-preserved c = record {
  parts = pass-other parts_pass (inside_walk 1) _ c.loop-rest.parts c.loop-rest.rest.now c.tag-item.result c.loop-rest.invariant.parts (omega arith) c.tag-item.is (sym c.is_inside.ensures ∙ c.if-is_inside.false);
  named = c.loop-rest.invariant.named;
}

pub returns-clause-gives : goal.returns-clause-gives
returns-clause-gives c = pass-end parts_pass (inside_walk 1) _ c.loop-rest.parts c.loop-rest.rest.now c.loop-rest.invariant.parts (omega arith)
