use Rattle.std.proofs.Common.{rules, sym, ◌∙◌, refl, arith}
use Rattle.std.specs.Prelude.{codes}
use Rattle.rb_tags.specs.Elements.{as_element}
use Rattle.rb_srdf.specs.ReadStates.{value_in}
use Rattle.rb_srdf.proofs.FaultSteps.{checked-ok, checked-err}
use Rattle.rb_srdf.proofs.Passes.{named_walk, pass-more, pass-fails, pass-other, pass-end}
use Rattle.rb_srdf.proofs.ValueSteps.{values_pass}
use Rattle.rb_srdf.proofs.read_states.check_values.Goals as goal

pub returns-in_err-check_value-clause-exact : goal.returns-in_err-check_value-clause-exact
returns-in_err-check_value-clause-exact c =
    rw (pass-fails values_pass (named_walk (codes "joint") c.args.element.tag.now.depth) _ c.loop-rest.invariant.so_far c.loop-rest.rest.now c.tag-item.result _ _ c.loop-rest.invariant.are (omega arith) c.tag-item.is (sym c.is_child.ensures ∙ c.if-is_child.true) c.new.ensures (checked-err (value_in (as_element c.new.result)) _ c.in_err-check_value.ensures.exact)) (search rules)

pub loop-rest-preserved-in_ok-check_value : goal.loop-rest-preserved-in_ok-check_value
loop-rest-preserved-in_ok-check_value c = record {
  so_far = _;
  are = pass-more values_pass (named_walk (codes "joint") c.args.element.tag.now.depth) _ c.loop-rest.invariant.so_far c.loop-rest.rest.now c.tag-item.result _ _ _ c.loop-rest.invariant.are (omega arith) c.tag-item.is (sym c.is_child.ensures ∙ c.if-is_child.true) c.new.ensures (checked-ok (value_in (as_element c.new.result)) c.in_ok-check_value.ensures.exact).1 refl;
}

pub loop-rest-preserved : goal.loop-rest-preserved
loop-rest-preserved c = record {
  so_far = c.loop-rest.invariant.so_far;
  are = pass-other values_pass (named_walk (codes "joint") c.args.element.tag.now.depth) _ c.loop-rest.invariant.so_far c.loop-rest.rest.now c.tag-item.result c.loop-rest.invariant.are (omega arith) c.tag-item.is (sym c.is_child.ensures ∙ c.if-is_child.false);
}

pub returns-clause-exact : goal.returns-clause-exact
returns-clause-exact c = rw (pass-end values_pass (named_walk (codes "joint") c.args.element.tag.now.depth) _ c.loop-rest.invariant.so_far c.loop-rest.rest.now c.loop-rest.invariant.are (omega arith)) refl
