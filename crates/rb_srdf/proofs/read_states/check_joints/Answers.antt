use Rattle.std.proofs.Common.{rules, sym, ◌∙◌, refl, arith}
use Rattle.std.specs.Prelude.{codes}
use Rattle.rb_tags.specs.Elements.{as_element}
use Rattle.rb_srdf.specs.declared.faults.SrdfFaultKind.TheVariants.{Memory}
use Rattle.rb_srdf.specs.Names.{name_in}
use Rattle.rb_srdf.proofs.FaultSteps.{not_memory}
use Rattle.rb_srdf.proofs.Passes.{named_walk, pass-more, pass-fails, pass-other, pass-end}
use Rattle.rb_srdf.proofs.ValueSteps.{named_pass}
use Rattle.rb_srdf.proofs.read_states.check_joints.Goals as goal

pub returns-in_err-name_in-clause-exact : goal.returns-in_err-name_in-clause-exact
returns-in_err-name_in-clause-exact c =
    let made = not_memory Memory c.in_err-name_in.field-0.0 (name_in (codes "name") (as_element c.new.result)) c.in_err-name_in.ensures.gives c.in_err-name_in.ensures.takes_no_memory in
    rw (pass-fails named_pass (named_walk (codes "joint") c.args.element.tag.now.depth) _ tt c.loop-rest.rest.now c.tag-item.result _ _ c.loop-rest.invariant (omega arith) c.tag-item.is (sym c.is_child.ensures ∙ c.if-is_child.true) c.new.ensures made) (search rules)

pub loop-rest-preserved-in_ok-name_in : goal.loop-rest-preserved-in_ok-name_in
loop-rest-preserved-in_ok-name_in c =
    pass-more named_pass (named_walk (codes "joint") c.args.element.tag.now.depth) _ tt c.loop-rest.rest.now c.tag-item.result _ _ tt c.loop-rest.invariant (omega arith) c.tag-item.is (sym c.is_child.ensures ∙ c.if-is_child.true) c.new.ensures c.in_ok-name_in.ensures.gives refl

pub loop-rest-preserved : goal.loop-rest-preserved
loop-rest-preserved c =
    pass-other named_pass (named_walk (codes "joint") c.args.element.tag.now.depth) _ tt c.loop-rest.rest.now c.tag-item.result c.loop-rest.invariant (omega arith) c.tag-item.is (sym c.is_child.ensures ∙ c.if-is_child.false)

pub returns-clause-exact : goal.returns-clause-exact
returns-clause-exact c = sym (pass-end named_pass (named_walk (codes "joint") c.args.element.tag.now.depth) _ tt c.loop-rest.rest.now c.loop-rest.invariant (omega arith))
