use Rattle.std.proofs.Common.{sym, ap, ◌∙◌, arith}
use Rattle.rb_tags.specs.Elements.{Element}
use Rattle.rb_srdf.specs.declared.faults.SrdfFaultKind.TheVariants.{UnknownName}
use Rattle.rb_srdf.specs.Faults.{fault_at}
use Rattle.rb_srdf.specs.Parts.{all_settled}
use Rattle.rb_srdf.proofs.Passes.{inside_walk, walk-first}
use Rattle.rb_srdf.proofs.PartSteps.{settled-next, settled-stops, settled-ends}
use Rattle.rb_srdf.proofs.parts.check_settled.Goals as goal
use Rattle.rb_srdf.proofs.parts.check_settled.Goals.{else-is_inside-via-then-is_inside+else-not-is_settled, else-is_inside-via-else-is_inside}

pub returns-then-not-is_settled-clause-exact : goal.returns-then-not-is_settled-clause-exact
returns-then-not-is_settled-clause-exact c =
    settled-stops c.args.groups.now _ _ _ _ c.fault.result c.loop-rest.invariant
    (walk-first (inside_walk 1) c.loop-rest.rest.now c.tag-item.result _ (omega arith) c.tag-item.is (sym c.is_inside.ensures ∙ c.if-is_inside.true) c.new.ensures)
    (sym c.is_settled.ensures ∙ c.if-not-is_settled.true) (c.fault.ensures ∙ ap (λ (e : Element). fault_at UnknownName e.tag.place) (sym c.new.ensures))

pub loop-rest-preserved : goal.loop-rest-preserved
loop-rest-preserved c =
    elim c.else-is_inside.branch [
      | else-is_inside-via-then-is_inside+else-not-is_settled w ↦
          settled-next c.args.groups.now _ _ _ _ c.loop-rest.invariant
          (walk-first (inside_walk 1) c.loop-rest.rest.now c.tag-item.result _ (omega arith) c.tag-item.is (sym c.is_inside.ensures ∙ w.if-is_inside.true) w.new.ensures)
          (sym w.is_settled.ensures ∙ w.if-not-is_settled.false)
      | else-is_inside-via-else-is_inside w ↦
          c.loop-rest.invariant ∙ ap (all_settled c.args.groups.now) ((inside_walk 1).other c.loop-rest.rest.now c.tag-item.result (omega arith) c.tag-item.is (sym c.is_inside.ensures ∙ w.if-is_inside.false))
    ]

pub returns-clause-exact : goal.returns-clause-exact
returns-clause-exact c = settled-ends c.args.groups.now _ _ c.loop-rest.invariant ((inside_walk 1).none c.loop-rest.rest.now (omega arith))
