use Rattle.std.proofs.Common.{sym, ap, ◌∙◌, arith}
use Rattle.std.specs.List.{list_all}
use Rattle.std.specs.Prelude.{codes}
use Rattle.rb_srdf.specs.Parts.{names_known}
use Rattle.rb_srdf.proofs.Passes.{named_walk, walk-first}
use Rattle.rb_srdf.proofs.PartSteps.{all-next, all-stops, all-ends}
use Rattle.rb_srdf.proofs.parts.items_known.Goals as goal
use Rattle.rb_srdf.proofs.parts.items_known.Goals.{else-is_child-via-then-is_child+else-not-names_known, else-is_child-via-else-is_child}

pub returns-then-not-names_known : goal.returns-then-not-names_known
returns-then-not-names_known c =
    all-stops (names_known c.args.groups.now (codes "name")) _ _ _ _ c.loop-rest.invariant
    (walk-first (named_walk (codes "group") c.args.element.tag.now.depth) c.loop-rest.rest.now c.tag-item.result _ (omega arith) c.tag-item.is (sym c.is_child.ensures ∙ c.if-is_child.true) c.new.ensures)
    (sym c.names_known.ensures ∙ c.if-not-names_known.true)

pub loop-rest-preserved : goal.loop-rest-preserved
loop-rest-preserved c =
    elim c.else-is_child.branch [
      | else-is_child-via-then-is_child+else-not-names_known w ↦
          all-next (names_known c.args.groups.now (codes "name")) _ _ _ _ c.loop-rest.invariant
          (walk-first (named_walk (codes "group") c.args.element.tag.now.depth) c.loop-rest.rest.now c.tag-item.result _ (omega arith) c.tag-item.is (sym c.is_child.ensures ∙ w.if-is_child.true) w.new.ensures)
          (sym w.names_known.ensures ∙ w.if-not-names_known.false)
      | else-is_child-via-else-is_child w ↦
          c.loop-rest.invariant ∙ ap (list_all (names_known c.args.groups.now (codes "name"))) ((named_walk (codes "group") c.args.element.tag.now.depth).other c.loop-rest.rest.now c.tag-item.result (omega arith) c.tag-item.is (sym c.is_child.ensures ∙ w.if-is_child.false))
    ]

pub returns : goal.returns
returns c = all-ends (names_known c.args.groups.now (codes "name")) _ _ c.loop-rest.invariant ((named_walk (codes "group") c.args.element.tag.now.depth).none c.loop-rest.rest.now (omega arith))
