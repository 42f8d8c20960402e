use Rattle.std.proofs.Common.{◌∙◌, ap, sym, slice_get, Some, arith}
use Rattle.rb_tags.proofs.Walks.{elements-first, elements-others, elements-none}
use Rattle.rb_tags.proofs.element.first_element.Goals as goal

pub returns-then-is_child : goal.returns-then-is_child
returns-then-is_child c =
    ap Some c.new.ensures ∙ sym (c.loop-rest.invariant ∙ ap (λ xs. slice_get xs 0) (elements-first c.args.name.now c.args.around c.loop-rest.rest.now c.tag-item.result (omega arith) c.tag-item.is (sym c.is_child.ensures ∙ c.if-is_child.true)))

pub loop-rest-preserved : goal.loop-rest-preserved
loop-rest-preserved c =
    c.loop-rest.invariant ∙ ap (λ xs. slice_get xs 0) (elements-others c.args.name.now c.args.around c.loop-rest.rest.now c.tag-item.result (omega arith) c.tag-item.is (sym c.is_child.ensures ∙ c.if-is_child.false))

pub returns : goal.returns
returns c =
    sym (c.loop-rest.invariant ∙ ap (λ xs. slice_get xs 0) (elements-none c.args.name.now c.args.around c.loop-rest.rest.now (omega arith)))
