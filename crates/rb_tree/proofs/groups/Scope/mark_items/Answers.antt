use Rattle.std.proofs.Common.{◌+◌, List, take, sym, subst}
use Rattle.std.specs.List.{Any}
use Rattle.std.proofs.lemmas.List.{take_all}
use Rattle.rb_srdf.specs.declared.srdf.GroupItem.{GroupItem}
use Rattle.rb_tree.specs.GroupMarks.{Adds, ItemGivesAll}
use Rattle.rb_tree.proofs.GroupMarking.{Adds-more, Any-more}
use Rattle.rb_tree.proofs.groups.Scope.mark_items.Goals as goal

pub mark_item-requires-clause-held : goal.mark_item-requires-clause-held
mark_item-requires-clause-held c = λ k n. c.requires.held k (c.loop-item.item-index, c.item-item.result, c.loop-item-test.true, sym c.item-item.is, n)

pub loop-item-preserved : goal.loop-item-preserved
loop-item-preserved c =
    let s = c.args.self.now in
    let items = c.args.items.now in
    let k = c.loop-item.item-index in
    let item = c.item-item.result in
    Adds-more (λ i. Any (λ item. ItemGivesAll s.bodies s.srdf.groups item i) (take k items)) (ItemGivesAll s.bodies s.srdf.groups item)
    (λ i. Any (λ item. ItemGivesAll s.bodies s.srdf.groups item i) (take (k + 1) items)) c.args.marks.now c.loop-item.marks c.mark_item.new.marks
    (λ i. Any-more (λ item. ItemGivesAll s.bodies s.srdf.groups item i) items k item c.loop-item-test.true c.item-item.is) c.loop-item.invariant c.mark_item.ensures

pub returns : goal.returns
returns c =
    let s = c.args.self.now in
    let P : List GroupItem → Type 0 = λ items. Adds (λ i. Any (λ item. ItemGivesAll s.bodies s.srdf.groups item i) items) c.args.marks.now c.loop-item.marks in
    subst P (take_all c.loop-item.item-index c.args.items.now c.loop-item-test.false) c.loop-item.invariant
