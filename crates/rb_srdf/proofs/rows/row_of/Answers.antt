use Rattle.std.proofs.Common.{◌≡◌, ◌<◌, ◌+◌, ◌++◌, ◌∷◌, [], ℕ, List, length, get_or, take, ◌∙◌, ap, sym, Option, Some, None, Vec, Global}
use Rattle.std.specs.List.{filter_map, cons_option}
use Rattle.std.proofs.lemmas.List.{append-nil, take_more, take_all}
use Rattle.std.proofs.lemmas.List.Elements.{filter_map-append}
use Rattle.rb_srdf.specs.declared.srdf.GroupItem.{GroupItem}
use Rattle.rb_srdf.specs.Loops.{number_of_item, held_by}
use Rattle.rb_srdf.proofs.rows.row_of.Goals as goal
use Rattle.rb_srdf.proofs.rows.row_of.Goals.{in-Some+in_ok-push, in_default}

abbrev items_of : Vec ℕ Global → List ℕ
items_of held = held.items

-- one item more
kept_more : (h : GroupItem → Option ℕ) (items : List GroupItem) (i : ℕ) (item : GroupItem) → i < length items → item ≡ get_or items i item →
    filter_map h (take (i + 1) items) ≡ filter_map h (take i items) ++ cons_option (h item) []
kept_more h items i item within is =
    ap (filter_map h) (take_more items i item within ∙ ap (λ x. take i items ++ x ∷ []) (sym is)) ∙ filter_map-append h (take i items) (item ∷ [])

pushed : (h : GroupItem → Option ℕ) (items : List GroupItem) (i : ℕ) (item : GroupItem) (held news : List ℕ) (number : Option ℕ) → i < length items →
    item ≡ get_or items i item → held ≡ filter_map h (take i items) → number ≡ h item → news ≡ held ++ cons_option number [] → news ≡ filter_map h (take (i + 1) items)
pushed h items i item held news number within is before tells pushes =
    pushes ∙ ap (λ (xs : List ℕ). xs ++ cons_option number []) before ∙ ap (λ (o : Option ℕ). filter_map h (take i items) ++ cons_option o []) tells
    ∙ sym (kept_more h items i item within is)

pub loop-item-preserved : goal.loop-item-preserved
loop-item-preserved c =
    let h = number_of_item c.args.names.now in
    elim c.match-number_of_item.branch [
      | in-Some+in_ok-push w ↦
          pushed h c.args.items.now c.loop-item.item-index c.item-item.result c.loop-item.held.items c.match-number_of_item.held.items (Some w.in-Some.number)
          c.loop-item-test.true c.item-item.is c.loop-item.invariant w.in-Some.ensures (ap items_of w.held-is ∙ w.in_ok-push.ensures.items)
      | in_default w ↦
          pushed h c.args.items.now c.loop-item.item-index c.item-item.result c.loop-item.held.items c.match-number_of_item.held.items None
          c.loop-item-test.true c.item-item.is c.loop-item.invariant (sym w.in_default.is ∙ c.number_of_item.ensures) (ap items_of w.held-is ∙ sym (append-nil c.loop-item.held.items))
    ]

pub returns : goal.returns
unfolding held_by
returns c =
    c.new.ensures ∙ c.loop-item.invariant ∙ ap (filter_map (number_of_item c.args.names.now)) (take_all c.loop-item.item-index c.args.items.now c.loop-item-test.false)
