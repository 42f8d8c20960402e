-- What groups name, element by element.
use Rattle.std.proofs.Common.{◌≡◌, List, [], ◌∷◌, ◌++◌, Option, Some, None, refl}
use Rattle.std.specs.Prelude.{option_map}
use Rattle.rb_srdf.specs.declared.srdf.GroupItem.{GroupItem}
use Rattle.rb_srdf.specs.declared.read_groups.ItemRef.{ItemRef}
use Rattle.rb_srdf.specs.ReadGroups.{item_in, with_item, items_after, as_item}
use Rattle.rb_srdf.proofs.Passes.{IsPass}

pub items_pass : IsPass (λ items element. item_in element) with_item items_after
unfolding items_after
items_pass = record { none = λ items. refl; more = λ items e es. refl }

pub item-push : (items more : List GroupItem) (item : Option ItemRef) (x : ItemRef) (copy : GroupItem) → item ≡ Some x → copy ≡ as_item x → more ≡ items ++ copy ∷ [] → more ≡ with_item items (option_map as_item item)
item-push items more item x copy is same m = rw (is, m, same) refl

pub item-none : (items : List GroupItem) (item : Option ItemRef) → item ≡ None → items ≡ with_item items (option_map as_item item)
item-none items item is = rw is refl
