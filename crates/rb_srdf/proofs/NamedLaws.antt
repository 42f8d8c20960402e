-- Elements whose parts are read name what they have to.
use Rattle.std.proofs.Common.{◌≡◌, Bool, true, false, ◌||◌, List, refl, sym, subst}
use Rattle.std.specs.Prelude.{bytes_eq, codes, filter}
use Rattle.std.specs.List.{AllByRecursion}
use Rattle.rb_tags.specs.Elements.{Element, elements_inside}
use Rattle.rb_srdf.specs.declared.srdf.GroupItem.{GroupItem}
use Rattle.rb_srdf.specs.declared.srdf.GroupItem.TheVariants as Item
use Rattle.rb_srdf.specs.declared.srdf.Group.{Group}
use Rattle.rb_srdf.specs.declared.parts.Parts.{Parts}
use Rattle.rb_srdf.specs.Profile.{children, is_item, IsItem, IsGroup, IsState}
use Rattle.rb_srdf.proofs.AgainLaws.{is_named}
use Rattle.rb_srdf.proofs.KnownLaws.{elements-named, IsGiven, NamesAll}
use Rattle.rb_srdf.proofs.PartLaws.{PartsFit}
use Rattle.rb_srdf.proofs.Lists.{each-both, each-filter, each-weaker, filter-each, zip-of}

abbrev HasItem : Element → Type 0
HasItem element = (item : GroupItem) × IsItem element item

-- an element `group` in a group is an item, which has a name

group-item : (element : Element) → is_named (codes "group") element ≡ true → is_item element ≡ true
group-item element is = by (bytes_eq element.tag.name (codes "link")) (bytes_eq element.tag.name (codes "joint")) (bytes_eq element.tag.name (codes "chain")) (is_named (codes "group") element) is
  where
    by : (a b c d : Bool) → d ≡ true → (a || (b || (c || (d || false)))) ≡ true
    by true b c d h = refl
    by false true c d h = refl
    by false false true d h = refl
    by false false false d h = rw h refl

group-named : (element : Element) → is_named (codes "group") element ≡ true → HasItem element → IsGiven (codes "name") element
group-named element is (Item.Link name, s) = (name, s.1)
group-named element is (Item.Joint name, s) = (name, s.1)
group-named element is (Item.Chain base tip, s) =
    let clash : bytes_eq (codes "chain") (codes "group") ≡ true = subst (λ t. bytes_eq t (codes "group") ≡ true) s.0 is in
    absurd cc
group-named element is (Item.Group name, s) = (name, s.1)

groups-named : (element : Element) (group : Group) → IsGroup element group → AllByRecursion (IsGiven (codes "name")) (children (codes "group") element)
groups-named element group s =
    let inside = elements_inside element.tag.depth element.inside in
    let items : AllByRecursion (λ e. is_item e ≡ true → HasItem e) inside = filter-each HasItem is_item inside (zip-of IsItem HasItem (λ e item i. (item, i)) (filter is_item inside) group.items s.items) in
    subst (AllByRecursion (IsGiven (codes "name"))) (sym (elements-named (codes "group") element.tag.depth element.inside))
    (each-weaker _ (IsGiven (codes "name")) (filter (is_named (codes "group")) inside) (λ e h. group-named e h.0 (h.1 (group-item e h.0))) (each-filter (λ e. is_item e ≡ true → HasItem e) (is_named (codes "group")) inside items))

pub names-all : (elements : List Element) (parts : Parts) → PartsFit elements parts → AllByRecursion NamesAll elements
names-all elements parts fit =
    let Groups : Element → Type 0 = λ e. AllByRecursion (IsGiven (codes "name")) (children (codes "group") e) in
    let of_groups : AllByRecursion (λ e. is_named (codes "group") e ≡ true → Groups e) elements = filter-each Groups (is_named (codes "group")) elements (zip-of IsGroup Groups groups-named (filter (is_named (codes "group")) elements) parts.groups fit.groups) in
    let of_states : AllByRecursion (λ e. is_named (codes "group_state") e ≡ true → IsGiven (codes "group") e) elements = filter-each (IsGiven (codes "group")) (is_named (codes "group_state")) elements (zip-of IsState (IsGiven (codes "group")) (λ e state s. (state.group, s.group)) (filter (is_named (codes "group_state")) elements) parts.states fit.states) in
    each-both _ _ NamesAll elements (λ e groups group. record { groups = groups; group = group }) of_groups of_states
