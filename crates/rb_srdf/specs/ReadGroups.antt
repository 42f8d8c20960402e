-- The groups of a file, one by one.
use Rattle.std.specs.Prelude.{ℕ, if◌then◌else◌, List, [], ◌∷◌, ◌++◌, codes, bytes_eq, Option, Some, None, Result, Ok}
use Rattle.rb_srdf.specs.declared.faults.SrdfFaultKind.{SrdfFaultKind}
use Rattle.rb_srdf.specs.declared.srdf.GroupItem.{GroupItem}
use Rattle.rb_srdf.specs.declared.srdf.GroupItem.TheVariants as Item
use Rattle.rb_srdf.specs.declared.srdf.Group.{Group}
use Rattle.rb_tags.specs.Elements.{Element, elements_inside}
use Rattle.rb_result.specs.Steps.{◌>>=◌}
use Rattle.rb_srdf.specs.Names.{name_in, new_name}
use Rattle.rb_srdf.specs.declared.read_groups.ItemRef.{ItemRef}
use Rattle.rb_srdf.specs.declared.read_groups.ItemRef.TheVariants as Ref

-- the names that a chain goes from and to
unfoldable pub chain_in : Element → Result GroupItem SrdfFaultKind
chain_in element =
    name_in (codes "base_link") element >>= λ base.
    name_in (codes "tip_link") element >>= λ tip.
    Ok (Item.Chain base tip)

-- an item with the name that an element gives
unfoldable pub named_item : (List ℕ → GroupItem) → Element → Result GroupItem SrdfFaultKind
named_item item element = name_in (codes "name") element >>= λ name. Ok (item name)

abbrev pub some_item : Result GroupItem SrdfFaultKind → Result (Option GroupItem) SrdfFaultKind
some_item item = item >>= λ item. Ok (Some item)

-- what an element inside a group names, if it is one that counts
unfoldable pub item_in : Element → Result (Option GroupItem) SrdfFaultKind
item_in element =
    if bytes_eq element.tag.name (codes "link") then some_item (named_item Item.Link element) else
    if bytes_eq element.tag.name (codes "joint") then some_item (named_item Item.Joint element) else
    if bytes_eq element.tag.name (codes "chain") then some_item (chain_in element) else
    if bytes_eq element.tag.name (codes "group") then some_item (named_item Item.Group element) else
    Ok None

abbrev pub with_item : List GroupItem → Option GroupItem → List GroupItem
with_item items None = items
with_item items (Some item) = items ++ item ∷ []

-- these items and those of the elements behind them
unfoldable pub items_after : List GroupItem → List Element → Result (List GroupItem) SrdfFaultKind
items_after items [] = Ok items
items_after items (element ∷ elements) = item_in element >>= λ item. items_after (with_item items item) elements

-- what a group names
unfoldable pub items_of : Element → Result (List GroupItem) SrdfFaultKind
items_of element = items_after [] (elements_inside element.tag.depth element.inside)

-- the group of an element behind groups of these names
unfoldable pub group_of : List (List ℕ) → Element → Result Group SrdfFaultKind
group_of names element =
    name_in (codes "name") element >>= λ name.
    items_of element >>= λ items.
    new_name names name >>= λ _.
    Ok (record { name = name; place = element.tag.place; items = items })

-- the name of a group that is read
abbrev pub name_of_group : Result Group SrdfFaultKind → Result (List ℕ) SrdfFaultKind
name_of_group group = group >>= λ group. Ok group.name

-- what contracts see of a borrowed item
abbrev pub as_item : ItemRef → GroupItem
as_item (Ref.Link name) = Item.Link name.now
as_item (Ref.Joint name) = Item.Joint name.now
as_item (Ref.Chain base tip) = Item.Chain base.now tip.now
as_item (Ref.Group name) = Item.Group name.now
