-- Which semantics a list of tags describes, in the words of the format.
use Rattle.std.specs.Prelude.{◌≡◌, ◌≢◌, ℕ, Bool, List, [], ◌∷◌, codes, bytes_eq, filter, Some, Ok}
use Rattle.std.specs.List.{AllByRecursion, AllPairs, AllZip, Contains, list_any}
use Rattle.rb_num.specs.Interval.{Interval}
use Rattle.rb_text.specs.Bracket.{bracket_of}
use Rattle.rb_tags.specs.declared.tag.Tag.{Tag}
use Rattle.rb_tags.specs.declared.root.RootKind.{RootKind}
use Rattle.rb_tags.specs.declared.root.RootKind.TheVariants.{Fixed, Planar, Floating}
use Rattle.rb_tags.specs.Elements.{Element, element_of, elements, elements_inside, attribute}
use Rattle.rb_tags.specs.Names.{AreDifferent}
use Rattle.rb_tags.specs.Words.{words}
use Rattle.rb_srdf.specs.declared.srdf.GroupItem.{GroupItem}
use Rattle.rb_srdf.specs.declared.srdf.GroupItem.TheVariants as Item
use Rattle.rb_srdf.specs.declared.srdf.Group.{Group}
use Rattle.rb_srdf.specs.declared.srdf.JointNumbers.{JointNumbers}
use Rattle.rb_srdf.specs.declared.srdf.GroupState.{GroupState}
use Rattle.rb_srdf.specs.declared.srdf.Virtual.{Virtual}
use Rattle.rb_srdf.specs.Groups.{HoldsItself}
use Rattle.rb_srdf.specs.Srdf.{Semantics, AreOtherStates, names_of_groups, names_of_virtuals}

-- an attribute of an element says a text, which is not empty
pub record Gives (key : List ℕ) (element : Element) (text : List ℕ) : Type 0 where
  pub says : attribute key element ≡ Some text
  pub some : text ≢ []

abbrev pub HasName : Element → List ℕ → Type 0
HasName element name = Gives (codes "name") element name

-- the elements of this name directly inside an element
abbrev pub children : List ℕ → Element → List Element
children name element = elements name element.tag.depth element.inside

-- an element inside a group that names something. Others are passed over
abbrev pub is_item : Element → Bool
is_item element = list_any (bytes_eq element.tag.name) (codes "link" ∷ codes "joint" ∷ codes "chain" ∷ codes "group" ∷ [])

-- the elements directly inside a group that name something
abbrev pub items_inside : Element → List Element
items_inside group = filter is_item (elements_inside group.tag.depth group.inside)

-- what such an element names
abbrev pub IsItem : Element → GroupItem → Type 0
IsItem element (Item.Link name) = (element.tag.name ≡ codes "link") × HasName element name
IsItem element (Item.Joint name) = (element.tag.name ≡ codes "joint") × HasName element name
IsItem element (Item.Chain base tip) = (element.tag.name ≡ codes "chain") × Gives (codes "base_link") element base × Gives (codes "tip_link") element tip
IsItem element (Item.Group name) = (element.tag.name ≡ codes "group") × HasName element name

pub record IsGroup (element : Element) (group : Group) : Type 0 where
  pub name : HasName element group.name
  pub place : group.place ≡ element.tag.place
  pub items : AllZip IsItem (items_inside element) group.items

abbrev pub IsNumber : List ℕ → Interval → Type 0
IsNumber word number = bracket_of word ≡ Ok number

-- the numbers of a joint are the brackets of the words of its `value`, of which there is one at least
pub record IsValue (element : Element) (value : JointNumbers) : Type 0 where
  pub joint : HasName element value.joint
  pub text : List ℕ
  pub says : attribute (codes "value") element ≡ Some text
  pub some : words text ≢ []
  pub numbers : AllZip IsNumber (words text) value.numbers

pub record IsState (element : Element) (state : GroupState) : Type 0 where
  pub name : HasName element state.name
  pub group : Gives (codes "group") element state.group
  pub place : state.place ≡ element.tag.place
  pub values : AllZip IsValue (children (codes "joint") element) state.values

abbrev pub type_name : RootKind → List ℕ
type_name Fixed = codes "fixed"
type_name Planar = codes "planar"
type_name Floating = codes "floating"

-- a virtual joint is of this type
abbrev pub HasType : Element → RootKind → Type 0
HasType element kind = attribute (codes "type") element ≡ Some (type_name kind)

pub record IsVirtual (element : Element) (virtual : Virtual) : Type 0 where
  pub name : HasName element virtual.name
  pub place : virtual.place ≡ element.tag.place
  pub kind : HasType element virtual.kind
  pub child : Gives (codes "child_link") element virtual.child

-- an item that names a group names one of these
abbrev pub IsKnown : List (List ℕ) → GroupItem → Type 0
IsKnown groups (Item.Group name) = Contains groups name
IsKnown groups item = Unit {0}

-- the outermost element is a robot, and the elements `group`, `group_state` and `virtual_joint` directly inside it are its groups, states and
-- virtual joints one by one
pub record IsDescribed (tags : List Tag) (semantics : Semantics) : Type 0 where
  pub root : Tag
  pub behind : List Tag
  pub tags_are : tags ≡ root ∷ behind
  pub root_name : root.name ≡ codes "robot"
  pub name : HasName (element_of root behind) semantics.name
  pub place : semantics.place ≡ root.place
  pub groups : AllZip IsGroup (elements (codes "group") 1 behind) semantics.groups
  pub states : AllZip IsState (elements (codes "group_state") 1 behind) semantics.states
  pub virtuals : AllZip IsVirtual (elements (codes "virtual_joint") 1 behind) semantics.virtuals
  pub groups_differ : AreDifferent (names_of_groups semantics.groups)
  pub states_differ : AllPairs AreOtherStates semantics.states
  pub virtuals_differ : AreDifferent (names_of_virtuals semantics.virtuals)
  pub items_known : AllByRecursion (λ group. AllByRecursion (IsKnown (names_of_groups semantics.groups)) group.items) semantics.groups
  pub states_known : AllByRecursion (λ state. Contains (names_of_groups semantics.groups) state.group) semantics.states
  pub no_loop : (k : ℕ) → HoldsItself semantics.groups k → ⊥
