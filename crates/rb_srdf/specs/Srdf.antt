-- What contracts see of groups, states and virtual joints, and what each list of them keeps.
use Rattle.std.specs.Prelude.{◌≡◌, ◌≢◌, ◌≤◌, ℕ, List, [], length, map}
use Rattle.std.specs.List.{AllByRecursion, AllPairs, Contains}
use Rattle.rb_tags.specs.declared.tag.TheConstants.{MAX_TAGS}
use Rattle.rb_tags.specs.Names.{AreDifferent}
use Rattle.rb_srdf.specs.declared.srdf.GroupItem.{GroupItem}
use Rattle.rb_srdf.specs.declared.srdf.GroupItem.TheVariants as Item
use Rattle.rb_srdf.specs.declared.srdf.Group.{Group}
use Rattle.rb_srdf.specs.declared.srdf.JointNumbers.{JointNumbers}
use Rattle.rb_srdf.specs.declared.srdf.GroupState.{GroupState}
use Rattle.rb_srdf.specs.declared.srdf.Virtual.{Virtual}
use Rattle.rb_srdf.specs.Groups.{HoldsItself}

-- the robot's name, the place of its element, and its groups, states and virtual joints in file order
pub record Semantics : Type 0 where
  pub name : List ℕ
  pub place : ℕ
  pub groups : List Group
  pub states : List GroupState
  pub virtuals : List Virtual

abbrev pub names_of_groups : List Group → List (List ℕ)
names_of_groups groups = map (λ group. group.name) groups

abbrev pub names_of_virtuals : List Virtual → List (List ℕ)
names_of_virtuals virtuals = map (λ virtual. virtual.name) virtuals

-- an item names what it has to, and a group of the file where it names a group
abbrev pub IsItemKept : List (List ℕ) → GroupItem → Type 0
IsItemKept groups (Item.Link name) = name ≢ []
IsItemKept groups (Item.Joint name) = name ≢ []
IsItemKept groups (Item.Chain base tip) = (base ≢ []) × (tip ≢ [])
IsItemKept groups (Item.Group name) = (name ≢ []) × Contains groups name

pub record IsGroupKept (groups : List (List ℕ)) (group : Group) : Type 0 where
  pub name : group.name ≢ []
  pub items : AllByRecursion (IsItemKept groups) group.items

-- a joint of a state is named and has numbers
pub record IsValueKept (value : JointNumbers) : Type 0 where
  pub joint : value.joint ≢ []
  pub some : value.numbers ≢ []

-- a state is of a group of the file
pub record IsStateKept (groups : List (List ℕ)) (state : GroupState) : Type 0 where
  pub name : state.name ≢ []
  pub group : Contains groups state.group
  pub values : AllByRecursion IsValueKept state.values

pub record IsVirtualKept (virtual : Virtual) : Type 0 where
  pub name : virtual.name ≢ []
  pub child : virtual.child ≢ []

-- two states of one group have different names
abbrev pub AreOtherStates : GroupState → GroupState → Type 0
AreOtherStates a b = a.group ≡ b.group → a.name ≢ b.name

-- what all keep
pub record IsSrdf (srdf : Semantics) : Type 0 where
  pub name : srdf.name ≢ []
  pub few_groups : length srdf.groups ≤ MAX_TAGS
  pub few_states : length srdf.states ≤ MAX_TAGS
  pub few_virtuals : length srdf.virtuals ≤ MAX_TAGS
  pub groups : AllByRecursion (IsGroupKept (names_of_groups srdf.groups)) srdf.groups
  pub groups_differ : AreDifferent (names_of_groups srdf.groups)
  pub no_loop : (k : ℕ) → HoldsItself srdf.groups k → ⊥
  pub states : AllByRecursion (IsStateKept (names_of_groups srdf.groups)) srdf.states
  pub states_differ : AllPairs AreOtherStates srdf.states
  pub virtuals : AllByRecursion IsVirtualKept srdf.virtuals
  pub virtuals_differ : AreDifferent (names_of_virtuals srdf.virtuals)
