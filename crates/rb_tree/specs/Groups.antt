-- The bodies that the groups of a file hold, and what is wrong with a group.
use Rattle.std.specs.Prelude.{◌≡◌, ◌⊎◌, ◌↔◌, ◌<◌, ◌+◌, ℕ, zero, suc, Bool, false, if◌then◌else◌, List, [], ◌∷◌, length, position, bytes_eq, slice_get, Option, None, Some, option_map}
use Rattle.std.specs.Option.{option_or}
use Rattle.std.specs.List.{AllByRecursion, Any, Contains, list_any}
use Rattle.std.specs.List.Sorted.{IsStrictlyIncreasing}
use Rattle.rb_srdf.specs.declared.srdf.GroupItem.{GroupItem}
use Rattle.rb_srdf.specs.declared.srdf.GroupItem.TheVariants as Item
use Rattle.rb_srdf.specs.declared.srdf.Group.{Group}
use Rattle.rb_srdf.specs.declared.srdf.Virtual.{Virtual}
use Rattle.rb_srdf.specs.Groups.{Reaches}
use Rattle.rb_tree.specs.declared.faults.TreeFault.{TreeFault}
use Rattle.rb_tree.specs.declared.faults.TreeKind.{TreeKind}
use Rattle.rb_tree.specs.declared.faults.TreeKind.TheVariants.{UnknownName, BadChain}
use Rattle.rb_tree.specs.declared.faults.WhichFile.TheVariants.{Srdf}
use Rattle.rb_tree.specs.declared.robot.Body.{Body}
use Rattle.rb_tree.specs.declared.groups.BodyGroup.{BodyGroup}
use Rattle.rb_tree.specs.Columns.{parent_at}

-- ---- names
-- the number of the body whose link has the name
unfoldable pub body_of_link : List Body → List ℕ → Option ℕ
body_of_link bodies name = option_map (λ k. k + 1) (position (λ body. bytes_eq body.link_name name) bodies)

-- the number of the body whose joint has the name: of the root's joint and another of one name it is the other
unfoldable pub body_of_joint : List Body → List ℕ → Option ℕ
body_of_joint [] name = None
body_of_joint (root ∷ rest) name =
    option_or (option_map (λ k. k + 2) (position (λ body. bytes_eq body.joint_name name) rest)) (if bytes_eq root.joint_name name then Some 1 else None)

-- a virtual joint has the name
unfoldable pub is_virtual : List Virtual → List ℕ → Bool
is_virtual virtuals name = list_any (λ virtual. bytes_eq virtual.name name) virtuals

-- ---- chains
-- the body, or the world, that is so many steps nearer to the world
abbrev pub nearer : List Body → ℕ → ℕ → ℕ
nearer bodies zero i = i
nearer bodies (suc steps) i = nearer bodies steps (parent_at bodies i)

-- a body is another, or above it
abbrev pub IsAtOrAbove : List Body → ℕ → ℕ → Type 0
IsAtOrAbove bodies above i = (steps : ℕ) × (nearer bodies steps i ≡ above)

-- a body is below another
abbrev pub IsBelow : List Body → ℕ → ℕ → Type 0
IsBelow bodies above i = IsAtOrAbove bodies above (parent_at bodies i)

-- a chain goes from the body of one link to that of another
pub record IsChain (bodies : List Body) (base_name tip_name : List ℕ) (base tip : ℕ) : Type 0 where
  pub base_is : body_of_link bodies base_name ≡ Some base
  pub tip_is : body_of_link bodies tip_name ≡ Some tip

-- a body is on the way down from the base, which is left out, to the tip
pub record IsInChain (bodies : List Body) (base_name tip_name : List ℕ) (i : ℕ) : Type 0 where
  pub base : ℕ
  pub tip : ℕ
  pub chain : IsChain bodies base_name tip_name base tip
  pub below : IsBelow bodies base i
  pub down_to : IsAtOrAbove bodies i tip

-- ---- what is wrong with a group
-- an item names no link, or no joint
abbrev pub IsUnknown : List Body → List Virtual → GroupItem → Type 0
IsUnknown bodies virtuals (Item.Link name) = body_of_link bodies name ≡ None
IsUnknown bodies virtuals (Item.Joint name) = (body_of_joint bodies name ≡ None) × (is_virtual virtuals name ≡ false)
IsUnknown bodies virtuals (Item.Chain base tip) = (body_of_link bodies base ≡ None) ⊎ (body_of_link bodies tip ≡ None)
IsUnknown bodies virtuals (Item.Group name) = ⊥

-- the base of a chain is neither the tip nor above it
pub record IsBroken (bodies : List Body) (base_name tip_name : List ℕ) : Type 0 where
  pub base : ℕ
  pub tip : ℕ
  pub chain : IsChain bodies base_name tip_name base tip
  pub apart : IsAtOrAbove bodies base tip → ⊥

abbrev pub IsBadChain : List Body → GroupItem → Type 0
IsBadChain bodies (Item.Chain base tip) = IsBroken bodies base tip
IsBadChain bodies _ = ⊥

-- each item of a group names what is there, and its chains go down
pub record IsGroupRight (bodies : List Body) (virtuals : List Virtual) (group : Group) : Type 0 where
  pub known : AllByRecursion (λ item. IsUnknown bodies virtuals item → ⊥) group.items
  pub down : AllByRecursion (λ item. IsBadChain bodies item → ⊥) group.items

-- an unknown name comes before a chain that does not go down
abbrev pub IsGroupRefused : List Body → List Virtual → Group → TreeKind → Type 0
IsGroupRefused bodies virtuals group UnknownName = Any (IsUnknown bodies virtuals) group.items
IsGroupRefused bodies virtuals group BadChain = AllByRecursion (λ item. IsUnknown bodies virtuals item → ⊥) group.items × Any (IsBadChain bodies) group.items
IsGroupRefused bodies virtuals group _ = ⊥

-- the first group that is refused
pub record HasGroupFault (bodies : List Body) (virtuals : List Virtual) (groups : List Group) (fault : TreeFault) : Type 0 where
  pub number : ℕ
  pub group : Group
  pub is : slice_get groups number ≡ Some group
  pub file : fault.file ≡ Srdf
  pub place : fault.at ≡ group.place
  pub refused : IsGroupRefused bodies virtuals group fault.kind
  pub first : (k : ℕ) (earlier : Group) → k < number → slice_get groups k ≡ Some earlier → IsGroupRight bodies virtuals earlier

-- ---- the bodies of a group
-- an item names a body: a link is its own, a joint that which it bears, and a virtual joint's name is none
abbrev pub ItemGives : List Body → GroupItem → ℕ → Type 0
ItemGives bodies (Item.Link name) i = body_of_link bodies name ≡ Some i
ItemGives bodies (Item.Joint name) i = body_of_joint bodies name ≡ Some i
ItemGives bodies (Item.Chain base tip) i = IsInChain bodies base tip i
ItemGives bodies (Item.Group name) i = ⊥

-- a group, or a group that it holds, names the body
pub record GroupGives (bodies : List Body) (groups : List Group) (k i : ℕ) : Type 0 where
  pub through : ℕ
  pub reached : Reaches groups k through
  pub group : Group
  pub is : slice_get groups through ≡ Some group
  pub item : GroupItem
  pub among : Contains group.items item
  pub gives : ItemGives bodies item i

-- the group of a number, with its bodies in ascending order
pub record IsGroupOf (bodies : List Body) (groups : List Group) (k : ℕ) (made : BodyGroup) : Type 0 where
  pub group : Group
  pub is : slice_get groups k ≡ Some group
  pub name : made.name ≡ group.name
  pub ascending : IsStrictlyIncreasing made.bodies
  pub all : (i : ℕ) → Contains made.bodies i ↔ GroupGives bodies groups k i

-- the groups of a file with their bodies, in file order
pub record AreGroupsOf (bodies : List Body) (virtuals : List Virtual) (groups : List Group) (made : List BodyGroup) : Type 0 where
  pub right : AllByRecursion (IsGroupRight bodies virtuals) groups
  pub count : length made ≡ length groups
  pub each : (k : ℕ) (group : BodyGroup) → slice_get made k ≡ Some group → IsGroupOf bodies groups k group
