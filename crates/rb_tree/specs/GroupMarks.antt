-- Marks of bodies while the groups of a file are made, and what the names of its items are looked up in.
use Rattle.std.specs.Prelude.{◌≡◌, ◌⊎◌, ◌↔◌, ℕ, Bool, true, false, List, length, slice_get, Some, slice_index_or}
use Rattle.std.specs.List.{Contains}
use Rattle.std.specs.List.Sorted.{IsStrictlyIncreasing}
use Rattle.rb_srdf.specs.declared.srdf.GroupItem.{GroupItem}
use Rattle.rb_srdf.specs.declared.srdf.GroupItem.TheVariants as Item
use Rattle.rb_srdf.specs.declared.srdf.Group.{Group}
use Rattle.rb_srdf.specs.Srdf.{Semantics, IsSrdf, names_of_groups, names_of_virtuals}
use Rattle.rb_tree.specs.declared.robot.Body.{Body}
use Rattle.rb_tree.specs.declared.groups.BodyGroup.{BodyGroup}
use Rattle.rb_tree.specs.Robot.{AreBodies}
use Rattle.rb_tree.specs.Groups.{ItemGives, GroupGives}

-- ---- marks
abbrev pub IsMarked : List Bool → ℕ → Type 0
IsMarked marks i = slice_index_or marks i false ≡ true

-- these are marked too
pub record Adds (P : ℕ → Type 0) (old new : List Bool) : Type 0 where
  pub size : length new ≡ length old
  pub marks : (i : ℕ) → IsMarked new i ↔ (IsMarked old i ⊎ P i)

-- the numbers that are marked, in ascending order
pub record AreMarked (marks : List Bool) (numbers : List ℕ) : Type 0 where
  pub ascending : IsStrictlyIncreasing numbers
  pub all : (i : ℕ) → Contains numbers i ↔ IsMarked marks i

-- ---- lists of bodies
-- the bodies of the group of a number, in ascending order
pub record AreBodiesOf (bodies : List Body) (groups : List Group) (k : ℕ) (numbers : List ℕ) : Type 0 where
  pub ascending : IsStrictlyIncreasing numbers
  pub all : (i : ℕ) → Contains numbers i ↔ GroupGives bodies groups k i

-- the group of a number has its bodies
abbrev pub HasBodies : List Body → List Group → List BodyGroup → ℕ → Type 0
HasBodies bodies groups made k = (group : BodyGroup) → slice_get made k ≡ Some group → AreBodiesOf bodies groups k group.bodies

-- the group that an item names
pub record NamesGroup (groups : List Group) (item : GroupItem) (k : ℕ) : Type 0 where
  pub group : Group
  pub is : slice_get groups k ≡ Some group
  pub names : item ≡ Item.Group group.name

-- an item names a body, or a group that does
abbrev pub ItemGivesAll : List Body → List Group → GroupItem → ℕ → Type 0
ItemGivesAll bodies groups item i = ItemGives bodies item i ⊎ ((k : ℕ) × NamesGroup groups item k × GroupGives bodies groups k i)

-- ---- names
-- the bodies of a robot, and the groups and the virtual joints of a file
pub record Scope : Type 0 where
  pub bodies : List Body
  pub srdf : Semantics

-- the names of the virtual joints and of the groups
pub record IsScope (scope : Scope) (virtuals groups : List (List ℕ)) : Type 0 where
  pub bodies : AreBodies scope.bodies
  pub srdf : IsSrdf scope.srdf
  pub virtuals_are : virtuals ≡ names_of_virtuals scope.srdf.virtuals
  pub groups_are : groups ≡ names_of_groups scope.srdf.groups
