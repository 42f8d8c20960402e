-- Groups that hold groups.
use Rattle.std.specs.Prelude.{◌≡◌, ◌<◌, ℕ, List, [], ◌∷◌, length, slice_get, Some}
use Rattle.std.specs.List.{Contains}
use Rattle.rb_srdf.specs.declared.srdf.GroupItem.TheVariants as Item
use Rattle.rb_srdf.specs.declared.srdf.Group.{Group}

-- one group holds another, by their numbers from 0: an item of it names the other
pub record Holds (groups : List Group) (a b : ℕ) : Type 0 where
  pub holder : Group
  pub held : Group
  pub holder_is : slice_get groups a ≡ Some holder
  pub held_is : slice_get groups b ≡ Some held
  pub item : Contains holder.items (Item.Group held.name)

-- from one group to another along these, each of which the one before it holds
abbrev pub Leads : List Group → ℕ → List ℕ → ℕ → Type 0
Leads groups from [] to = from ≡ to
Leads groups from (next ∷ way) to = Holds groups from next × Leads groups next way to

-- a group is another, or holds it through groups
abbrev pub Reaches : List Group → ℕ → ℕ → Type 0
Reaches groups from to = (way : List ℕ) × Leads groups from way to

-- a group holds itself through groups
abbrev pub HoldsItself : List Group → ℕ → Type 0
HoldsItself groups k = (next : ℕ) × Holds groups k next × Reaches groups next k

-- the first group that holds itself
pub record IsFirstLoop (groups : List Group) (k : ℕ) : Type 0 where
  pub within : k < length groups
  pub loop : HoldsItself groups k
  pub first : (j : ℕ) → j < k → HoldsItself groups j → ⊥

-- one number is before another
pub record IsBefore (numbers : List ℕ) (first second : ℕ) : Type 0 where
  pub first_at : ℕ
  pub second_at : ℕ
  pub first_is : slice_get numbers first_at ≡ Some first
  pub second_is : slice_get numbers second_at ≡ Some second
  pub before : first_at < second_at

-- the numbers of all groups, each once, and each group comes behind those that it holds
pub record IsHoldingOrder (groups : List Group) (order : List ℕ) : Type 0 where
  pub count : length order ≡ length groups
  pub there : (place k : ℕ) → slice_get order place ≡ Some k → k < length groups
  pub all : (k : ℕ) → k < length groups → Contains order k
  pub held_first : (a b : ℕ) → Holds groups a b → IsBefore order b a
