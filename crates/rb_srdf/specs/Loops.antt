-- Groups by the numbers of the groups that they hold: a row of numbers for each group, in file order.
use Rattle.std.specs.Prelude.{◌≡◌, ◌<◌, ◌≤◌, ℕ, List, [], ◌∷◌, Option, None, map, length, slice_index, slice_index_or}
use Rattle.std.specs.List.{All, Contains, filter_map}
use Rattle.rb_tags.specs.Names.{number_of_name}
use Rattle.rb_srdf.specs.declared.srdf.GroupItem.{GroupItem}
use Rattle.rb_srdf.specs.declared.srdf.GroupItem.TheVariants as Item
use Rattle.rb_srdf.specs.declared.srdf.Group.{Group}
use Rattle.rb_srdf.specs.declared.loops.Holding.{Holding}
use Rattle.rb_srdf.specs.declared.loops.Holding.TheVariants as holding
use Rattle.rb_srdf.specs.Groups.{HoldsItself, IsFirstLoop, IsBefore, IsHoldingOrder}
use Rattle.rb_srdf.specs.Srdf.{names_of_groups}

-- the number of the group that an item names
abbrev pub number_of_item : List (List ℕ) → GroupItem → Option ℕ
number_of_item names (Item.Group name) = number_of_name names name
number_of_item names item = None

-- the numbers of the groups that items name, in file order
unfoldable pub held_by : List (List ℕ) → List GroupItem → List ℕ
held_by names items = filter_map (number_of_item names) items

unfoldable pub rows_of : List Group → List (List ℕ)
rows_of groups = map (λ group. held_by (names_of_groups groups) group.items) groups

-- a row holds another
abbrev pub RowHolds : List (List ℕ) → ℕ → ℕ → Type 0
RowHolds rows a b = Contains (slice_index_or rows a []) b

-- from one row to another along these, each of which the one before it holds
abbrev pub LeadsBy : List (List ℕ) → ℕ → List ℕ → ℕ → Type 0
LeadsBy rows from [] to = from ≡ to
LeadsBy rows from (next ∷ way) to = RowHolds rows from next × LeadsBy rows next way to

-- a way of one step or more leads from one row to another
abbrev pub LeadsTo : List (List ℕ) → ℕ → ℕ → Type 0
LeadsTo rows from to = (next : ℕ) × (way : List ℕ) × RowHolds rows from next × LeadsBy rows next way to

-- no row is at a lower level than one that it holds
abbrev pub AreOrdered : List (List ℕ) → List ℕ → Type 0
AreOrdered rows levels = (a b : ℕ) → RowHolds rows a b → slice_index levels b ≤ slice_index levels a

-- each row is at a higher level than those that it holds
abbrev pub AreFalling : List (List ℕ) → List ℕ → Type 0
AreFalling rows levels = (a b : ℕ) → RowHolds rows a b → slice_index levels b < slice_index levels a

-- the first row from which a way leads to itself
pub record IsFirstOnLoop (rows : List (List ℕ)) (k : ℕ) : Type 0 where
  pub within : k < length rows
  pub loop : LeadsTo rows k k
  pub first : (j : ℕ) → j < k → LeadsTo rows j j → ⊥

-- the numbers of all rows, each once, and each behind those that it holds; no way leads from a row to itself
pub record IsRowOrder (rows : List (List ℕ)) (order : List ℕ) : Type 0 where
  pub count : length order ≡ length rows
  pub there : All (λ k. k < length rows) order
  pub all : (k : ℕ) → k < length rows → Contains order k
  pub held_first : (a b : ℕ) → RowHolds rows a b → b < length rows → IsBefore order b a
  pub no_loop : (k : ℕ) → LeadsTo rows k k → ⊥

-- an order of groups of which none holds itself
pub record IsLoopFree (groups : List Group) (order : List ℕ) : Type 0 where
  pub ordered : IsHoldingOrder groups order
  pub no_loop : (k : ℕ) → HoldsItself groups k → ⊥

abbrev pub IsRowAnswer : List (List ℕ) → Holding → Type 0
IsRowAnswer rows (holding.Order order) = IsRowOrder rows order.items
IsRowAnswer rows (holding.Loop k) = IsFirstOnLoop rows k

-- an order in which each group comes behind those that it holds, or the first group that holds itself
abbrev pub IsHolding : List Group → Holding → Type 0
IsHolding groups (holding.Order order) = IsLoopFree groups order.items
IsHolding groups (holding.Loop k) = IsFirstLoop groups k
