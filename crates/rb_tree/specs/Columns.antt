-- The columns of a tree of bodies. Bodies and columns are numbered from 1, and body 0 is the world. Featherstone, Rigid Body Dynamics
-- Algorithms, chapters 4 and 6.
use Rattle.std.specs.Prelude.{◌≡◌, ℕ, zero, suc, ◌+◌, ◌-◌, ◌<◌, ◌==◌, ◌||◌, nat_lt, Bool, if◌then◌else◌, List, [], ◌∷◌, ◌++◌, length, take, replicate, sum_by, Option, None, Some, is_some, slice_get, slice_index}
use Rattle.std.specs.List.{list_any}
use Rattle.std.specs.Option.{option_map_or}
use Rattle.rb_flat.specs.Joint as Kinds
use Rattle.rb_joint.specs.Any.{kind_of}
use Rattle.rb_tree.specs.declared.robot.Body.{Body}
use Rattle.rb_tree.specs.declared.robot.Mimic.{Mimic}
use Rattle.rb_tree.specs.declared.columns.Start.{Start}

-- ---- of a body
-- the columns of its joint
abbrev pub full_columns : Body → ℕ
full_columns body = Kinds.column_count (kind_of body.joint)

-- a count of a joint that follows no other
abbrev pub unless_mimic : Option Mimic → ℕ → ℕ
unless_mimic None count = count
unless_mimic (Some mimic) count = 0

-- the columns and the entries of its joint, of which a mimic has none of its own
abbrev pub own_columns : Body → ℕ
own_columns body = unless_mimic body.mimic (Kinds.column_count (kind_of body.joint))

abbrev pub own_entries : Body → ℕ
own_entries body = unless_mimic body.mimic (Kinds.entry_count (kind_of body.joint))

-- ---- of a robot
abbrev pub full_count : List Body → ℕ
full_count bodies = sum_by full_columns bodies

abbrev pub column_count : List Body → ℕ
column_count bodies = sum_by own_columns bodies

abbrev pub entry_count : List Body → ℕ
entry_count bodies = sum_by own_entries bodies

abbrev pub has_mimic : List Body → Bool
has_mimic bodies = list_any (λ body. is_some body.mimic) bodies

-- ---- of a body by its number
abbrev pub body_at : List Body → ℕ → Option Body
body_at bodies zero = None
body_at bodies (suc k) = slice_get bodies k

abbrev pub parent_at : List Body → ℕ → ℕ
parent_at bodies i = option_map_or (λ body. body.parent) (body_at bodies i) 0

abbrev pub full_at : List Body → ℕ → ℕ
full_at bodies i = option_map_or full_columns (body_at bodies i) 0

abbrev pub columns_at : List Body → ℕ → ℕ
columns_at bodies i = option_map_or own_columns (body_at bodies i) 0

abbrev pub entries_at : List Body → ℕ → ℕ
entries_at bodies i = option_map_or own_entries (body_at bodies i) 0

abbrev pub mimic_or : Option Mimic → ℕ → ℕ
mimic_or None i = i
mimic_or (Some mimic) i = mimic.master

-- the body whose columns it moves by: a mimic's is its master
abbrev pub leader_at : List Body → ℕ → ℕ
leader_at bodies i = option_map_or (λ body. mimic_or body.mimic i) (body_at bodies i) i

-- where the columns and entries behind the first k bodies begin: full columns and columns by number, entries by place from 0
unfoldable pub start_behind : List Body → ℕ → Start
start_behind bodies k = record {
  full = 1 + sum_by full_columns (take k bodies);
  column = 1 + sum_by own_columns (take k bodies);
  entry = sum_by own_entries (take k bodies);
}

-- its first full column; its first column and the place of its first entry, which are its master's for a mimic
abbrev pub first_full : List Body → ℕ → ℕ
first_full bodies i = (start_behind bodies (i - 1)).full

abbrev pub first_column : List Body → ℕ → ℕ
first_column bodies i = (start_behind bodies (leader_at bodies i - 1)).column

abbrev pub first_entry : List Body → ℕ → ℕ
first_entry bodies i = (start_behind bodies (leader_at bodies i - 1)).entry

-- ---- of columns
-- the bodies of the columns: each stands as often as it has columns. The first body has this number.
abbrev pub owners_from : ℕ → List Body → List ℕ
owners_from i [] = []
owners_from i (body ∷ rest) = replicate (own_columns body) i ++ owners_from (i + 1) rest

-- the body of the joint of a column
unfoldable pub body_of_column : List Body → ℕ → ℕ
body_of_column bodies c = slice_index (owners_from 1 bodies) (c - 1)

-- the last column of body i where it has one, else of the nearest body above it that has one, else 0; at most so many bodies are asked
unfoldable pub nearest_within : ℕ → List Body → ℕ → ℕ
nearest_within zero bodies i = 0
nearest_within (suc steps) bodies i =
    if columns_at bodies i == 0 then nearest_within steps bodies (parent_at bodies i) else sum_by own_columns (take i bodies)

-- parents have smaller numbers, so i bodies are enough
unfoldable pub nearest_column : List Body → ℕ → ℕ
nearest_column bodies i = nearest_within i bodies i

-- the next column upward: in a robot with a mimic, or behind another column of the same joint, the previous one, else the last one of the
-- nearest body above that has columns, or 0
unfoldable pub up_of : List Body → ℕ → ℕ
up_of bodies c =
    let i = body_of_column bodies c in
    if has_mimic bodies || nat_lt (start_behind bodies (i - 1)).column c then c - 1 else nearest_column bodies (parent_at bodies i)

-- ---- lists of these
-- the list f 0, f 1, .., f (n - 1)
pub record IsListOf {X : Type 0} (n : ℕ) (f : ℕ → X) (items : List X) : Type 0 where
  pub count : length items ≡ n
  pub at : (k : ℕ) → k < n → slice_get items k ≡ Some (f k)

-- the next columns upward, from column 1 on
abbrev pub AreUps : List Body → List ℕ → Type 0
AreUps bodies ups = IsListOf (column_count bodies) (λ k. up_of bodies (k + 1)) ups

-- where each body begins, and at the end what would come next
abbrev pub AreStarts : List Body → List Start → Type 0
AreStarts bodies starts = IsListOf (length bodies + 1) (start_behind bodies) starts

-- the nearest columns, from the world on
abbrev pub AreNearest : List Body → List ℕ → Type 0
AreNearest bodies lasts = IsListOf (length bodies + 1) (nearest_column bodies) lasts
