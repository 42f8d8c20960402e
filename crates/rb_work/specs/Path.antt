-- Columns and their ancestors, and where their pairs stand in a packed table. Columns are numbered from 1. Featherstone, Rigid Body Dynamics
-- Algorithms, chapter 6: the pattern of the mass table of a branched tree.
use Rattle.std.specs.Prelude.{◌≡◌, ℕ, zero, suc, ◌+◌, ◌-◌, ◌<◌, ◌≤◌, ◌==◌, Bool, List, [], ◌∷◌, length, slice_index_or}
use Rattle.std.specs.List.{list_any}
use Rattle.rb_sweep.specs.Sweep.{Among}

-- the column above c, or 0: the list tells it from column 1 on
abbrev pub above : List ℕ → ℕ → ℕ
above up zero = 0
above up (suc k) = slice_index_or up k 0

-- each is below its own column's number
abbrev pub Ascends : List ℕ → Type 0
Ascends up = (c : ℕ) → 1 ≤ c → c ≤ length up → above up c < c

-- column c, the one above it and so on; at most so many
unfoldable pub path_within : ℕ → List ℕ → ℕ → List ℕ
path_within steps up zero = []
path_within zero up (suc k) = []
path_within (suc steps) up (suc k) = suc k ∷ path_within steps up (above up (suc k))

-- column c and its ancestors, upward. Ancestors have smaller numbers, so c steps are enough.
unfoldable pub path : List ℕ → ℕ → List ℕ
path up c = path_within c up c

-- d is c or one of its ancestors
abbrev pub IsOn : List ℕ → ℕ → ℕ → Type 0
IsOn up c d = Among d (path up c)

-- whether it is
abbrev pub is_on : List ℕ → ℕ → ℕ → Bool
is_on up c d = list_any (λ e. e == d) (path up c)

-- how many these are
abbrev pub depth : List ℕ → ℕ → ℕ
depth up c = length (path up c)

-- the depths of the columns up to c, added: behind so many numbers those of column c end
unfoldable pub packed_end : List ℕ → ℕ → ℕ
packed_end up zero = 0
packed_end up (suc k) = packed_end up k + depth up (suc k)

-- f 0, f 1, .., f n
pub record AreUpTo (n : ℕ) (f : ℕ → ℕ) (items : List ℕ) : Type 0 where
  pub long : length items ≡ n + 1
  pub each : (c : ℕ) → c ≤ n → slice_index_or items c 0 ≡ f c

-- the depths of the columns, and the ends of their numbers, from column 0 on
abbrev pub AreDepths : List ℕ → List ℕ → Type 0
AreDepths up depths = AreUpTo (length up) (depth up) depths

abbrev pub AreEnds : List ℕ → List ℕ → Type 0
AreEnds up ends = AreUpTo (length up) (packed_end up) ends

-- how many numbers there are: the sum of the depths of the columns
abbrev pub packed_length : List ℕ → ℕ
packed_length up = packed_end up (length up)

-- where the number of c and d stands, with d on the path of c: the path's numbers stand in its order
unfoldable pub packed_place : List ℕ → ℕ → ℕ → ℕ
packed_place up c d = packed_end up c - depth up d
