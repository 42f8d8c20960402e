-- Lists of names that differ, and the number of a name.
use Rattle.std.specs.Prelude.{◌≢◌, ℕ, List, AllPairs, bytes_eq, position, Option}

-- no two names are the same
abbrev pub AreDifferent : List (List ℕ) → Type 0
AreDifferent names = AllPairs (λ a b. a ≢ b) names

-- the number of a name, from 0: where it stands first
unfoldable pub number_of_name : List (List ℕ) → List ℕ → Option ℕ
number_of_name names name = position (bytes_eq name) names
