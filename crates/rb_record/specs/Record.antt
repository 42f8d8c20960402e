-- The fields of a line.
use Rattle.std.specs.Prelude.{ℕ, List, [], ◌∷◌, Option, None, Some}
use Rattle.csv.specs.Reading.{default_config, records, strip_bom}

-- the one item of a list
abbrev pub only : {A : Type 0} → List A → Option A
only (x ∷ []) = Some x
only xs = None

-- the fields of a line that is exactly one record of comma-separated values, behind a byte order mark or not
unfoldable pub fields_in : List ℕ → Option (List (List ℕ))
fields_in line = only (records default_config (strip_bom line))
