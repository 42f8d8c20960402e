-- Plain lines.
use Rattle.std.specs.Prelude.{ℕ, ◌==◌, List, [], ◌∷◌, Bool, false, not, ◌&&◌, ◌||◌}
use Rattle.std.specs.List.{list_any, slice_split}

-- a quote, or an end of a line
abbrev pub is_mark : ℕ → Bool
is_mark byte = (byte == 34) || (byte == 13) || (byte == 10)

-- a line with no mark in it, which is not empty and does not begin as a byte order mark does
abbrev pub is_plain : List ℕ → Bool
is_plain [] = false
is_plain (byte ∷ bytes) = not (byte == 0xEF) && not (list_any is_mark (byte ∷ bytes))

abbrev pub is_comma : ℕ → Bool
is_comma byte = byte == 44

-- what stands between the commas of a line
abbrev pub parts_of : List ℕ → List (List ℕ)
parts_of line = slice_split is_comma line
