-- How a text is cut into lines.
use Rattle.std.specs.Prelude.{ℕ, ◌==◌, List, [], ◌∷◌, Bool, true, false, length, filter}
use Rattle.std.specs.List.{slice_split}
use Rattle.std.specs.Str.Lines.{strip_carriage_return}

-- a line: its content, and its length without its LF and with a CR before that
pub record Line : Type 0 where
  pub content : List ℕ
  pub size : ℕ

abbrev pub line : List ℕ → ℕ → Line
line content size = record { content = content; size = size }

abbrev pub is_line_feed : ℕ → Bool
is_line_feed byte = byte == 10

-- the lines that were cut at each LF: one CR before an LF is dropped, and the last line has no LF
abbrev pub lines_cut : List (List ℕ) → List Line
lines_cut [] = []
lines_cut (last ∷ []) = line last (length last) ∷ []
lines_cut (bytes ∷ next ∷ others) = line (strip_carriage_return bytes) (length bytes) ∷ lines_cut (next ∷ others)

abbrev pub has_bytes : List ℕ → Bool
has_bytes [] = false
has_bytes (byte ∷ bytes) = true

-- all lines of a text: behind a last LF stands an empty one
abbrev pub all_lines : List ℕ → List Line
all_lines text = lines_cut (slice_split is_line_feed text)

-- those that are not empty
unfoldable pub lines_of : List ℕ → List Line
lines_of text = filter (λ line. has_bytes line.content) (all_lines text)
