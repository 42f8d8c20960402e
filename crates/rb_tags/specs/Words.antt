-- The words of a text.
use Rattle.std.specs.Prelude.{ℕ, List, length, filter, not, ◌==◌}
use Rattle.std.specs.List.{slice_split}
use Rattle.rb_tags.specs.Bytes.{is_space}

-- the parts of a text between white space
unfoldable pub words : List ℕ → List (List ℕ)
words text = filter (λ word. not (length word == 0)) (slice_split is_space text)
