-- What names in memory hold.
use Rattle.std.specs.Prelude.{ℕ, List, [], Bool, false, Option, None, Some, map, string_bytes, slice_get, ◌==◌}
use Rattle.std.specs.Option.{option_map_or}
use Rattle.std.specs.Str.{bytes_eq}
use Rattle.std.specs.List.{position_or_len}
use Rattle.rb_io.specs.declared.mem_file.MemFile.{MemFile}

-- the names, from the front
abbrev pub names_in : List MemFile → List (List ℕ)
names_in files = map (λ file. string_bytes file.name) files

-- the place of a name: the number of files, where it was not added
abbrev pub place_in : List MemFile → List ℕ → ℕ
place_in files name = position_or_len (λ file. bytes_eq (string_bytes file.name) name) files

-- what the file at a place holds: nothing, where there is none
abbrev pub held_at : List MemFile → ℕ → List ℕ
held_at files place = option_map_or (λ file. file.held.items) (slice_get files place) []

-- what a name holds: nothing, where it was not added
abbrev pub held_of : List MemFile → List ℕ → List ℕ
held_of files name = held_at files (place_in files name)

-- what the open file holds: nothing, where none is open
abbrev pub held_in : List MemFile → Option ℕ → List ℕ
held_in files None = []
held_in files (Some place) = held_at files place

-- whether a name stands at the open place
abbrev pub is_at : List MemFile → Option ℕ → List ℕ → Bool
is_at files None name = false
is_at files (Some place) name = place == place_in files name
