-- The sources of the machine: which one is open, and what is left of it.
use Rattle.std.specs.Prelude.{ℕ, List, [], Bool, true, false, Option, Some}
use Rattle.rb_io.specs.declared.host.Source.{Source}

-- whether some source is open
abbrev pub has_source : {F : Type 0} → Source F → Bool
has_source Source.Closed = false
has_source Source.Stream = true
has_source (Source.File file) = true

-- whether the open source is the stream
abbrev pub is_stream : {F : Type 0} → Source F → Bool
is_stream Source.Closed = false
is_stream Source.Stream = true
is_stream (Source.File file) = false

-- what is left of the open source, where that is known: nothing, where none is open
abbrev pub source_left : {F S : Type 0} → (F → Option (List ℕ)) → (S → Option (List ℕ)) → Source F → S → Option (List ℕ)
source_left of_file of_stream Source.Closed stream = Some []
source_left of_file of_stream Source.Stream stream = of_stream stream
source_left of_file of_stream (Source.File file) stream = of_file file
