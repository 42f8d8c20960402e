-- Names in memory, one of which may be open: what both inputs in memory say of their calls.
use Rattle.std.specs.Prelude.{◌≡◌, ◌≢◌, ◌<◌, ◌≤◌, ℕ, List, [], ◌∷◌, ◌++◌, length, take, drop, Bool, false, IsTrue, is_some, Contains, Result, OnOk, OnErr}
use Rattle.rb_io.specs.declared.mem_files.MemFiles.{MemFiles}
use Rattle.rb_io.specs.MemFile.{names_in, held_of, held_in, is_at}
use Rattle.rb_io.specs.Outside.{counted}
use Rattle.rb_io.specs.Pieces.{moved}

-- the names that were added, the last one first
abbrev pub names_of : MemFiles → List (List ℕ)
names_of held = names_in held.files.items

-- what each name holds
abbrev pub holds_of : MemFiles → List ℕ → List ℕ
holds_of held name = held_of held.files.items name

-- whether some name is open
abbrev pub has_open : MemFiles → Bool
has_open held = is_some held.place

-- whether this name may be the open one
abbrev pub is_opened : MemFiles → List ℕ → Bool
is_opened held name = is_at held.files.items held.place name

-- what the open name holds: nothing, where none is open
abbrev pub whole_of : MemFiles → List ℕ
whole_of held = held_in held.files.items held.place

-- what is left of the open name
abbrev pub left_of : MemFiles → List ℕ
left_of held = drop held.at (whole_of held)

-- how many bytes were given since the last opening
abbrev pub given_of : MemFiles → ℕ
given_of held = counted 0 held.at

-- what no call of the trait changes: the files, and so what each name holds, and the most bytes of a read
pub record HasSameFiles (old new : MemFiles) : Type 0 where
  pub files : new.files ≡ old.files
  pub holds : holds_of new ≡ holds_of old
  pub piece : new.piece ≡ old.piece

-- with no name, and none open
pub record IsEmpty (held : MemFiles) : Type 0 where
  pub names : names_of held ≡ []
  pub holds : (name : List ℕ) → holds_of held name ≡ []
  pub is_closed : has_open held ≡ false
  pub given : given_of held ≡ 0

-- a name was added with what it holds, or nothing was; either way none is open
pub record IsAdded {E : Type 0} (old new : MemFiles) (name bytes : List ℕ) (result : Result Unit E) : Type 0 where
  pub names : OnOk result (names_of new ≡ name ∷ names_of old)
  pub held : OnOk result (holds_of new name ≡ bytes)
  pub others : OnOk result ((other : List ℕ) → other ≢ name → holds_of new other ≡ holds_of old other)
  pub err : OnErr result (names_of new ≡ names_of old)
  pub err_holds : OnErr result (holds_of new ≡ holds_of old)
  pub is_closed : has_open new ≡ false
  pub given : given_of new ≡ given_of old
  pub piece : new.piece ≡ old.piece

-- a name was opened, and all that it holds is left
pub record IsOpened (old new : MemFiles) (name : List ℕ) : Type 0 where
  pub is_open : IsTrue (has_open new)
  pub opened : IsTrue (is_opened new name)
  pub whole : whole_of new ≡ holds_of old name
  pub left : left_of new ≡ holds_of old name
  pub absent : ¬ (Contains (names_of old) name) → left_of new ≡ []

-- none is open
pub record IsClosed (new : MemFiles) : Type 0 where
  pub is_closed : has_open new ≡ false
  pub opened : (other : List ℕ) → is_opened new other ≡ false
  pub whole : whole_of new ≡ []
  pub left : left_of new ≡ []

-- so many bytes of the open name were given, at the front of a buffer: all that fit
pub record IsRead (old new : MemFiles) (n : ℕ) (buf : List ℕ) : Type 0 where
  pub count : n ≡ moved (length buf) old.piece (length (left_of old))
  pub bound : n ≤ length buf
  pub none_open : has_open old ≡ false → n ≡ 0
  pub takes : left_of old ≡ take n buf ++ left_of new
  pub end : n ≡ 0 → 0 < length buf → left_of new ≡ []
  pub given : given_of new ≡ counted (given_of old) n

-- what no read changes: which name is open, and what it holds
pub record IsSameOpen (old new : MemFiles) : Type 0 where
  pub is_open : has_open new ≡ has_open old
  pub opened : is_opened new ≡ is_opened old
  pub whole : whole_of new ≡ whole_of old
