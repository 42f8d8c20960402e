-- Bytes kept in memory, up to a room: what both sinks in memory say of their calls.
use Rattle.std.specs.Prelude.{◌≡◌, ℕ, ◌-◌, List, length}
use Rattle.rb_io.specs.declared.mem_bytes.MemBytes.{MemBytes}

-- what is kept of the bytes that were put
abbrev pub put_of : MemBytes → List ℕ
put_of held = held.kept.items

-- how many more bytes it has room for
abbrev pub spare_of : MemBytes → ℕ
spare_of held = held.room - length (put_of held)

-- its room is used up
abbrev pub IsFull : MemBytes → Type 0
IsFull held = length (put_of held) ≡ held.room

-- what no call changes: the room, and the most bytes of a write
pub record HasSameRoom (old new : MemBytes) : Type 0 where
  pub room : new.room ≡ old.room
  pub piece : new.piece ≡ old.piece
