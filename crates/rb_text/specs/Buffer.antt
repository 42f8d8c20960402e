-- What contracts see of a buffer of fixed room.
use Rattle.std.specs.Prelude.{ℕ, List}

-- its bytes, and how many more find room
pub record Buffer : Type 0 where
  pub bytes : List ℕ
  pub spare : ℕ
