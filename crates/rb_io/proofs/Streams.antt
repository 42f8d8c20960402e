-- What a stream of the machine holds after it took nothing.
use Rattle.std.proofs.Common.{ℕ, List, [], Option, None, Some, append-nil}
use Rattle.std.specs.Io.KnownBytes.{Appends, Keeps}

-- where no byte was taken, nothing changed
pub keeps_of_none : (old new : Option (List ℕ)) → Appends old new [] → Keeps old new
keeps_of_none None new h = tt
keeps_of_none (Some xs) None h = h
keeps_of_none (Some xs) (Some ys) h = rw h (append-nil xs)
