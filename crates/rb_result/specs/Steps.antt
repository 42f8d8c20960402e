-- Steps that answer a value or a fault, one after the other, and what a reader gives.
use Rattle.std.specs.Prelude.{◌≡◌, ◌⊎◌, ℕ, Result, Ok, Err}

-- the answer of the second step from the value of the first, or the fault of the first
infixl 10 ◌>>=◌
abbrev pub ◌>>=◌ : {E A B : Type 0} → Result A E → (A → Result B E) → Result B E
(Ok x) >>= f = f x
(Err e) >>= f = Err e

-- the answer of a step, whose fault is told as another
abbrev pub told_as : {A E F : Type 0} → (E → F) → Result A E → Result A F
told_as f (Ok x) = Ok x
told_as f (Err e) = Err (f e)

-- the answer of a step, whose kind of fault is told with its place
abbrev pub placed : {A K F : Type 0} → (K → ℕ → F) → ℕ → Result A K → Result A F
placed fault_at place (Ok x) = Ok x
placed fault_at place (Err kind) = Err (fault_at kind place)

-- what a function answered, seen by view, is what reading gives, unless memory ran out
abbrev pub Gives : {F X Y : Type 0} → F → (X → Y) → Result X F → Result Y F → Type 0
Gives no_memory view (Ok x) read = read ≡ Ok (view x)
Gives no_memory view (Err e) read = (e ≡ no_memory) ⊎ (read ≡ Err e)
