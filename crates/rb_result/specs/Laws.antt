-- What steps are to each other.
use Rattle.std.specs.Prelude.{◌≡◌, Result, Ok}
use Rattle.rb_result.specs.Steps.{◌>>=◌}

-- a value goes on to the next step
abbrev pub ValueFirst : Type 0 → Type 0 → Type 0 → Type 0
ValueFirst E A B = (x : A) (f : A → Result B E) → (Ok x >>= f) ≡ f x

-- a last step that answers its value changes nothing
abbrev pub ValueLast : Type 0 → Type 0 → Type 0
ValueLast E A = (r : Result A E) → (r >>= λ x. Ok x) ≡ r

-- steps may be grouped either way
abbrev pub Grouped : Type 0 → Type 0 → Type 0 → Type 0 → Type 0
Grouped E A B C = (r : Result A E) (f : A → Result B E) (g : B → Result C E) → (r >>= f >>= g) ≡ (r >>= λ x. f x >>= g)
