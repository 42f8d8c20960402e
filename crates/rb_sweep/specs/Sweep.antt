-- Steps at places in turn, up to the first that is refused.
use Rattle.std.specs.Prelude.{◌≡◌, ◌⊎◌, ℕ, zero, suc, ◌+◌, ◌-◌, List, [], ◌∷◌, Result, Ok, Err}
use Rattle.rb_result.specs.Steps.{◌>>=◌}

-- the step at each of these places in turn, up to the first refusal
abbrev pub sweep : {N S E : Type 0} → (N → S → Result S E) → List N → S → Result S E
sweep step [] s = Ok s
sweep step (n ∷ ns) s = step n s >>= λ t. sweep step ns t

-- so many numbers from lo on, ascending
abbrev pub counting_up : ℕ → ℕ → List ℕ
counting_up lo zero = []
counting_up lo (suc k) = lo ∷ counting_up (lo + 1) k

-- so many numbers, the least of which is lo, descending
abbrev pub counting_down : ℕ → ℕ → List ℕ
counting_down lo zero = []
counting_down lo (suc k) = (lo + k) ∷ counting_down lo k

-- the numbers from lo on and below hi, ascending
unfoldable pub upward : ℕ → ℕ → List ℕ
upward lo hi = counting_up lo (hi - lo)

-- the same, descending
unfoldable pub downward : ℕ → ℕ → List ℕ
downward lo hi = counting_down lo (hi - lo)

-- a call answers as this rule does: where it succeeds it leaves the state that the rule gives, else it has the rule's refusal
abbrev pub Answers : {A S E : Type 0} → Result A E → Result S E → S → Type 0
Answers (Ok _) rule s = rule ≡ Ok s
Answers (Err e) rule s = rule ≡ Err e

-- n is one of these
abbrev pub Among : {N : Type 0} → N → List N → Type 0
Among n [] = ⊥
Among n (m ∷ ms) = (n ≡ m) ⊎ Among n ms
