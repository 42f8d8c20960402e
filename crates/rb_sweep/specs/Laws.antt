-- What sweeps do, said without the fold.
use Rattle.std.specs.Prelude.{◌≡◌, ◌↔◌, ℕ, ◌<◌, ◌≤◌, List, ◌∷◌, ◌++◌, Result, Ok, Err}
use Rattle.rb_result.specs.Steps.{◌>>=◌}
use Rattle.rb_sweep.specs.Sweep.{sweep, Among}

-- a sweep goes on from what it left
abbrev pub GoesOn : Type 0 → Type 0 → Type 0 → Type 0
GoesOn N S E = (step : N → S → Result S E) (ms ns : List N) (s : S) → sweep step (ms ++ ns) s ≡ (sweep step ms s >>= λ t. sweep step ns t)

-- the steps before one are done, and that one is refused
pub record IsRefusedAt {N S E : Type 0} (step : N → S → Result S E) (ns : List N) (s : S) (e : E) : Type 0 where
  pub before : List N
  pub at : N
  pub after : List N
  pub reached : S
  pub split : ns ≡ before ++ at ∷ after
  pub until : sweep step before s ≡ Ok reached
  pub refused : step at reached ≡ Err e

-- a sweep is refused exactly as its first step that is
abbrev pub RefusesFirst : Type 0 → Type 0 → Type 0 → Type 0
RefusesFirst N S E = (step : N → S → Result S E) (ns : List N) (s : S) (e : E) → (sweep step ns s ≡ Err e) ↔ IsRefusedAt step ns s e

-- the numbers of a range, either way
abbrev pub HasRange : (ℕ → ℕ → List ℕ) → Type 0
HasRange range = (lo hi i : ℕ) → Among i (range lo hi) ↔ ((lo ≤ i) × (i < hi))
