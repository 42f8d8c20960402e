-- Steps whose faults are told with their places.
use Rattle.std.proofs.Common.{◌≡◌, ◌⊎◌, inl, inr, ℕ, Result, Err, sym, ap, ◌∙◌}
use Rattle.rb_result.specs.Steps.{◌>>=◌, placed}

-- what follows from a failure follows from what is the same
pub fails_along : {F A : Type 0} (no_memory fault : F) (whole part : Result A F) → whole ≡ part → (fault ≡ no_memory) ⊎ (part ≡ Err fault) → (fault ≡ no_memory) ⊎ (whole ≡ Err fault)
fails_along no_memory fault whole part e (inl memory) = inl memory
fails_along no_memory fault whole part e (inr fails) = inr (e ∙ fails)

-- each kind is told with its place, but for want of memory, which has none
pub record IsPlacing {K F : Type 0} (fault_at told : K → ℕ → F) (memory : K) (no_memory : F) : Type 0 where
  pub memory_is : (place : ℕ) → told memory place ≡ no_memory
  pub told_is : (kind : K) (place : ℕ) → (told kind place ≡ no_memory) ⊎ (told kind place ≡ fault_at kind place)

-- a step fails, and so does what needs it
pub step_fails : {K F X A : Type 0} {fault_at told : K → ℕ → F} {memory : K} {no_memory : F} → IsPlacing fault_at told memory no_memory → (kind : K) (place : ℕ) (fault : F) (step : Result X K) (f : X → Result A F) → fault ≡ told kind place → (kind ≡ memory) ⊎ (step ≡ Err kind) → (fault ≡ no_memory) ⊎ ((placed fault_at place step >>= f) ≡ Err fault)
step_fails {told} places kind place fault step f e (inl memory) = inl (e ∙ ap (λ k. told k place) memory ∙ places.memory_is place)
step_fails places kind place fault step f e (inr fails) =
    elim (places.told_is kind place) [
      | inl memory ↦ inl (e ∙ memory)
      | inr is ↦ inr (rw fails (ap Err (sym (e ∙ is))))
    ]
