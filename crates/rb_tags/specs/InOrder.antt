-- Refusals in order: the fault that is told is that of the first one whose condition holds.
use Rattle.std.specs.Prelude.{◌≡◌, ◌⊎◌, ℕ, Bool, true, false, List, [], ◌∷◌, ◌++◌, map}

-- no value is said
abbrev pub SaysNone : {A : Type 0} → (A → Type 0) → Type 0
SaysNone {A} Says = (v : A) → ¬ Says v

-- a fault, and the condition under which it is told where nothing before it is
pub record Refusal (F : Type 0) : Type 1 where
  pub fault : F
  pub condition : Type 0

infix 70 ◌when◌
abbrev pub ◌when◌ : {F : Type 0} → F → Type 0 → Refusal F
fault when condition = record { fault = fault; condition = condition }

-- the fault of the first of these refusals whose condition holds
abbrev pub IsFirst : {F : Type 0} → List (Refusal F) → F → Type 0
IsFirst [] fault = ⊥
IsFirst (refusal ∷ others) fault = (refusal.condition × (fault ≡ refusal.fault)) ⊎ ((¬ refusal.condition) × IsFirst others fault)

-- these refusals where a test passes, and else the others
abbrev pub either : {F : Type 0} → Bool → List (Refusal F) → List (Refusal F) → List (Refusal F)
either true refusals others = refusals
either false refusals others = others

-- refusals with kinds of faults, which are told with a place
abbrev pub at_place : {K F : Type 0} → (K → ℕ → F) → ℕ → List (Refusal K) → List (Refusal F)
at_place fault_at place refusals = map (λ refusal. fault_at refusal.fault place when refusal.condition) refusals

-- the refusals of each item in turn, behind the items before it
abbrev pub in_turn : {A F : Type 0} → (List A → A → List (Refusal F)) → List A → List A → List (Refusal F)
in_turn refusals before [] = []
in_turn refusals before (item ∷ items) = refusals before item ++ in_turn refusals (before ++ item ∷ []) items
