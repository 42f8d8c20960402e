-- What follows from a result that was computed step by step.
use Rattle.std.proofs.Common.{◌≡◌, ◌⊎◌, inl, inr, ℕ, Bool, true, false, cond, Option, Some, None, Result, Ok, Err, refl, sym, ap, ◌∙◌}
use Rattle.std.specs.Option.{ok_or}
use Rattle.rb_result.specs.Steps.{◌>>=◌, told_as, placed}

abbrev pub value : {E A : Type 0} → A → Result A E
value x = Ok x

pub same_ok : {E A : Type 0} (x y : A) → value {E = E} x ≡ value y → x ≡ y
same_ok x y h = cc

abbrev pub fault : {E A : Type 0} → E → Result A E
fault e = Err e

pub same_err : {E A : Type 0} (d e : E) → fault {A = A} d ≡ fault e → d ≡ e
same_err d e h = cc

-- a first step gave a value, and the others go on from it
pub then-ok : {E A B : Type 0} (r : Result A E) (f : A → Result B E) (y : B) → (r >>= f) ≡ Ok y → (x : A) × (r ≡ Ok x) × (f x ≡ Ok y)
then-ok (Ok x) f y h = (x, refl, h)
then-ok (Err e) f y h = absurd cc

-- either step has the fault
pub then-err : {E A B : Type 0} (r : Result A E) (f : A → Result B E) (e : E) → (r >>= f) ≡ Err e → (r ≡ Err e) ⊎ ((x : A) × (r ≡ Ok x) × (f x ≡ Err e))
then-err (Ok x) f e h = inr (x, refl, h)
then-err (Err d) f e h = let same : d ≡ e = cc in inl (ap Err same)

pub told-ok : {A E F : Type 0} (f : E → F) (r : Result A E) (x : A) → told_as f r ≡ Ok x → r ≡ Ok x
told-ok f (Ok y) x h = let same : y ≡ x = cc in ap Ok same
told-ok f (Err e) x h = absurd cc

pub told-err : {A E F : Type 0} (f : E → F) (r : Result A E) (d : F) → told_as f r ≡ Err d → (e : E) × (r ≡ Err e) × (f e ≡ d)
told-err f (Ok x) d h = absurd cc
told-err f (Err e) d h = (e, refl, cc)

pub placed-ok : {A K F : Type 0} (fault_at : K → ℕ → F) (place : ℕ) (r : Result A K) (x : A) → placed fault_at place r ≡ Ok x → r ≡ Ok x
placed-ok fault_at place (Ok y) x h = let same : y ≡ x = cc in ap Ok same
placed-ok fault_at place (Err e) x h = absurd cc

pub placed-err : {A K F : Type 0} (fault_at : K → ℕ → F) (place : ℕ) (r : Result A K) (d : F) → placed fault_at place r ≡ Err d → (kind : K) × (r ≡ Err kind) × (fault_at kind place ≡ d)
placed-err fault_at place (Ok x) d h = absurd cc
placed-err fault_at place (Err kind) d h = (kind, refl, cc)

pub found-ok : {E A : Type 0} (o : Option A) (e : E) (x : A) → ok_or o e ≡ Ok x → o ≡ Some x
found-ok (Some y) e x h = let same : y ≡ x = cc in ap Some same
found-ok None e x h = absurd cc

pub found-err : {E A : Type 0} (o : Option A) (d e : E) → ok_or o d ≡ Err e → (d ≡ e) × (o ≡ None)
found-err None d e h = let same : d ≡ e = cc in (same, refl)
found-err (Some x) d e h = absurd cc

-- a test that sent a step on, or stopped it
pub unless-ok : {E A : Type 0} (b : Bool) (e : E) (r : Result A E) (x : A) → cond b (Err e) r ≡ Ok x → (b ≡ false) × (r ≡ Ok x)
unless-ok false e r x h = (refl, h)
unless-ok true e r x h = absurd cc

pub unless-err : {E A : Type 0} (b : Bool) (d : E) (r : Result A E) (e : E) → cond b (Err d) r ≡ Err e → ((b ≡ true) × (d ≡ e)) ⊎ ((b ≡ false) × (r ≡ Err e))
unless-err true d r e h = let same : d ≡ e = cc in inl (refl, same)
unless-err false d r e h = inr (refl, h)

-- a result that is a value is no fault
pub not-both : {E A : Type 0} (r : Result A E) (x : A) (e : E) → r ≡ Ok x → r ≡ Err e → ⊥
not-both r x e ok err = let clash : value x ≡ fault e = sym ok ∙ err in absurd cc

pub value_last : {E A : Type 0} (r : Result A E) → (r >>= λ x. Ok x) ≡ r
value_last (Ok x) = refl
value_last (Err e) = refl

pub grouped : {E A B C : Type 0} (r : Result A E) (f : A → Result B E) (g : B → Result C E) → (r >>= f >>= g) ≡ (r >>= λ x. f x >>= g)
grouped (Ok x) f g = refl
grouped (Err e) f g = refl
