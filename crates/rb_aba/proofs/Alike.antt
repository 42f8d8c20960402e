-- Two runs of steps that end alike: both with values between which a relation holds, or both with the same refusal.
use Rattle.std.proofs.Common.{◌≡◌, List, [], ◌∷◌, Result, Ok, Err, refl, sym, ◌∙◌, subst}
use Rattle.rb_result.specs.Steps.{◌>>=◌}
use Rattle.rb_sweep.specs.Sweep.{sweep}

abbrev pub Alike : {S T E : Type 0} → (S → T → Type 0) → Result S E → Result T E → Type 0
Alike R (Ok s) (Ok t) = R s t
Alike R (Err d) (Err e) = d ≡ e
Alike R (Ok s) (Err e) = ⊥
Alike R (Err d) (Ok t) = ⊥

-- the same first step, and then what is alike
pub alike_same : {A S T E : Type 0} (R : S → T → Type 0) (r : Result A E) (f : A → Result S E) (g : A → Result T E) → ((x : A) → r ≡ Ok x → Alike R (f x) (g x)) → Alike R (r >>= f) (r >>= g)
alike_same R (Ok x) f g h = h x refl
alike_same R (Err e) f g h = refl

pub alike_then : {S T U V E : Type 0} (Q : S → T → Type 0) (R : U → V → Type 0) (r : Result S E) (q : Result T E) (f : S → Result U E) (g : T → Result V E)
    → Alike Q r q → ((s : S) (t : T) → r ≡ Ok s → Q s t → Alike R (f s) (g t)) → Alike R (r >>= f) (q >>= g)
alike_then Q R (Ok s) (Ok t) f g a h = h s t refl a
alike_then Q R (Err d) (Err e) f g a h = a
alike_then Q R (Ok s) (Err e) f g a h = absurd a
alike_then Q R (Err d) (Ok t) f g a h = absurd a

-- what is known of the values of the first run may be used
pub alike_so : {S T E : Type 0} (Q R : S → T → Type 0) (r : Result S E) (q : Result T E) → Alike Q r q → ((s : S) (t : T) → r ≡ Ok s → Q s t → R s t) → Alike R r q
alike_so Q R (Ok s) (Ok t) a h = h s t refl a
alike_so Q R (Err d) (Err e) a h = a
alike_so Q R (Ok s) (Err e) a h = absurd a
alike_so Q R (Err d) (Ok t) a h = absurd a

pub alike_sweep : {N S T E : Type 0} (R : S → T → Type 0) (at : N → S → Result S E) (by : N → T → Result T E)
    → ((n : N) (s : S) (t : T) → R s t → Alike R (at n s) (by n t)) → (ns : List N) (s : S) (t : T) → R s t → Alike R (sweep at ns s) (sweep by ns t)
alike_sweep R at by h [] s t k = k
alike_sweep R at by h (n ∷ ns) s t k =
    alike_then R R (at n s) (by n t) (λ u. sweep at ns u) (λ v. sweep by ns v) (h n s t k) (λ u v e l. alike_sweep R at by h ns u v l)

-- ---- what one of them ends with, from the other
pub value_alike : {S T E : Type 0} (R : S → T → Type 0) (r : Result S E) (q : Result T E) (t : T) → Alike R r q → q ≡ Ok t → (s : S) × (r ≡ Ok s) × R s t
value_alike R (Ok s) (Ok u) t a e = let same : u ≡ t = cc in (s, refl, subst (R s) same a)
value_alike R (Err d) (Err f) t a e = absurd cc
value_alike R (Ok s) (Err f) t a e = absurd a
value_alike R (Err d) (Ok u) t a e = absurd a

pub fault_alike : {S T E : Type 0} (R : S → T → Type 0) (r : Result S E) (q : Result T E) (e : E) → Alike R r q → q ≡ Err e → r ≡ Err e
fault_alike R (Ok s) (Ok u) e a h = absurd cc
fault_alike R (Err d) (Err f) e a h = let same : f ≡ e = cc in cc
fault_alike R (Ok s) (Err f) e a h = absurd a
fault_alike R (Err d) (Ok u) e a h = absurd a

pub value_back : {S T E : Type 0} (R : S → T → Type 0) (r : Result S E) (q : Result T E) (s : S) → Alike R r q → r ≡ Ok s → (t : T) × (q ≡ Ok t) × R s t
value_back R (Ok u) (Ok t) s a e = let same : u ≡ s = cc in (t, refl, subst (λ (x : _). R x t) same a)
value_back R (Err d) (Err f) s a e = absurd cc
value_back R (Ok u) (Err f) s a e = absurd a
value_back R (Err d) (Ok t) s a e = absurd a
