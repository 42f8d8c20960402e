-- Results that are what a list of refusals says: the first fault whose condition holds, and a value only where none holds.
use Rattle.std.proofs.Common.{◌≡◌, ◌⊎◌, inl, inr, ℕ, Bool, true, false, cond, List, [], ◌∷◌, ◌++◌, Option, Some, None, Result, Ok, Err, refl, sym, ap, ◌∙◌, subst}
use Rattle.std.specs.Option.{ok_or}
use Rattle.rb_result.specs.Steps.{◌>>=◌, placed}
use Rattle.rb_result.proofs.Results.{value, fault, same_err, then-ok, then-err, placed-ok, placed-err, found-ok, found-err, unless-ok, unless-err, not-both}
use Rattle.rb_tags.specs.InOrder.{SaysNone, Refusal, ◌when◌, IsFirst, either, at_place, in_turn}

-- no condition holds
abbrev pub HoldsNone : {F : Type 0} → List (Refusal F) → Type 0
HoldsNone [] = Unit {0}
HoldsNone (refusal ∷ others) = (¬ refusal.condition) × HoldsNone others

pub record Obeys {F A : Type 0} (refusals : List (Refusal F)) (r : Result A F) : Type 0 where
  pub gives : (x : A) → r ≡ Ok x → HoldsNone refusals
  pub refuses : (e : F) → r ≡ Err e → IsFirst refusals e

neither : {P Q : Type 0} → (¬ P) → (¬ Q) → ¬ (P ⊎ Q)
neither p q (inl h) = p h
neither p q (inr h) = q h

module _ {F : Type 0} where
  pub first-once : (refusals : List (Refusal F)) (a b : F) → IsFirst refusals a → IsFirst refusals b → a ≡ b
  first-once [] a b p q = absurd p
  first-once (refusal ∷ others) a b (inl p) (inl q) = p.1 ∙ sym q.1
  first-once (refusal ∷ others) a b (inl p) (inr q) = absurd (q.0 p.0)
  first-once (refusal ∷ others) a b (inr p) (inl q) = absurd (p.0 q.0)
  first-once (refusal ∷ others) a b (inr p) (inr q) = first-once others a b p.1 q.1

  pub none-first : (refusals : List (Refusal F)) (e : F) → HoldsNone refusals → IsFirst refusals e → ⊥
  none-first [] e none first = first
  none-first (refusal ∷ others) e none (inl first) = none.0 first.0
  none-first (refusal ∷ others) e none (inr first) = none-first others e none.1 first.1

  none-append : (refusals others : List (Refusal F)) → HoldsNone refusals → HoldsNone others → HoldsNone (refusals ++ others)
  none-append [] others none more = more
  none-append (refusal ∷ refusals) others none more = (none.0, none-append refusals others none.1 more)

  pub first-left : (refusals others : List (Refusal F)) (e : F) → IsFirst refusals e → IsFirst (refusals ++ others) e
  first-left [] others e first = absurd first
  first-left (refusal ∷ refusals) others e (inl first) = inl first
  first-left (refusal ∷ refusals) others e (inr first) = inr (first.0, first-left refusals others e first.1)

  pub first-right : (refusals others : List (Refusal F)) (e : F) → HoldsNone refusals → IsFirst others e → IsFirst (refusals ++ others) e
  first-right [] others e none first = first
  first-right (refusal ∷ refusals) others e none first = inr (none.0, first-right refusals others e none.1 first)

  -- where no condition of the first holds, the first fault is one of the others
  pub first-later : (refusals others : List (Refusal F)) (e : F) → HoldsNone refusals → IsFirst (refusals ++ others) e → IsFirst others e
  first-later [] others e none first = first
  first-later (refusal ∷ refusals) others e none (inl first) = absurd (none.0 first.0)
  first-later (refusal ∷ refusals) others e none (inr first) = first-later refusals others e none.1 first.1

  -- a value, where no condition holds
  pub obeys-ok : {A : Type 0} (refusals : List (Refusal F)) (x : A) → HoldsNone refusals → Obeys refusals (value {E = F} x)
  obeys-ok refusals x none = record { gives = λ y h. none; refuses = λ e h. absurd (not-both (value x) x e refl h) }

  -- a fault, which is the first
  pub obeys-err : {A : Type 0} (refusals : List (Refusal F)) (e : F) → IsFirst refusals e → Obeys refusals (fault {A = A} e)
  obeys-err refusals e first = record { gives = λ x h. absurd (not-both (fault e) x e h refl); refuses = λ d h. subst (IsFirst refusals) (same_err e d h) first }

  pub obeys-none : {A : Type 0} (refusals others : List (Refusal F)) (r : Result A F) → HoldsNone refusals → Obeys others r → Obeys (refusals ++ others) r
  obeys-none refusals others r none obeys = record {
    gives = λ x h. none-append refusals others none (obeys.gives x h);
    refuses = λ e h. first-right refusals others e none (obeys.refuses e h);
  }

  -- one step after another
  pub obeys-then : {A B : Type 0} (refusals others : List (Refusal F)) (r : Result A F) (f : A → Result B F) → Obeys refusals r → ((x : A) → r ≡ Ok x → Obeys others (f x)) → Obeys (refusals ++ others) (r >>= f)
  obeys-then refusals others r f obeys next = record {
    gives = λ y h. let p = then-ok r f y h in none-append refusals others (obeys.gives p.0 p.1) ((next p.0 p.1).gives y p.2);
    refuses = λ e h. elim (then-err r f e h) [
      | inl first ↦ first-left refusals others e (obeys.refuses e first)
      | inr p ↦ first-right refusals others e (obeys.gives p.0 p.1) ((next p.0 p.1).refuses e p.2)
    ];
  }

  pub obeys-next : {A B : Type 0} {refusal : Refusal F} {others : List (Refusal F)} (r : Result A F) (f : A → Result B F) → Obeys (refusal ∷ []) r → ((x : A) → r ≡ Ok x → Obeys others (f x)) → Obeys (refusal ∷ others) (r >>= f)
  obeys-next {refusal} {others} r f obeys next = obeys-then (refusal ∷ []) others r f obeys next

  pub obeys-value : {A B : Type 0} {refusals : List (Refusal F)} (r : Result A F) (f : A → B) → Obeys refusals r → Obeys refusals (r >>= λ x. Ok (f x))
  obeys-value r f obeys = record {
    gives = λ y h. let p = then-ok r (λ x. Ok (f x)) y h in obeys.gives p.0 p.1;
    refuses = λ e h. elim (then-err r (λ x. Ok (f x)) e h) [
      | inl first ↦ obeys.refuses e first
      | inr p ↦ absurd (not-both (value (f p.0)) (f p.0) e refl p.2)
    ];
  }

  -- two conditions with one fault
  pub obeys-either : {A : Type 0} {e : F} {P Q : Type 0} {others : List (Refusal F)} {r : Result A F} → Obeys (e when P ∷ e when Q ∷ others) r → Obeys (e when (P ⊎ Q) ∷ others) r
  obeys-either {e} {P} {Q} {others} obeys = record {
    gives = λ x h. let none = obeys.gives x h in (neither none.0 none.1.0, none.1.1);
    refuses = λ d h. first d (obeys.refuses d h);
  }
    where
      first : (d : F) → IsFirst (e when P ∷ e when Q ∷ others) d → IsFirst (e when (P ⊎ Q) ∷ others) d
      first d (inl p) = inl (inl p.0, p.1)
      first d (inr (fails, inl q)) = inl (inr q.0, q.1)
      first d (inr (fails, inr q)) = inr (neither fails q.0, q.1)

  -- a condition in other words
  pub obeys-same : {A : Type 0} {e : F} {P Q : Type 0} {others : List (Refusal F)} {r : Result A F} → (P → Q) → (Q → P) → Obeys (e when P ∷ others) r → Obeys (e when Q ∷ others) r
  obeys-same {e} {P} {Q} {others} to from obeys = record {
    gives = λ x h. let none = obeys.gives x h in (λ q. none.0 (from q), none.1);
    refuses = λ d h. same d (obeys.refuses d h);
  }
    where
      same : (d : F) → IsFirst (e when P ∷ others) d → IsFirst (e when Q ∷ others) d
      same d (inl first) = inl (to first.0, first.1)
      same d (inr first) = inr (λ q. first.0 (from q), first.1)

  -- a step whose value is what is said, and that has one fault
  pub obeys-said : {A : Type 0} (e : F) (Says : A → Type 0) (r : Result A F) → ((x : A) → r ≡ Ok x → Says x) → ((x : A) → Says x → r ≡ Ok x) → ((d : F) → r ≡ Err d → e ≡ d) → Obeys (e when SaysNone Says ∷ []) r
  obeys-said e Says r says read one = record {
    gives = λ x h. (λ none. none x (says x h), tt);
    refuses = λ d h. inl (λ x s. not-both r x d (read x s) h, sym (one d h));
  }

  -- a value that may be missing
  pub obeys-found : {A : Type 0} (e : F) (P : Type 0) (o : Option A) → ((x : A) → o ≡ Some x → ¬ P) → (o ≡ None → P) → Obeys (e when P ∷ []) (ok_or o e)
  obeys-found e P o some none = record {
    gives = λ x h. (some x (found-ok o e x h), tt);
    refuses = λ d h. let p = found-err o e d h in inl (none p.1, sym p.0);
  }

  -- a test that stops
  pub obeys-unless : {A : Type 0} (e : F) (P : Type 0) (others : List (Refusal F)) (b : Bool) (r : Result A F) → (b ≡ true → P) → (b ≡ false → ¬ P) → (b ≡ false → Obeys others r) → Obeys (e when P ∷ others) (cond b (Err e) r)
  obeys-unless e P others b r holds fails next = record {
    gives = λ x h. let p = unless-ok b e r x h in (fails p.0, (next p.0).gives x p.1);
    refuses = λ d h. elim (unless-err b e r d h) [
      | inl p ↦ inl (holds p.0, sym p.1)
      | inr p ↦ inr (fails p.0, (next p.0).refuses d p.1)
    ];
  }

  -- a test that chooses one of two steps
  pub obeys-if : {A : Type 0} {refusals others : List (Refusal F)} (b : Bool) (r s : Result A F) → (b ≡ true → Obeys refusals r) → (b ≡ false → Obeys others s) → Obeys (either b refusals others) (cond b r s)
  obeys-if true r s holds fails = holds refl
  obeys-if false r s holds fails = fails refl

  -- refusals of which the first fault is that of a step
  pub obeys-first : {A : Type 0} (refusals : List (Refusal F)) (r : Result A F) (e : F) → Obeys refusals r → IsFirst refusals e → r ≡ Err e
  obeys-first refusals (Ok x) e obeys first = absurd (none-first refusals e (obeys.gives x refl) first)
  obeys-first refusals (Err d) e obeys first = ap Err (first-once refusals d e (obeys.refuses d refl) first)

-- at a place

none-placed : {K F : Type 0} (fault_at : K → ℕ → F) (place : ℕ) (refusals : List (Refusal K)) → HoldsNone refusals → HoldsNone (at_place fault_at place refusals)
none-placed fault_at place [] none = tt
none-placed fault_at place (refusal ∷ others) none = (none.0, none-placed fault_at place others none.1)

first-placed : {K F : Type 0} (fault_at : K → ℕ → F) (place : ℕ) (refusals : List (Refusal K)) (kind : K) (e : F) → fault_at kind place ≡ e → IsFirst refusals kind → IsFirst (at_place fault_at place refusals) e
first-placed fault_at place [] kind e same first = absurd first
first-placed fault_at place (refusal ∷ others) kind e same (inl first) = inl (first.0, sym same ∙ ap (λ k. fault_at k place) first.1)
first-placed fault_at place (refusal ∷ others) kind e same (inr first) = inr (first.0, first-placed fault_at place others kind e same first.1)

pub obeys-placed : {A K F : Type 0} (fault_at : K → ℕ → F) (place : ℕ) {refusals : List (Refusal K)} (r : Result A K) → Obeys refusals r → Obeys (at_place fault_at place refusals) (placed fault_at place r)
obeys-placed fault_at place {refusals} r obeys = record {
  gives = λ x h. none-placed fault_at place refusals (obeys.gives x (placed-ok fault_at place r x h));
  refuses = λ e h. let p = placed-err fault_at place r e h in first-placed fault_at place refusals p.0 e p.2 (obeys.refuses p.0 p.1);
}

-- steps along a list, where what is made so far fits the items before
module _ {A S F : Type 0} (walk : S → List A → Result S F) (step : S → A → Result S F) (refusals : List A → A → List (Refusal F)) (Fits : List A → S → Type 0)
    (none : (s : S) → walk s [] ≡ Ok s) (more : (s : S) (x : A) (xs : List A) → walk s (x ∷ xs) ≡ (step s x >>= λ t. walk t xs))
    (obeys : (before : List A) (s : S) (x : A) → Fits before s → Obeys (refusals before x) (step s x))
    (fits : (before : List A) (s t : S) (x : A) → Fits before s → step s x ≡ Ok t → Fits (before ++ x ∷ []) t) where
  pub obeys-along : (before : List A) (s : S) (xs : List A) → Fits before s → Obeys (in_turn refusals before xs) (walk s xs)
  obeys-along before s [] f = subst (Obeys []) (sym (none s)) (obeys-ok [] s tt)
  obeys-along before s (x ∷ xs) f =
      subst (Obeys (in_turn refusals before (x ∷ xs))) (sym (more s x xs))
      (obeys-then (refusals before x) (in_turn refusals (before ++ x ∷ []) xs) (step s x) (λ t. walk t xs) (obeys before s x f)
      (λ t e. obeys-along (before ++ x ∷ []) t xs (fits before s t x f e)))
