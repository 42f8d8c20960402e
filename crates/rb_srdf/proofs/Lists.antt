-- Lists beside each other, elements of which one has a property, and elements that differ.
use Rattle.std.proofs.Common.{◌≡◌, ◌⊎◌, inl, inr, ℕ, zero, suc, ◌+◌, ◌<◌, Bool, true, false, ◌&&◌, ◌||◌, List, [], ◌∷◌, ◌++◌, length, get_or, refl, sym, ◌∙◌, subst, arith, true≢false}
use Rattle.std.specs.Prelude.{cond, filter, Any}
use Rattle.std.specs.List.{AllZip, AllPairs, AllByRecursion, list_any, list_all}
use Rattle.std.proofs.lemmas.List.{length-append, get_or_append_left}
use Rattle.std.proofs.Math.Seq.{get_or-append_seam}
use Rattle.std.proofs.lemmas.List.Quantifiers.{all_pairs_push}
use Rattle.std.proofs.lemmas.Bool.{and_parts}
use Rattle.std.proofs.lemmas.List.Folds.{list_any_none, list_any_at}

-- one of a list

pub any-first : {A : Type 0} (P : A → Type 0) (x : A) (xs : List A) → P x → Any P (x ∷ xs)
any-first P x xs p = (0, x, omega arith, refl, p)

pub any-later : {A : Type 0} (P : A → Type 0) (x : A) (xs : List A) → Any P xs → Any P (x ∷ xs)
any-later P x xs h = (suc h.0, h.1, omega arith, h.3, h.4)

pub any-cases : {A : Type 0} (P : A → Type 0) (x : A) (xs : List A) → Any P (x ∷ xs) → P x ⊎ Any P xs
any-cases P x xs (zero, y, within, is, p) = inl (subst P (sym is) p)
any-cases P x xs (suc k, y, within, is, p) = inr (k, y, omega arith, is, p)

pub any-join : {A : Type 0} (P : A → Type 0) (x : A) (xs : List A) → P x ⊎ Any P xs → Any P (x ∷ xs)
any-join P x xs (inl here) = any-first P x xs here
any-join P x xs (inr later) = any-later P x xs later

pub any-none : {A : Type 0} (P : A → Type 0) → ¬ Any P []
any-none P h = absurd (omega arith)

-- each of a list lacks what none has
pub each-lacks : {A : Type 0} (P : A → Type 0) (xs : List A) → (¬ Any P xs) → AllByRecursion (λ x. ¬ P x) xs
each-lacks P [] none = tt
each-lacks P (x ∷ xs) none = (λ p. none (any-first P x xs p), each-lacks P xs (λ h. none (any-later P x xs h)))

-- lists beside each other

module _ {A B : Type 0} (R : A → B → Type 0) where
  pub zip-push : (xs : List A) (ys : List B) (x : A) (y : B) → AllZip R xs ys → R x y → AllZip R (xs ++ x ∷ []) (ys ++ y ∷ [])
  zip-push [] [] x y each r = (r, tt)
  zip-push [] (b ∷ ys) x y each r = absurd each
  zip-push (a ∷ xs) [] x y each r = absurd each
  zip-push (a ∷ xs) (b ∷ ys) x y each r = (each.0, zip-push xs ys x y each.1 r)

  -- the first of the others is beside the first
  pub zip-first : (x : A) (xs : List A) (ys : List B) → AllZip R (x ∷ xs) ys → (y : B) × (others : List B) × (ys ≡ y ∷ others) × R x y × AllZip R xs others
  zip-first x xs [] each = absurd each
  zip-first x xs (y ∷ ys) each = (y, ys, refl, each.0, each.1)

  pub zip-none : (ys : List B) → AllZip R [] ys → ys ≡ []
  zip-none [] each = refl
  zip-none (y ∷ ys) each = absurd each

  -- an item that passes is beside one that has the property, and the other way round
  module _ (test : B → Bool) (P : A → Type 0) where
    pub zip-any : ((x : A) (y : B) → R x y → test y ≡ true → P x) → (xs : List A) (ys : List B) → AllZip R xs ys → list_any test ys ≡ true → Any P xs
    zip-any f [] [] each h = absurd cc
    zip-any f [] (y ∷ ys) each h = absurd each
    zip-any f (x ∷ xs) [] each h = absurd each
    zip-any f (x ∷ xs) (y ∷ ys) each h = by (test y) refl h (zip-any f xs ys each.1)
      where
        by : (b : Bool) → test y ≡ b → (b || list_any test ys) ≡ true → (list_any test ys ≡ true → Any P xs) → Any P (x ∷ xs)
        by true e h rest = any-first P x xs (f x y each.0 e)
        by false e h rest = any-later P x xs (rest h)

    pub any-zip : ((x : A) (y : B) → R x y → P x → test y ≡ true) → (xs : List A) (ys : List B) → AllZip R xs ys → Any P xs → list_any test ys ≡ true
    any-zip f [] ys each h = absurd (any-none P h)
    any-zip f (x ∷ xs) [] each h = absurd each
    any-zip f (x ∷ xs) (y ∷ ys) each h =
        elim (any-cases P x xs h) [
          | inl p ↦ first (test y) (f x y each.0 p)
          | inr p ↦ later (test y) (any-zip f xs ys each.1 p)
        ]
      where
        first : (b : Bool) → b ≡ true → (b || list_any test ys) ≡ true
        first true e = refl
        first false e = absurd (true≢false (sym e))

        later : (b : Bool) → list_any test ys ≡ true → (b || list_any test ys) ≡ true
        later true e = refl
        later false e = e

-- items that differ from those before them, where a test tells whether they do

module _ {A : Type 0} (D : A → A → Type 0) (test : A → A → Bool) where
  none-at : (x : A) (xs : List A) (k : ℕ) (d : A) → list_any (test x) xs ≡ false → k < length xs → test x (get_or xs k d) ≡ false
  none-at x xs k d none within = by (test x (get_or xs k d)) refl
    where
      by : (b : Bool) → test x (get_or xs k d) ≡ b → test x (get_or xs k d) ≡ false
      by false e = e
      by true e = absurd (true≢false (sym (list_any_at (test x) xs k d within e) ∙ none))

  pub pairs-push : ((a b : A) → test b a ≡ false → D a b) → (xs : List A) (x : A) → AllPairs D xs → list_any (test x) xs ≡ false → AllPairs D (xs ++ x ∷ [])
  pairs-push apart xs x differ none = all_pairs_push D xs x differ (λ k d within. apart (get_or xs k d) x (none-at x xs k d none within))

  pub pairs-new : ((a b : A) → D a b → test b a ≡ false) → (xs others : List A) (x : A) → AllPairs D (xs ++ x ∷ others) → list_any (test x) xs ≡ false
  pairs-new differ xs others x pairs =
      list_any_none (test x) xs
      (λ k d within.
      let size : length (xs ++ x ∷ others) ≡ length xs + length (x ∷ others) = length-append xs (x ∷ others) in
      let left : get_or (xs ++ x ∷ others) k d ≡ get_or xs k d = get_or_append_left xs (x ∷ others) d k within in
      let here : get_or (xs ++ x ∷ others) (length xs) d ≡ x = get_or-append_seam xs x others d in
      differ (get_or xs k d) x
      (subst (λ b. D (get_or xs k d) b) here (subst (λ a. D a (get_or (xs ++ x ∷ others) (length xs) d)) left (pairs k (length xs) d within (omega arith)))))

-- one of those that pass

pub any-weaker : {A : Type 0} (P Q : A → Type 0) (xs : List A) → ((x : A) → P x → Q x) → Any P xs → Any Q xs
any-weaker P Q xs f h = (h.0, h.1, h.2, h.3, f h.1 h.4)

module _ {A : Type 0} (P : A → Type 0) (p : A → Bool) where
  pub any-filter : (xs : List A) → Any P (filter p xs) → Any (λ x. (p x ≡ true) × P x) xs
  any-filter [] h = absurd (any-none P h)
  any-filter (x ∷ xs) h = by (p x) refl h (any-filter xs)
    where
      by : (b : Bool) → p x ≡ b → Any P (cond b (x ∷ filter p xs) (filter p xs)) → (Any P (filter p xs) → Any (λ y. (p y ≡ true) × P y) xs) → Any (λ y. (p y ≡ true) × P y) (x ∷ xs)
      by true e h rest =
          elim (any-cases P x (filter p xs) h) [
            | inl here ↦ any-first (λ y. (p y ≡ true) × P y) x xs (e, here)
            | inr later ↦ any-later (λ y. (p y ≡ true) × P y) x xs (rest later)
          ]
      by false e h rest = any-later (λ y. (p y ≡ true) × P y) x xs (rest h)

  pub filter-any : (xs : List A) → Any (λ x. (p x ≡ true) × P x) xs → Any P (filter p xs)
  filter-any [] h = absurd (any-none (λ x. (p x ≡ true) × P x) h)
  filter-any (x ∷ xs) h =
      elim (any-cases (λ y. (p y ≡ true) × P y) x xs h) [
        | inl here ↦ rw here.0 (any-first P x (filter p xs) here.1)
        | inr later ↦ by (p x) (filter-any xs later)
      ]
    where
      by : (b : Bool) → Any P (filter p xs) → Any P (cond b (x ∷ filter p xs) (filter p xs))
      by true rest = any-later P x (filter p xs) rest
      by false rest = rest

-- each of a list

module _ {A : Type 0} where
  pub each-not_any : (P : A → Type 0) (xs : List A) → AllByRecursion (λ x. ¬ P x) xs → ¬ Any P xs
  each-not_any P [] each h = any-none P h
  each-not_any P (x ∷ xs) each h = elim (any-cases P x xs h) [ inl p ↦ each.0 p | inr p ↦ each-not_any P xs each.1 p ]

  -- one that has a property, where each has another
  pub any-each : (P Q S : A → Type 0) (xs : List A) → ((x : A) → P x → Q x → S x) → AllByRecursion P xs → Any Q xs → Any S xs
  any-each P Q S [] f each h = absurd (any-none Q h)
  any-each P Q S (x ∷ xs) f each h =
      elim (any-cases Q x xs h) [
        | inl here ↦ any-first S x xs (f x each.0 here)
        | inr later ↦ any-later S x xs (any-each P Q S xs f each.1 later)
      ]

  pub each-weaker : (P Q : A → Type 0) (xs : List A) → ((x : A) → P x → Q x) → AllByRecursion P xs → AllByRecursion Q xs
  each-weaker P Q [] f each = tt
  each-weaker P Q (x ∷ xs) f each = (f x each.0, each-weaker P Q xs f each.1)

  pub each-both : (P Q S : A → Type 0) (xs : List A) → ((x : A) → P x → Q x → S x) → AllByRecursion P xs → AllByRecursion Q xs → AllByRecursion S xs
  each-both P Q S [] f ps qs = tt
  each-both P Q S (x ∷ xs) f ps qs = (f x ps.0 qs.0, each-both P Q S xs f ps.1 qs.1)

  pub each-filter : (P : A → Type 0) (p : A → Bool) (xs : List A) → AllByRecursion P xs → AllByRecursion (λ x. (p x ≡ true) × P x) (filter p xs)
  each-filter P p [] each = tt
  each-filter P p (x ∷ xs) each = by (p x) refl (each-filter P p xs each.1)
    where
      by : (b : Bool) → p x ≡ b → AllByRecursion (λ y. (p y ≡ true) × P y) (filter p xs) → AllByRecursion (λ y. (p y ≡ true) × P y) (cond b (x ∷ filter p xs) (filter p xs))
      by true e rest = ((e, each.0), rest)
      by false e rest = rest

  pub filter-each : (P : A → Type 0) (p : A → Bool) (xs : List A) → AllByRecursion P (filter p xs) → AllByRecursion (λ x. p x ≡ true → P x) xs
  filter-each P p [] each = tt
  filter-each P p (x ∷ xs) each = by (p x) refl each (filter-each P p xs)
    where
      by : (b : Bool) → p x ≡ b → AllByRecursion P (cond b (x ∷ filter p xs) (filter p xs)) → (AllByRecursion P (filter p xs) → AllByRecursion (λ y. p y ≡ true → P y) xs) → (p x ≡ true → P x) × AllByRecursion (λ y. p y ≡ true → P y) xs
      by true e each rest = (λ _. each.0, rest each.1)
      by false e each rest = (λ is. absurd (true≢false (sym is ∙ e)), rest each)

  -- what a test of each answers

  pub all-pass : (p : A → Bool) (xs : List A) → list_all p xs ≡ true → AllByRecursion (λ x. p x ≡ true) xs
  all-pass p [] h = tt
  all-pass p (x ∷ xs) h = let both = and_parts (p x) (list_all p xs) h in (both.0, all-pass p xs both.1)

  pub pass-all : (p : A → Bool) (xs : List A) → AllByRecursion (λ x. p x ≡ true) xs → list_all p xs ≡ true
  pass-all p [] each = refl
  pass-all p (x ∷ xs) each = rw (each.0) (pass-all p xs each.1)

  pub one-fails : (p : A → Bool) (xs : List A) → list_all p xs ≡ false → Any (λ x. p x ≡ false) xs
  one-fails p [] h = absurd (true≢false h)
  one-fails p (x ∷ xs) h = by (p x) refl h (one-fails p xs)
    where
      by : (b : Bool) → p x ≡ b → (b && list_all p xs) ≡ false → (list_all p xs ≡ false → Any (λ y. p y ≡ false) xs) → Any (λ y. p y ≡ false) (x ∷ xs)
      by false e h rest = any-first (λ y. p y ≡ false) x xs e
      by true e h rest = any-later (λ y. p y ≡ false) x xs (rest h)

-- what holds on one side of lists beside each other
module _ {A B : Type 0} (R : A → B → Type 0) (P : A → Type 0) (Q : B → Type 0) where
  pub zip-right : ((x : A) (y : B) → R x y → P x → Q y) → (xs : List A) (ys : List B) → AllZip R xs ys → AllByRecursion P xs → AllByRecursion Q ys
  zip-right f [] [] each ps = tt
  zip-right f [] (y ∷ ys) each ps = absurd each
  zip-right f (x ∷ xs) [] each ps = absurd each
  zip-right f (x ∷ xs) (y ∷ ys) each ps = (f x y each.0 ps.0, zip-right f xs ys each.1 ps.1)

  pub zip-left : ((x : A) (y : B) → R x y → Q y → P x) → (xs : List A) (ys : List B) → AllZip R xs ys → AllByRecursion Q ys → AllByRecursion P xs
  zip-left f [] [] each qs = tt
  zip-left f [] (y ∷ ys) each qs = absurd each
  zip-left f (x ∷ xs) [] each qs = absurd each
  zip-left f (x ∷ xs) (y ∷ ys) each qs = (f x y each.0 qs.0, zip-left f xs ys each.1 qs.1)

-- what holds of each item of either list
module _ {A B : Type 0} (R : A → B → Type 0) where
  pub zip-each : (S : B → Type 0) → ((x : A) (y : B) → R x y → S y) → (xs : List A) (ys : List B) → AllZip R xs ys → AllByRecursion S ys
  zip-each S f [] [] each = tt
  zip-each S f [] (y ∷ ys) each = absurd each
  zip-each S f (x ∷ xs) [] each = absurd each
  zip-each S f (x ∷ xs) (y ∷ ys) each = (f x y each.0, zip-each S f xs ys each.1)

  pub zip-of : (P : A → Type 0) → ((x : A) (y : B) → R x y → P x) → (xs : List A) (ys : List B) → AllZip R xs ys → AllByRecursion P xs
  zip-of P f [] [] each = tt
  zip-of P f [] (y ∷ ys) each = absurd each
  zip-of P f (x ∷ xs) [] each = absurd each
  zip-of P f (x ∷ xs) (y ∷ ys) each = (f x y each.0, zip-of P f xs ys each.1)

  pub zip-over : (Q S : B → Type 0) → ((x : A) (y : B) → R x y → Q y → S y) → (xs : List A) (ys : List B) → AllZip R xs ys → AllByRecursion Q ys → AllByRecursion S ys
  zip-over Q S f xs ys each qs = each-both (λ y. Q y → S y) Q S ys (λ y g q. g q) (zip-each (λ y. Q y → S y) f xs ys each) qs

  pub zip-length : (xs : List A) (ys : List B) → AllZip R xs ys → length ys ≡ length xs
  zip-length [] [] each = refl
  zip-length [] (y ∷ ys) each = absurd each
  zip-length (x ∷ xs) [] each = absurd each
  zip-length (x ∷ xs) (y ∷ ys) each = let rest = zip-length xs ys each.1 in omega arith
