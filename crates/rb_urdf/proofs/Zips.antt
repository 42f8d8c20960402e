-- Two lists whose items are related place by place.
use Rattle.std.proofs.Common.{◌≡◌, ℕ, zero, suc, List, [], ◌∷◌, ◌++◌, map, slice_get, Some, refl, ap, subst}
use Rattle.std.specs.List.{AllZip, AllByRecursion}

module _ {A B : Type 0} (R : A → B → Type 0) where
  -- what is beside an item
  pub beside : (xs : List A) (ys : List B) → AllZip R xs ys → (n : ℕ) (x : A) → slice_get xs n ≡ Some x → (y : B) × (slice_get ys n ≡ Some y) × R x y
  beside [] ys h n x at = absurd cc
  beside (a ∷ xs) [] h n x at = absurd h
  beside (a ∷ xs) (b ∷ ys) h zero x at = let same : a ≡ x = cc in (b, refl, subst (λ z. R z b) same h.0)
  beside (a ∷ xs) (b ∷ ys) h (suc n) x at = beside xs ys h.1 n x at

  pub beside_left : (xs : List A) (ys : List B) → AllZip R xs ys → (n : ℕ) (y : B) → slice_get ys n ≡ Some y → (x : A) × (slice_get xs n ≡ Some x) × R x y
  beside_left [] [] h n y at = absurd cc
  beside_left [] (b ∷ ys) h n y at = absurd h
  beside_left (a ∷ xs) [] h n y at = absurd h
  beside_left (a ∷ xs) (b ∷ ys) h zero y at = let same : b ≡ y = cc in (a, refl, subst (λ z. R a z) same h.0)
  beside_left (a ∷ xs) (b ∷ ys) h (suc n) y at = beside_left xs ys h.1 n y at

  -- what holds of each item of the second list
  pub each-right : (P : B → Type 0) → ((x : A) (y : B) → R x y → P y) → (xs : List A) (ys : List B) → AllZip R xs ys → AllByRecursion P ys
  each-right P f [] [] h = tt
  each-right P f [] (y ∷ ys) h = absurd h
  each-right P f (x ∷ xs) [] h = absurd h
  each-right P f (x ∷ xs) (y ∷ ys) h = (f x y h.0, each-right P f xs ys h.1)

  -- what the items beside each other have in common
  pub same-maps : {C : Type 0} (f : A → C) (g : B → C) → ((x : A) (y : B) → R x y → f x ≡ g y) → (xs : List A) (ys : List B) → AllZip R xs ys → map f xs ≡ map g ys
  same-maps f g same [] [] h = refl
  same-maps f g same [] (y ∷ ys) h = absurd h
  same-maps f g same (x ∷ xs) [] h = absurd h
  same-maps f g same (x ∷ xs) (y ∷ ys) h = rw (same x y h.0) (ap (λ zs. g y ∷ zs) (same-maps f g same xs ys h.1))

  pub push : (xs : List A) (ys : List B) (x : A) (y : B) → AllZip R xs ys → R x y → AllZip R (xs ++ x ∷ []) (ys ++ y ∷ [])
  push [] [] x y each r = (r, tt)
  push [] (b ∷ ys) x y each r = absurd each
  push (a ∷ xs) [] x y each r = absurd each
  push (a ∷ xs) (b ∷ ys) x y each r = (each.0, push xs ys x y each.1 r)

-- a relation that follows from another
pub each-pair : {A B : Type 0} (R S : A → B → Type 0) → ((x : A) (y : B) → R x y → S x y) → (xs : List A) (ys : List B) → AllZip R xs ys → AllZip S xs ys
each-pair R S f [] [] h = tt
each-pair R S f [] (y ∷ ys) h = absurd h
each-pair R S f (x ∷ xs) [] h = absurd h
each-pair R S f (x ∷ xs) (y ∷ ys) h = (f x y h.0, each-pair R S f xs ys h.1)

-- relations that follow one another
pub chained : {A B C : Type 0} {R : A → B → Type 0} {S : B → C → Type 0} {T : A → C → Type 0} → ((x : A) (y : B) (z : C) → R x y → S y z → T x z) → (xs : List A) (ys : List B) (zs : List C) → AllZip R xs ys → AllZip S ys zs → AllZip T xs zs
chained f [] [] [] r s = tt
chained f [] [] (z ∷ zs) r s = absurd s
chained f [] (y ∷ ys) zs r s = absurd r
chained f (x ∷ xs) [] zs r s = absurd r
chained f (x ∷ xs) (y ∷ ys) [] r s = absurd s
chained f (x ∷ xs) (y ∷ ys) (z ∷ zs) r s = (f x y z r.0 s.0, chained f xs ys zs r.1 s.1)

pub each-map : {A B : Type 0} (f : A → B) (P : B → Type 0) (xs : List A) → AllByRecursion (λ x. P (f x)) xs → AllByRecursion P (map f xs)
each-map f P [] h = tt
each-map f P (x ∷ xs) h = (h.0, each-map f P xs h.1)

-- an item of a list of values has an item that it is the value of
pub slice_get-of_map : {A B : Type 0} (f : A → B) (xs : List A) (n : ℕ) (y : B) → slice_get (map f xs) n ≡ Some y → (x : A) × (slice_get xs n ≡ Some x) × (f x ≡ y)
slice_get-of_map f [] n y h = absurd cc
slice_get-of_map f (x ∷ xs) zero y h = let same : f x ≡ y = cc in (x, refl, same)
slice_get-of_map f (x ∷ xs) (suc n) y h = slice_get-of_map f xs n y h

pub slice_get-to_map : {A B : Type 0} (f : A → B) (xs : List A) (n : ℕ) (x : A) → slice_get xs n ≡ Some x → slice_get (map f xs) n ≡ Some (f x)
slice_get-to_map f [] n x h = absurd cc
slice_get-to_map f (y ∷ xs) zero x h = let same : y ≡ x = cc in ap (λ z. Some (f z)) same
slice_get-to_map f (y ∷ xs) (suc n) x h = slice_get-to_map f xs n x h
