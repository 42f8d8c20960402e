-- Lists that grow at the end, and pairs of lists, item by item.
use Rattle.std.proofs.Common.{◌≡◌, ◌≢◌, ℕ, zero, suc, ◌+◌, ◌<◌, List, [], ◌∷◌, ◌++◌, length, take, map, AllPairs, Some, inl, inr, refl, sym, ◌∙◌, ap, subst, arith, get_or}
use Rattle.std.specs.List.{slice_get, sum_by, Any, AllByRecursion, AllZip}
use Rattle.std.proofs.lemmas.Bool.{cases_order}
use Rattle.std.proofs.lemmas.List.{length-append, length-take, length-take-le, get_or-take, take_all, take_more}
use Rattle.std.proofs.lemmas.List.Quantifiers.{all_pairs_push}
use Rattle.std.proofs.lemmas.List.Sums.{sum_by-cons}
use Rattle.std.proofs.lemmas.Option.{get_or_from_slice_get, slice_get_within, same_Some}
use Rattle.rb_urdf.proofs.Zips.{slice_get-to_map}
use Rattle.rb_tree.specs.Columns.{IsListOf}
use Rattle.rb_tree.proofs.Stems.{read_same}
use Rattle.rb_tree.proofs.Answered.{below_or_last}

pub slice_get-append_left : {X : Type 0} (xs ys : List X) (k : ℕ) → k < length xs → slice_get (xs ++ ys) k ≡ slice_get xs k
slice_get-append_left [] ys k h = absurd (omega arith)
slice_get-append_left (x ∷ xs) ys zero h = refl
slice_get-append_left (x ∷ xs) ys (suc k) h = slice_get-append_left xs ys k (omega arith)

pub slice_get-append_seam : {X : Type 0} (xs : List X) (y : X) (ys : List X) (k : ℕ) → k ≡ length xs → slice_get (xs ++ y ∷ ys) k ≡ Some y
slice_get-append_seam [] y ys zero h = refl
slice_get-append_seam [] y ys (suc k) h = absurd (omega arith)
slice_get-append_seam (x ∷ xs) y ys zero h = absurd (omega arith)
slice_get-append_seam (x ∷ xs) y ys (suc k) h = slice_get-append_seam xs y ys k (omega arith)

pub IsListOf-none : {X : Type 0} (f : ℕ → X) → IsListOf 0 f []
IsListOf-none f = record { count = refl; at = λ k h. absurd (omega arith) }

pub IsListOf-push : {X : Type 0} (n : ℕ) (f : ℕ → X) (xs : List X) (y : X) → IsListOf n f xs → y ≡ f n → IsListOf (n + 1) f (xs ++ y ∷ [])
IsListOf-push n f xs y l e = record {
  count = omega (arith, length-append xs (y ∷ []), l.count);
  at = λ k h.
      elim (below_or_last k n h) [
        | inl p ↦ slice_get-append_left xs (y ∷ []) k (omega (arith, l.count)) ∙ l.at k p
        | inr p ↦ slice_get-append_seam xs y [] k (omega (arith, l.count)) ∙ ap Some (e ∙ ap f (sym p))
      ];
}

pub IsListOf-first : {X : Type 0} (f : ℕ → X) (y : X) → y ≡ f 0 → IsListOf 1 f (y ∷ [])
IsListOf-first f y e = IsListOf-push 0 f [] y (IsListOf-none f) e

pub IsListOf-get : {X : Type 0} (n : ℕ) (f : ℕ → X) (xs : List X) (k : ℕ) (d : X) → IsListOf n f xs → k < n → get_or xs k d ≡ f k
IsListOf-get n f xs k d l h = get_or_from_slice_get xs k (f k) d (l.at k h)

pub item_there : {X : Type 0} (xs : List X) (k : ℕ) → k < length xs → (x : X) × (slice_get xs k ≡ Some x)
item_there [] k h = absurd (omega arith)
item_there (x ∷ xs) zero h = (x, refl)
item_there (x ∷ xs) (suc k) h = item_there xs k (omega arith)

pub same_item : {X : Type 0} (xs : List X) (i j : ℕ) (x y : X) → i ≡ j → slice_get xs i ≡ Some x → slice_get xs j ≡ Some y → x ≡ y
same_item xs i j x y e is_x is_y = same_Some x y (sym is_x ∙ (ap (slice_get xs) e ∙ is_y))

pub All-at : {X : Type 0} (P : X → Type 0) (xs : List X) (k : ℕ) (x : X) → AllByRecursion P xs → slice_get xs k ≡ Some x → P x
All-at P [] k x a h = cc
All-at {X = X} P (y ∷ ys) zero x a h = let e : y ≡ x = cc in let Q : X → Type 0 = P in subst Q e a.0
All-at P (y ∷ ys) (suc k) x a h = All-at P ys k x a.1 h

-- ---- two lists side by side
module _ {A B : Type 0} (R : A → B → Type 0) where
  pub AllZip-more : (xs : List A) (ys : List B) (x : A) (y : B) → AllZip R xs ys → R x y → AllZip R (xs ++ x ∷ []) (ys ++ y ∷ [])
  AllZip-more [] [] x y e r = (r, tt)
  AllZip-more [] (b ∷ ys) x y e r = absurd e
  AllZip-more (a ∷ xs) [] x y e r = absurd e
  AllZip-more (a ∷ xs) (b ∷ ys) x y e r = (e.0, AllZip-more xs ys x y e.1 r)

  pub AllZip-firsts : (P : A → Type 0) → ((a : A) (b : B) → R a b → P a) → (xs : List A) (ys : List B) → AllZip R xs ys → AllByRecursion P xs
  AllZip-firsts P f [] [] e = tt
  AllZip-firsts P f [] (b ∷ ys) e = absurd e
  AllZip-firsts P f (a ∷ xs) [] e = absurd e
  AllZip-firsts P f (a ∷ xs) (b ∷ ys) e = (f a b e.0, AllZip-firsts P f xs ys e.1)

  pub AllZip-sum : (f : A → ℕ) (g : B → ℕ) → ((a : A) (b : B) → R a b → g b ≡ f a) → (xs : List A) (ys : List B) → AllZip R xs ys → sum_by g ys ≡ sum_by f xs
  AllZip-sum f g h [] [] e = refl
  AllZip-sum f g h [] (b ∷ ys) e = absurd e
  AllZip-sum f g h (a ∷ xs) [] e = absurd e
  AllZip-sum f g h (a ∷ xs) (b ∷ ys) e = omega (arith, sum_by-cons g b ys, sum_by-cons f a xs, h a b e.0, AllZip-sum f g h xs ys e.1)

-- ---- items that differ
module _ {A B : Type 0} (f : A → B) (xs : List A) where
  apart_later : (i j : ℕ) (a b : A) → AllPairs (λ x y. x ≢ y) (map f xs) → i < j → slice_get xs i ≡ Some a → slice_get xs j ≡ Some b → f a ≢ f b
  apart_later i j a b differ less p q e =
      let at_i = slice_get-to_map f xs i a p in
      let at_j = slice_get-to_map f xs j b q in
      differ i j (f a) less (slice_get_within (map f xs) j (f b) at_j)
      (get_or_from_slice_get (map f xs) i (f a) (f a) at_i ∙ (e ∙ sym (get_or_from_slice_get (map f xs) j (f b) (f a) at_j)))

  pub apart : (i j : ℕ) (a b : A) → AllPairs (λ x y. x ≢ y) (map f xs) → i ≢ j → slice_get xs i ≡ Some a → slice_get xs j ≡ Some b → f a ≢ f b
  apart i j a b differ other p q e =
      elim (cases_order i j) [
        | inl same ↦ other same
        | inr o ↦ elim o [
          | inl less ↦ apart_later i j a b differ less p q e
          | inr more ↦ apart_later j i b a differ more q p (sym e)
        ]
      ]

-- an item that stands in a relation to an earlier one stands not among items of which no two do
pub pair_below : {X : Type 0} (R : X → X → Type 0) (xs : List X) (number end : ℕ) (x : X) → slice_get xs number ≡ Some x → Any (λ y. R y x) (take number xs) → number < end →
    AllPairs (λ a b. R a b → ⊥) (take end xs) → ⊥
pair_below {X = X} R xs number end x is (j, earlier, in_front, at_j, r) low none =
    let within = slice_get_within xs number x is in
    let lt : j < number = omega (arith, length-take-le {A = X} number xs (omega arith)) in
    let high : number < length (take end xs) = omega (arith, length-take {A = X} end xs) in
    let first : get_or (take end xs) j earlier ≡ earlier = get_or-take end xs j earlier (omega arith) ∙ sym (get_or-take number xs j earlier lt) ∙ at_j in
    let second : get_or (take end xs) number earlier ≡ x = get_or-take end xs number earlier low ∙ get_or_from_slice_get xs number x earlier is in
    let P : X → Type 0 = λ a. R a (get_or (take end xs) number earlier) in
    let Q : X → Type 0 = λ b. R earlier b in
    none j number earlier lt high (subst P (sym first) (subst Q (sym second) r))

-- nor in the whole list
pub pair_in : {X : Type 0} (R : X → X → Type 0) (xs : List X) (number : ℕ) (x : X) → slice_get xs number ≡ Some x → Any (λ y. R y x) (take number xs) →
    AllPairs (λ a b. R a b → ⊥) xs → ⊥
pair_in {X = X} R xs number x is twice none =
    let P : List X → Type 0 = λ ys. AllPairs (λ a b. R a b → ⊥) ys in
    pair_below R xs number (length xs) x is twice (slice_get_within xs number x is) (subst P (sym (take_all (length xs) xs (omega arith))) none)

-- one item more, to which no earlier one stands in the relation
pub pairs_more : {X : Type 0} (R : X → X → Type 0) (xs : List X) (n : ℕ) (x : X) → n < length xs → x ≡ get_or xs n x → AllPairs (λ a b. R a b → ⊥) (take n xs) →
    (Any (λ y. R y x) (take n xs) → ⊥) → AllPairs (λ a b. R a b → ⊥) (take (n + 1) xs)
pairs_more {X = X} R xs n x within is none first =
    let P : List X → Type 0 = λ ys. AllPairs (λ a b. R a b → ⊥) ys in
    let e : take (n + 1) xs ≡ take n xs ++ x ∷ [] = take_more xs n x within ∙ ap (λ y. take n xs ++ y ∷ []) (sym is) in
    subst P (sym e) (all_pairs_push (λ a b. R a b → ⊥) (take n xs) x none
    (λ k d low r. first (k, get_or (take n xs) k d, low, read_same (take n xs) k (get_or (take n xs) k d) d low, r)))
