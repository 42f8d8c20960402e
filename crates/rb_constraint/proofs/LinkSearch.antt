-- The body of a link, looked for from the first on.
use Rattle.std.proofs.Common.{◌≡◌, ℕ, zero, suc, ◌<◌, ◌≤◌, ◌+◌, Bool, true, false, not, cond, List, [], ◌∷◌, length, Option, Some, None, refl, sym, ap, ◌∙◌, arith, position}
use Rattle.std.specs.Prelude.{slice_get, bytes_eq, option_map}
use Rattle.std.specs.Option.{IsSomeAnd}
use Rattle.std.specs.List.{position_or_len}
use Rattle.std.proofs.Math.Dec.{ltb}
use Rattle.std.proofs.lemmas.Bool.{lt-ltb, ltb-true}
use Rattle.rb_tree.specs.declared.robot.Body.{Body}
use Rattle.rb_tree.specs.Columns.{body_at}
use Rattle.rb_tree.specs.Groups.{body_of_link}

one_more : (a b : ℕ) → a ≡ b → 1 + a ≡ suc b
one_more a b e = omega (arith, e)

item_within : {A : Type 0} (xs : List A) (k : ℕ) (x : A) → slice_get xs k ≡ Some x → k < length xs
item_within [] k x is = absurd cc
item_within (y ∷ xs) zero x is = omega arith
item_within (y ∷ xs) (suc k) x is = omega (arith, item_within xs k x is)

module _ {A : Type 0} (p : A → Bool) where
  first_at : (xs : List A) (k : ℕ) (x : A) → slice_get xs k ≡ Some x → p x ≡ true → ((j : ℕ) (y : A) → j < k → slice_get xs j ≡ Some y → p y ≡ false) → (position_or_len p xs ≡ k) × (k < length xs)
  first_at [] k x is passes others = absurd cc
  first_at (y ∷ xs) zero x is passes others =
      let same : y ≡ x = cc in
      (ap (λ b. cond (not b) (1 + position_or_len p xs) 0) (ap p same ∙ passes), omega arith)
  first_at (y ∷ xs) (suc k) x is passes others =
      let rest = first_at xs k x is passes (λ j z within at. others (suc j) z (omega arith) at) in
      (ap (λ b. cond (not b) (1 + position_or_len p xs) 0) (others 0 y (omega arith) refl) ∙ one_more _ _ rest.0, omega (arith, rest.1))

  none_at : (xs : List A) → ((j : ℕ) (y : A) → slice_get xs j ≡ Some y → p y ≡ false) → position_or_len p xs ≡ length xs
  none_at [] others = refl
  none_at (y ∷ xs) others =
      ap (λ b. cond (not b) (1 + position_or_len p xs) 0) (others 0 y refl) ∙ one_more _ _ (none_at xs (λ j z at. others (suc j) z at))

  pub position_at : (xs : List A) (k : ℕ) (x : A) → slice_get xs k ≡ Some x → p x ≡ true → ((j : ℕ) (y : A) → j < k → slice_get xs j ≡ Some y → p y ≡ false) → position p xs ≡ Some k
  position_at xs k x is passes others =
      let at = first_at xs k x is passes others in
      rw (at.0, lt-ltb k (length xs) at.1) refl

  pub position_none : (xs : List A) → ((j : ℕ) (y : A) → slice_get xs j ≡ Some y → p y ≡ false) → position p xs ≡ None
  position_none xs others = rw (none_at xs others) (by (ltb (length xs) (length xs)) refl)
    where
      by : (b : Bool) → ltb (length xs) (length xs) ≡ b → cond b (Some (length xs)) None ≡ None
      by false e = refl
      by true e = absurd (omega (arith, ltb-true (length xs) (length xs) e))

pub link_found : (bodies : List Body) (name : List ℕ) (k : ℕ) (body : Body) → slice_get bodies k ≡ Some body → bytes_eq body.link_name name ≡ true
    → ((j : ℕ) (other : Body) → j < k → slice_get bodies j ≡ Some other → bytes_eq other.link_name name ≡ false) → body_of_link bodies name ≡ Some (k + 1)
unfolding body_of_link
link_found bodies name k body is named others = ap (option_map (λ k. k + 1)) (position_at (λ body. bytes_eq body.link_name name) bodies k body is named others)

pub link_none : (bodies : List Body) (name : List ℕ) → ((j : ℕ) (other : Body) → slice_get bodies j ≡ Some other → bytes_eq other.link_name name ≡ false) → body_of_link bodies name ≡ None
unfolding body_of_link
link_none bodies name others = ap (option_map (λ k. k + 1)) (position_none (λ body. bytes_eq body.link_name name) bodies others)

-- none of the bodies before this number has a link of the name
abbrev pub NoneBefore : List Body → List ℕ → ℕ → Type 0
NoneBefore bodies name i = (k : ℕ) (body : Body) → k + 1 < i → slice_get bodies k ≡ Some body → bytes_eq body.link_name name ≡ false

pub search_ends : (bodies : List Body) (name found : List ℕ) (i : ℕ) → 1 ≤ i → NoneBefore bodies name i → IsSomeAnd (body_at bodies i) (λ body. body.link_name ≡ found) → bytes_eq found name ≡ true → Some i ≡ body_of_link bodies name
search_ends bodies name found zero from others here same = absurd (omega arith)
search_ends bodies name found (suc k) from others here same = by (slice_get bodies k) refl here
  where
    by : (o : Option Body) → slice_get bodies k ≡ o → IsSomeAnd o (λ body. body.link_name ≡ found) → Some (suc k) ≡ body_of_link bodies name
    by None e here = absurd here
    by (Some body) e here =
        let one : k + 1 ≡ suc k = omega arith in
        sym (link_found bodies name k body e (ap (λ text. bytes_eq text name) here ∙ same) (λ j other within at. others j other (omega arith) at) ∙ ap Some one)

pub search_fails : (bodies : List Body) (name : List ℕ) (i : ℕ) → length bodies + 1 ≤ i → NoneBefore bodies name i → None ≡ body_of_link bodies name
search_fails bodies name i past others = sym (link_none bodies name (λ j other at. others j other (omega (arith, item_within bodies j other at)) at))
