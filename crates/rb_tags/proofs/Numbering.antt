-- Names of a set, seen as texts.
use Rattle.std.proofs.Common.{◌≡◌, ℕ, ◌+◌, Bool, true, false, not, cond, ◌||◌, List, [], ◌∷◌, ◌++◌, map, refl, sym, ap}
use Rattle.std.specs.Prelude.{position, bytes_eq}
use Rattle.std.specs.List.{list_any, prefix_len}
use Rattle.std.proofs.lemmas.List.{map-append, length-map}
use Rattle.indexmap.specs.IndexSet.{insert_key}
use denote.Ref.{Bor}
use Rattle.rb_tags.specs.Names.{number_of_name}

abbrev pub texts : List (Bor (List ℕ)) → List (List ℕ)
texts keys = map (λ key. key.now) keys

pub list_any-map : {A B : Type 0} (f : A → B) (p : B → Bool) (xs : List A) → list_any p (map f xs) ≡ list_any (λ x. p (f x)) xs
list_any-map f p [] = refl
list_any-map f p (x ∷ xs) = ap (λ b. p (f x) || b) (list_any-map f p xs)

prefix_len-map : {A B : Type 0} (f : A → B) (p : B → Bool) (xs : List A) → prefix_len p (map f xs) ≡ prefix_len (λ x. p (f x)) xs
prefix_len-map f p [] = refl
prefix_len-map f p (x ∷ xs) = ap (λ n. cond (p (f x)) (1 + n) 0) (prefix_len-map f p xs)

position-map : {A B : Type 0} (f : A → B) (p : B → Bool) (xs : List A) → position p (map f xs) ≡ position (λ x. p (f x)) xs
position-map f p xs = rw (prefix_len-map f (λ x. not (p x)) xs, length-map xs f) refl

-- the number of a name in a set
pub number-of_set : (keys : List (Bor (List ℕ))) (name : List ℕ) → position (λ key. bytes_eq name key.now) keys ≡ number_of_name (texts keys) name
unfolding number_of_name
number-of_set keys name = sym (position-map (λ key. key.now) (bytes_eq name) keys)

abbrev pub same_text : Bor (List ℕ) → Bor (List ℕ) → Bool
same_text x y = bytes_eq x.now y.now

module _ (keys : List (Bor (List ℕ))) (name : Bor (List ℕ)) where
  -- whether a set has a name
  pub has_text : list_any (same_text name) keys ≡ list_any (bytes_eq name.now) (texts keys)
  has_text = sym (list_any-map (λ key. key.now) (bytes_eq name.now) keys)

  -- a new name stands behind the others
  pub texts-insert : (new : List (Bor (List ℕ))) (added : Bool) → new ≡ insert_key same_text keys name → added ≡ not (list_any (same_text name) keys) → texts new ≡ cond added (texts keys ++ name.now ∷ []) (texts keys)
  texts-insert new added n a = rw (n, a) (by (list_any (same_text name) keys))
    where
      by : (b : Bool) → texts (cond b keys (keys ++ name ∷ [])) ≡ cond (not b) (texts keys ++ name.now ∷ []) (texts keys)
      by true = refl
      by false = map-append (λ key. key.now) keys (name ∷ [])
