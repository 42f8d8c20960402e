-- Pairs of a set, seen as as_names.
use Rattle.std.proofs.Common.{◌≡◌, ℕ, Bool, true, false, cond, ◌&&◌, List, [], ◌∷◌, ◌++◌, refl, sym}
use Rattle.std.specs.Prelude.{bytes_eq}
use Rattle.std.specs.List.{list_any}
use Rattle.std.proofs.lemmas.List.{map-append}
use Rattle.indexmap.specs.IndexSet.{insert_key}
use denote.Ref.{Bor}
use Rattle.rb_tags.proofs.Numbering.{list_any-map}
use Rattle.rb_srdf.specs.StateNames.{StateName, is_state, as_names}

abbrev pub Key : Type 0
Key = Bor (List ℕ) × Bor (List ℕ)

abbrev pub same_key : Key → Key → Bool
same_key x y = bytes_eq x.0.now y.0.now && bytes_eq x.1.now y.1.now

abbrev pub name_of_key : Key → StateName
name_of_key key = record { group = key.0.now; name = key.1.now }

pub has_key : (keys : List Key) (key : Key) → list_any (same_key key) keys ≡ list_any (is_state key.0.now key.1.now) (as_names keys)
has_key keys key = sym (list_any-map name_of_key (is_state key.0.now key.1.now) keys)

-- a new pair stands behind the others
pub names-insert : (keys : List Key) (key : Key) (new : List Key) → new ≡ insert_key same_key keys key → as_names new ≡ cond (list_any (is_state key.0.now key.1.now) (as_names keys)) (as_names keys) (as_names keys ++ name_of_key key ∷ [])
names-insert keys key new e = rw (e, ← has_key keys key) (by (list_any (same_key key) keys))
  where
    by : (b : Bool) → as_names (cond b keys (keys ++ key ∷ [])) ≡ cond b (as_names keys) (as_names keys ++ name_of_key key ∷ [])
    by true = refl
    by false = map-append name_of_key keys (key ∷ [])
