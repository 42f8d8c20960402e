-- Names that differ.
use Rattle.std.proofs.Common.{◌≡◌, ℕ, zero, suc, ◌+◌, ◌<◌, inl, inr, Bool, true, false, not, cond, ◌||◌, List, [], ◌∷◌, ◌++◌, length, get_or, refl, sym, ap, ◌∙◌, arith, true≢false}
use Rattle.std.specs.Prelude.{bytes_eq}
use Rattle.std.specs.List.{list_any}
use Rattle.std.proofs.lemmas.Bool.{cases_lt}
use Rattle.std.proofs.lemmas.Slice.Eq.{bytes_eq-Decides}
use Rattle.std.proofs.lemmas.List.{length-append, get_or_append_left}
use Rattle.std.proofs.Math.Seq.{get_or-append_seam}
use Rattle.rb_tags.specs.Names.{AreDifferent}

none_at : (p : List ℕ → Bool) (xs : List (List ℕ)) (i : ℕ) (d : List ℕ) → list_any p xs ≡ false → i < length xs → p (get_or xs i d) ≡ false
none_at p [] i d h within = absurd (omega arith)
none_at p (x ∷ xs) zero d h within = by (p x) (list_any p xs) h
  where
    by : (a b : Bool) → (a || b) ≡ false → a ≡ false
    by false b h = refl
    by true b h = absurd cc
none_at p (x ∷ xs) (suc i) d h within = none_at p xs i d (by (p x) (list_any p xs) h) (omega arith)
  where
    by : (a b : Bool) → (a || b) ≡ false → b ≡ false
    by false b h = h
    by true b h = absurd cc

-- a new name behind names that differ
pub differ-push : (names : List (List ℕ)) (name : List ℕ) → AreDifferent names → list_any (bytes_eq name) names ≡ false → AreDifferent (names ++ name ∷ [])
differ-push names name differ new i j d before within =
    let size : length (names ++ name ∷ []) ≡ length names + 1 = length-append names (name ∷ []) in
    elim (cases_lt j (length names)) [
      | inl inside ↦ λ same. differ i j d before inside (sym (get_or_append_left names (name ∷ []) d i (omega arith)) ∙ same ∙ get_or_append_left names (name ∷ []) d j inside)
      | inr last ↦ λ same.
          let at : j ≡ length names = omega arith in
          let name_at : get_or (names ++ name ∷ []) j d ≡ name = ap (λ k. get_or (names ++ name ∷ []) k d) at ∙ get_or-append_seam names name [] d in
          let other : get_or (names ++ name ∷ []) i d ≡ get_or names i d = get_or_append_left names (name ∷ []) d i (omega arith) in
          let equal : name ≡ get_or names i d = sym name_at ∙ sym same ∙ other in
          true≢false (sym ((bytes_eq-Decides name (get_or names i d)).1 equal) ∙ none_at (bytes_eq name) names i d new (omega arith))
    ]

pub differ-none : AreDifferent []
differ-none i j d before within = absurd (omega arith)

-- a name that was added, if none of the others is the same
pub differ-added : (names now : List (List ℕ)) (name : List ℕ) (added : Bool) → AreDifferent names → added ≡ not (list_any (bytes_eq name) names) → now ≡ cond added (names ++ name ∷ []) names → AreDifferent now
differ-added names now name false differ a e = rw e differ
differ-added names now name true differ a e = rw e (differ-push names name differ (by (list_any (bytes_eq name) names) a))
  where
    by : (b : Bool) → true ≡ not b → b ≡ false
    by false h = refl
    by true h = absurd cc
