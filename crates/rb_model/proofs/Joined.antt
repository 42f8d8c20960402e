-- Numbers with a space between each two.
use Rattle.std.proofs.Common.{◌≡◌, ◌≢◌, ◌⊎◌, ◌<◌, ◌+◌, ℕ, List, [], ◌∷◌, ◌++◌, length, get_or, take, map, refl, ap, ◌∙◌, sym, inl, inr, arith, append_assoc}
use Rattle.std.specs.Prelude.{decimal}
use Rattle.std.specs.List.{join_with_byte}
use Rattle.std.proofs.lemmas.List.{map_more, length-map, length-take}

joined-push : (xs : List (List ℕ)) (y : List ℕ) → 0 < length xs → join_with_byte 32 (xs ++ y ∷ []) ≡ join_with_byte 32 xs ++ (32 ∷ y)
joined-push [] y h = absurd (omega arith)
joined-push (x ∷ []) y h = refl
joined-push (x ∷ z ∷ xs) y h = ap (λ text. x ++ (32 ∷ text)) (joined-push (z ∷ xs) y (omega arith)) ∙ sym (append_assoc x (32 ∷ join_with_byte 32 (z ∷ xs)) (32 ∷ y))

abbrev pub IsBetween : ℕ → List ℕ → Type 0
IsBetween k between = ((k ≡ 0) × (between ≡ [])) ⊎ ((k ≢ 0) × (between ≡ 32 ∷ []))

pub joined_more : (all : List ℕ) (k : ℕ) (old new between : List ℕ) → k < length all → IsBetween k between → new ≡ old ++ (between ++ decimal (get_or all k 0))
    → old ≡ join_with_byte 32 (map decimal (take k all)) → new ≡ join_with_byte 32 (map decimal (take (k + 1) all))
joined_more all k old new between within (inl first) put so_far =
    let front : old ≡ [] = so_far ∙ ap (λ n. join_with_byte 32 (map decimal (take n all))) first.0 in
    put ∙ (λ i. front i ++ (first.1 i ++ decimal (get_or all k 0)))
    ∙ sym (ap (join_with_byte 32) (map_more decimal all k 0 within ∙ ap (λ n. map decimal (take n all) ++ decimal (get_or all k 0) ∷ []) first.0))
joined_more all k old new between within (inr later) put so_far =
    let some : 0 < length (map decimal (take k all)) = omega (arith, later.0, length-map (take k all) decimal, length-take k all) in
    put ∙ (λ i. so_far i ++ (later.1 i ++ decimal (get_or all k 0)))
    ∙ sym (ap (join_with_byte 32) (map_more decimal all k 0 within) ∙ joined-push (map decimal (take k all)) (decimal (get_or all k 0)) some)
