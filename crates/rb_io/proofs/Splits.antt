-- The first part of a list that is cut at each element that passes a test.
use Rattle.std.proofs.Common.{◌≡◌, ◌<◌, ◌≤◌, ◌+◌, ◌-◌, ℕ, suc, List, [], ◌∷◌, length, take, drop, cond, not, true, false, Some, None, position, refl, arith, Bool, length-drop}
use Rattle.std.proofs.lemmas.Bool.{ltb-true, ltb-false}
use Rattle.std.proofs.Math.Dec.{ltb}
use Rattle.std.specs.List.{slice_split, onto_first, position_or_len}
use Rattle.std.proofs.lemmas.List.{take_all}
use Rattle.std.proofs.lemmas.List.Splits.{length-slice_split}

-- what stands before the element, with one more in front
behind : (p : ℕ → Bool) (x n : ℕ) (xs : List ℕ) (parts : List (List ℕ)) → parts ≡ take n xs ∷ slice_split p (drop (n + 1) xs) → onto_first x parts ≡ take (1 + n) (x ∷ xs) ∷ slice_split p (drop (1 + n + 1) (x ∷ xs))
behind p x n xs parts is =
    let one : 1 + n ≡ suc n = omega arith in
    let two : suc n + 1 ≡ suc (n + 1) = omega arith in
    rw (is, one, two)

split_at : (p : ℕ → Bool) (xs : List ℕ) → position_or_len p xs < length xs → slice_split p xs ≡ take (position_or_len p xs) xs ∷ slice_split p (drop (position_or_len p xs + 1) xs)
split_at p [] within = absurd (omega arith)
split_at p (x ∷ xs) within =
    elim (p x) as (λ passes. cond (not passes) (1 + position_or_len p xs) 0 < suc (length xs) → cond passes ([] ∷ slice_split p xs) (onto_first x (slice_split p xs)) ≡ take (cond (not passes) (1 + position_or_len p xs) 0) (x ∷ xs) ∷ slice_split p (drop (cond (not passes) (1 + position_or_len p xs) 0 + 1) (x ∷ xs))) [
      | true ↦ λ _. refl
      | false ↦ λ within. behind p x (position_or_len p xs) xs (slice_split p xs) (split_at p xs (omega arith))
    ] within

split_whole : (p : ℕ → Bool) (xs : List ℕ) → length xs ≤ position_or_len p xs → slice_split p xs ≡ xs ∷ []
split_whole p [] past = refl
split_whole p (x ∷ xs) past =
    elim (p x) as (λ passes. suc (length xs) ≤ cond (not passes) (1 + position_or_len p xs) 0 → cond passes ([] ∷ slice_split p xs) (onto_first x (slice_split p xs)) ≡ (x ∷ xs) ∷ []) [
      | true ↦ λ past. absurd (omega arith)
      | false ↦ λ past. rw (split_whole p xs (omega arith))
    ] past

found_at : (b : Bool) (n m end : ℕ) → (b ≡ true → n < m) → cond b (Some n) None ≡ Some end → (end ≡ n) × (n < m)
found_at true n m end within is = ((cc), within refl)
found_at false n m end within is = cc

found_none : (b : Bool) (n m : ℕ) → (b ≡ false → m ≤ n) → cond b (Some n) None ≡ None → m ≤ n
found_none true n m past is = cc
found_none false n m past is = past refl

pub slice_split-some : (p : ℕ → Bool) (xs : List ℕ) (end : ℕ) → position p xs ≡ Some end → slice_split p xs ≡ take end xs ∷ slice_split p (take (length xs - (end + 1)) (drop (end + 1) xs))
slice_split-some p xs end is =
    let found = found_at (ltb (position_or_len p xs) (length xs)) (position_or_len p xs) (length xs) end (ltb-true _ _) is in
    rw (found.0, take_all (length xs - (position_or_len p xs + 1)) (drop (position_or_len p xs + 1) xs) (simp length-drop (omega arith))) (split_at p xs found.1)

pub slice_split-none : (p : ℕ → Bool) (xs : List ℕ) → position p xs ≡ None → slice_split p xs ≡ xs ∷ []
slice_split-none p xs is =
    split_whole p xs (found_none (ltb (position_or_len p xs) (length xs)) (position_or_len p xs) (length xs) (ltb-false _ _) is)

-- there is a part
pub slice_split-some_part : (p : ℕ → Bool) (xs : List ℕ) → 0 < length (slice_split p xs)
slice_split-some_part p xs = rw (length-slice_split p xs) (omega arith)

-- an element that passes is found within the list
pub position-within : (p : ℕ → Bool) (xs : List ℕ) (end : ℕ) → position p xs ≡ Some end → end < length xs
position-within p xs end is =
    let found = found_at (ltb (position_or_len p xs) (length xs)) (position_or_len p xs) (length xs) end (ltb-true _ _) is in
    rw (found.0) found.1
