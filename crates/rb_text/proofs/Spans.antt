-- The first elements that pass a test, and those behind them.
use Rattle.std.proofs.Common.{◌≡◌, ℕ, suc, ◌+◌, Bool, true, false, not, cond, List, [], ◌∷◌, ◌++◌, length, take, refl, sym, arith}
use Rattle.std.specs.List.{prefix_len, list_all, AllPass}
use Rattle.std.proofs.lemmas.Bool.{and_parts, and_from}
use Rattle.std.proofs.lemmas.List.Sums.{AllPass-from_list_all}
use Rattle.std.proofs.lemmas.List.Folds.{length-prefix_len}
use Rattle.std.proofs.lemmas.List.{take-append-drop}
use Rattle.std.proofs.Math.Seq.{take-append_seam, drop-append_seam}
use Rattle.rb_text.specs.Decimal.{span_of}

pub ruleset spans = length-prefix_len

-- ---- what is found
pub span_joined : (p : ℕ → Bool) (text : List ℕ) → text ≡ (span_of p text).0 ++ (span_of p text).1
unfolding span_of
span_joined p text = sym (take-append-drop (prefix_len p text) text)

prefix_passes : (p : ℕ → Bool) (xs : List ℕ) → list_all p (take (prefix_len p xs) xs) ≡ true
prefix_passes p [] = refl
prefix_passes p (x ∷ xs) =
    elim (p x) as (λ b. p x ≡ b → list_all p (take (cond b (1 + prefix_len p xs) 0) (x ∷ xs)) ≡ true) [
      | true ↦ λ e. let s : 1 + prefix_len p xs ≡ suc (prefix_len p xs) = omega arith in rw s (and_from _ _ e (prefix_passes p xs))
      | false ↦ λ e. refl
    ] refl

pub span_passes : (p : ℕ → Bool) (text : List ℕ) → AllPass p (span_of p text).0
unfolding span_of
span_passes p text = AllPass-from_list_all p _ (prefix_passes p text)

-- ---- what is found where a text is written so
-- the first element, if there is one, does not pass
abbrev pub stops : (ℕ → Bool) → List ℕ → Bool
stops p [] = true
stops p (y ∷ ys) = not (p y)

prefix_stops : (p : ℕ → Bool) (ys : List ℕ) → stops p ys ≡ true → prefix_len p ys ≡ 0
prefix_stops p [] h = refl
prefix_stops p (y ∷ ys) h =
    elim (p y) as (λ b. not b ≡ true → cond b (1 + prefix_len p ys) 0 ≡ 0) [ true ↦ λ k. absurd (cc) | false ↦ λ k. refl ] h

prefix_is : (p : ℕ → Bool) (xs ys : List ℕ) → list_all p xs ≡ true → stops p ys ≡ true → prefix_len p (xs ++ ys) ≡ length xs
prefix_is p [] ys h k = prefix_stops p ys k
prefix_is p (x ∷ xs) ys h k =
    let e = and_parts (p x) (list_all p xs) h in
    rw e.0 (let i = prefix_is p xs ys e.1 k in omega arith)

pub span_is : (p : ℕ → Bool) (xs ys : List ℕ) → list_all p xs ≡ true → stops p ys ≡ true → span_of p (xs ++ ys) ≡ (xs, ys)
unfolding span_of
span_is p xs ys h k = rw (prefix_is p xs ys h k, take-append_seam xs ys, drop-append_seam xs ys)
