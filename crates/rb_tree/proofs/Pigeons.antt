-- Numbers that differ and stand below a bound are no more than the bound.
use Rattle.std.proofs.Common.{◌≡◌, ◌≢◌, ◌<◌, ◌≤◌, ◌+◌, ℕ, zero, suc, Bool, List, length, map, get_or, true, false, cond, eqb, sym, ◌∙◌, ap, refl, arith, inl, inr, ◌⊎◌}
use Rattle.std.specs.List.{AllPairs, Any, range_with_len, list_any}
use Rattle.std.proofs.Math.Nat.{eq-or-lt_of_le}
use Rattle.std.proofs.lemmas.List.FromFn.{get_or-map-range_with_len, length-map-range_with_len}
use Rattle.std.proofs.lemmas.List.Folds.{Any-from_list_any}
use Rattle.std.proofs.lemmas.Bool.Decides.{Decides-eqb, eqb_tells}
use Rattle.std.proofs.lemmas.Bool.{eqb-true, eqb-false, eq-eqb}
use Rattle.std.proofs.lemmas.Map.Steps.{length-le_from_distinct_below}
use Rattle.std.proofs.lemmas.Map.Made.{IsDistinct-from_AllPairs}
use Rattle.rb_tree.specs.Grow.{IsPlaced}
use Rattle.rb_tree.proofs.Answered.{below_or_last}

module _ (n m : ℕ) (f : ℕ → ℕ) (within : (i : ℕ) → i < n → f i < m) (differ : (i j : ℕ) → i < j → j < n → f i ≢ f j) where
  values : List ℕ
  values = map f (range_with_len 0 n)

  value_at : (i d : ℕ) → i < n → get_or values i d ≡ f i
  unfolding values
  value_at i d h = get_or-map-range_with_len f 0 n i i d h (omega arith)

  long : length values ≡ n
  unfolding values
  long = length-map-range_with_len f 0 n

  pairs : AllPairs (λ x y. x ≢ y) values
  pairs i j d ij high same =
      let b : j < n = omega (arith, long) in
      differ i j ij b (sym (value_at i d (omega arith)) ∙ same ∙ value_at j d b)

  small : (q : ℕ) → list_any (eqb q) values ≡ true → q < m
  small q h =
      let a : Any (λ x. eqb q x ≡ true) values = Any-from_list_any (eqb q) values h in
      let b : a.0 < n = omega (arith, long, a.2) in
      let e : q ≡ a.1 = eqb-true q a.1 a.4 in
      omega (arith, e, a.3, value_at a.0 a.1 b, within a.0 b)

  pub fits : n ≤ m
  fits = omega (arith, long, length-le_from_distinct_below values m (IsDistinct-from_AllPairs Decides-eqb values pairs) small)

-- the last of the first m numbers that gives l
seek : ℕ → (ℕ → ℕ) → ℕ → ℕ
seek zero L l = 0
seek (suc m) L l = cond (eqb (L m) l) m (seek m L l)

seek_finds : (m : ℕ) (L : ℕ → ℕ) (l : ℕ) → IsPlaced m L l → (seek m L l < m) × (L (seek m L l) ≡ l)
unfolding seek
seek_finds zero L l h = absurd (let w = h.within in omega arith)
seek_finds (suc m) L l h = go (eqb (L m) l) refl (seek_finds m L l) where
  go : (b : Bool) → eqb (L m) l ≡ b → (IsPlaced m L l → (seek m L l < m) × (L (seek m L l) ≡ l)) →
      (cond b m (seek m L l) < suc m) × (L (cond b m (seek m L l)) ≡ l)
  go true e below = (omega arith, eqb-true (L m) l e)
  go false e below =
      let w = h.within in
      let le : h.number ≤ m = omega arith in
      elim (eq-or-lt_of_le le) [
        | inl same ↦ absurd (eqb-false (L m) l e (ap L (sym same) ∙ h.is))
        | inr lt ↦
            let r = below (record { number = h.number; within = lt; is = h.is }) in
            (let r0 = r.0 in omega arith, r.1)
      ]

-- where each of the first n links is that of one of m bodies, the bodies are at least as many
pub covers : (n m : ℕ) (L : ℕ → ℕ) → ((l : ℕ) → l < n → IsPlaced m L l) → n ≤ m
covers n m L all = fits n m (seek m L)
    (λ l h. (seek_finds m L l (all l h)).0)
    (λ i j ij high same.
    let a = (seek_finds m L i (all i (omega arith))).1 in
    let b = (seek_finds m L j (all j high)).1 in
    let e : i ≡ j = sym a ∙ ap L same ∙ b in
    omega arith)

-- a link is that of one of m bodies, or of none
placed_or : (m : ℕ) (L : ℕ → ℕ) (l : ℕ) → IsPlaced m L l ⊎ (IsPlaced m L l → ⊥)
placed_or zero L l = inr (λ h. let w = h.within in omega arith)
placed_or (suc m) L l =
    elim (eqb_tells (L m) l) [
      | inl here ↦ inl (record { number = m; within = omega arith; is = here.1 })
      | inr other ↦ elim (placed_or m L l) [
        | inl h ↦ inl (record { number = h.number; within = let w = h.within in omega arith; is = h.is })
        | inr none ↦ inr (λ h.
            let w = h.within in
            let le : h.number ≤ m = omega arith in
            elim (eq-or-lt_of_le le) [
              | inl same ↦ other.1 (ap L (sym same) ∙ h.is)
              | inr lt ↦ none (record { number = h.number; within = lt; is = h.is })
            ])
      ]
    ]

-- L, and l at m
extended : ℕ → (ℕ → ℕ) → ℕ → ℕ → ℕ
extended m L l i = cond (eqb i m) l (L i)

extended_below : (m : ℕ) (L : ℕ → ℕ) (l i : ℕ) → i < m → extended m L l i ≡ L i
unfolding extended
extended_below m L l i h = elim (eqb_tells i m) [ inl e ↦ absurd (let f = e.1 in omega arith) | inr o ↦ ap (λ b. cond b l (L i)) o.0 ]

extended_at : (m : ℕ) (L : ℕ → ℕ) (l i : ℕ) → i ≡ m → extended m L l i ≡ l
unfolding extended
extended_at m L l i h = ap (λ b. cond b l (L i)) (eq-eqb i m h)

-- as many bodies as links, whose links differ: each link is that of a body
pub each_placed : (m n : ℕ) (L : ℕ → ℕ) → m ≡ n → ((k : ℕ) → k < m → L k < n) → ((a b : ℕ) → a < b → b < m → L a ≢ L b) → (l : ℕ) → l < n → IsPlaced m L l
each_placed m n L same within differ l high =
    elim (placed_or m L l) [
      | inl h ↦ h
      | inr none ↦
          let too_many : m + 1 ≤ n = fits (m + 1) n (extended m L l)
          (λ i h. elim (below_or_last i m h) [
            | inl lt ↦ omega (arith, extended_below m L l i lt, within i lt)
            | inr e ↦ omega (arith, extended_at m L l i e)
          ])
          (λ i j ij h equal.
          let im : i < m = omega arith in
          elim (below_or_last j m h) [
            | inl lt ↦ differ i j ij lt (sym (extended_below m L l i im) ∙ equal ∙ extended_below m L l j lt)
            | inr e ↦ none (record { number = i; within = im; is = sym (extended_below m L l i im) ∙ equal ∙ extended_at m L l j e })
          ]) in
          absurd (omega arith)
    ]
