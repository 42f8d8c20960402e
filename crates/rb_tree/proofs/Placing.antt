-- How a part of the order grows by one body, over any functions.
use Rattle.std.proofs.Common.{◌≡◌, ◌≢◌, ◌<◌, ◌≤◌, ◌+◌, ℕ, inl, inr, sym, ◌∙◌, ap, subst, arith}
use Rattle.std.proofs.Math.Nat.{eq-or-lt_of_le}
use Rattle.std.proofs.lemmas.Bool.{cases_order}
use Rattle.rb_tree.specs.Grow.{IsPlaced, IsFull, IsNext, IsPart}
use Rattle.rb_tree.proofs.Answered.{below_or_last}

-- the function g is f below m, and v at m
pub record Extends (m : ℕ) (f g : ℕ → ℕ) (v : ℕ) : Type 0 where
  pub same : (k : ℕ) → k < m → g k ≡ f k
  pub last : g m ≡ v

pub last_at : (m : ℕ) (f g : ℕ → ℕ) (v : ℕ) → Extends m f g v → (k : ℕ) → k ≡ m → g k ≡ v
last_at m f g v e k h = ap g h ∙ e.last

-- the first body alone
pub part_of_one : (q : ℕ) (up down L P J : ℕ → ℕ) → IsPart q up down 1 L P J
part_of_one q up down L P J = record {
  some = omega arith;
  once = λ a b ab bm. absurd (omega arith);
  earlier = λ k low high. absurd (omega arith);
  bearer = λ k low high. absurd (omega arith);
  child = λ k low high. absurd (omega arith);
  parent = λ k low high. absurd (omega arith);
  nested = λ k i im low high. absurd (omega arith);
  first = λ k j low high. absurd (omega arith);
  in_file_order = λ a b low ab bm. absurd (omega arith);
  full = λ k i ki im low. absurd (omega arith);
}

module _ (q : ℕ) (up down : ℕ → ℕ) (m : ℕ) (L P J L' P' J' : ℕ → ℕ) (p j : ℕ)
    (part : IsPart q up down m L P J) (next : IsNext q up down m L P p j)
    (eL : Extends m L L' (down j)) (eP : Extends m P P' p) (eJ : Extends m J J' j) where
  still_placed : (l : ℕ) → IsPlaced m L l → IsPlaced (m + 1) L' l
  still_placed l h = record {
    number = h.number;
    within = let w = h.within in omega arith;
    is = eL.same h.number h.within ∙ h.is;
  }

  still_full : (k : ℕ) → k < m → IsFull q up down m L (L k) → IsFull q up down (m + 1) L' (L' k)
  still_full k km h = λ i iq s. still_placed (down i) (h i iq (s ∙ eL.same k km))

  once' : (a b : ℕ) → a < b → b < m + 1 → L' a ≢ L' b
  once' a b ab bm same =
      let am : a < m = omega arith in
      elim (below_or_last b m bm) [
        | inl lt ↦ part.once a b ab lt (sym (eL.same a am) ∙ same ∙ eL.same b lt)
        | inr e ↦ next.free.free (record { number = a; within = am; is = sym (eL.same a am) ∙ same ∙ last_at m L L' (down j) eL b e })
      ]

  earlier' : (k : ℕ) → 0 < k → k < m + 1 → P' k < k
  earlier' k low high =
      elim (below_or_last k m high) [
        | inl lt ↦ omega (arith, eP.same k lt, part.earlier k low lt)
        | inr e ↦ omega (arith, last_at m P P' p eP k e, next.within)
      ]

  bearer' : (k : ℕ) → 0 < k → k < m + 1 → J' k < q
  bearer' k low high =
      elim (below_or_last k m high) [
        | inl lt ↦ omega (arith, eJ.same k lt, part.bearer k low lt)
        | inr e ↦ omega (arith, last_at m J J' j eJ k e, next.free.within)
      ]

  child' : (k : ℕ) → 0 < k → k < m + 1 → down (J' k) ≡ L' k
  child' k low high =
      elim (below_or_last k m high) [
        | inl lt ↦ ap down (eJ.same k lt) ∙ part.child k low lt ∙ sym (eL.same k lt)
        | inr e ↦ ap down (last_at m J J' j eJ k e) ∙ sym (last_at m L L' (down j) eL k e)
      ]

  parent' : (k : ℕ) → 0 < k → k < m + 1 → up (J' k) ≡ L' (P' k)
  parent' k low high =
      elim (below_or_last k m high) [
        | inl lt ↦
            let b : P k < m = omega (arith, part.earlier k low lt) in
            ap up (eJ.same k lt) ∙ part.parent k low lt ∙ sym (ap L' (eP.same k lt) ∙ eL.same (P k) b)
        | inr e ↦
            ap up (last_at m J J' j eJ k e) ∙ next.free.starts ∙ sym (ap L' (last_at m P P' p eP k e) ∙ eL.same p next.within)
      ]

  nested' : (k i : ℕ) → i < m + 1 → P' i < k → k < i → P' i ≤ P' k
  nested' k i im low high =
      let km : k < m = omega arith in
      elim (below_or_last i m im) [
        | inl lt ↦
            let b : P i < k = omega (arith, eP.same i lt) in
            omega (arith, eP.same i lt, eP.same k km, part.nested k i lt b high)
        | inr e ↦
            let at = last_at m P P' p eP i e in
            let b : p < k = omega arith in
            omega (arith, at, eP.same k km, next.behind k b km)
      ]

  first' : (k i : ℕ) → 0 < k → k < m + 1 → i < J' k → up i ≡ up (J' k) → IsPlaced (m + 1) L' (down i)
  first' k i low high ij same =
      elim (below_or_last k m high) [
        | inl lt ↦
            let b : i < J k = omega (arith, eJ.same k lt) in
            still_placed (down i) (part.first k i low lt b (same ∙ ap up (eJ.same k lt)))
        | inr e ↦
            let at = last_at m J J' j eJ k e in
            let b : i < j = omega arith in
            still_placed (down i) (next.free.first i b (same ∙ ap up at ∙ next.free.starts))
      ]

  -- a body of the same parent has an earlier joint
  sibling : (a : ℕ) → 0 < a → a < m → P a ≡ p → J a < j
  sibling a low am same =
      let starts : up j ≡ up (J a) = next.free.starts ∙ ap L (sym same) ∙ sym (part.parent a low am) in
      elim (cases_order (J a) j) [
        | inl e ↦ absurd (next.free.free (record { number = a; within = am; is = sym (part.child a low am) ∙ ap down e }))
        | inr o ↦ elim o [
          | inl lt ↦ lt
          | inr gt ↦ absurd (next.free.free (part.first a j low am gt starts))
        ]
      ]

  in_file_order' : (a b : ℕ) → 0 < a → a < b → b < m + 1 → P' a ≡ P' b → J' a < J' b
  in_file_order' a b low ab bm same =
      let am : a < m = omega arith in
      elim (below_or_last b m bm) [
        | inl lt ↦
            omega (arith, eJ.same a am, eJ.same b lt, part.in_file_order a b low ab lt (sym (eP.same a am) ∙ same ∙ eP.same b lt))
        | inr e ↦
            omega (arith, eJ.same a am, last_at m J J' j eJ b e, sibling a low am (sym (eP.same a am) ∙ same ∙ last_at m P P' p eP b e))
      ]

  full' : (k i : ℕ) → k < i → i < m + 1 → P' i < k → IsFull q up down (m + 1) L' (L' k)
  full' k i ki im low =
      let km : k < m = omega arith in
      elim (below_or_last i m im) [
        | inl lt ↦
            let b : P i < k = omega (arith, eP.same i lt) in
            still_full k km (part.full k i ki lt b)
        | inr e ↦
            let at = last_at m P P' p eP i e in
            let b : p < k = omega arith in
            still_full k km (next.full k b km)
      ]

  pub part_more : IsPart q up down (m + 1) L' P' J'
  part_more = record {
    some = omega arith;
    once = once';
    earlier = earlier';
    bearer = bearer';
    child = child';
    parent = parent';
    nested = nested';
    first = first';
    in_file_order = in_file_order';
    full = full';
  }

-- all at this place and behind it is full, and no parent there stands more than one place before
pub record IsAbove (q : ℕ) (up down : ℕ → ℕ) (m : ℕ) (L P : ℕ → ℕ) (body : ℕ) : Type 0 where
  pub within : body ≤ m
  pub behind : (k : ℕ) → body ≤ k → k < m → body ≤ P k + 1
  pub full : (k : ℕ) → body ≤ k → k < m → IsFull q up down m L (L k)

pub above_last : (q : ℕ) (up down : ℕ → ℕ) (m : ℕ) (L P : ℕ → ℕ) → IsAbove q up down m L P m
above_last q up down m L P = record {
  within = omega arith;
  behind = λ k low high. absurd (omega arith);
  full = λ k low high. absurd (omega arith);
}

-- the body at b and all behind it are full
full_from : (q : ℕ) (up down : ℕ → ℕ) (m : ℕ) (L P : ℕ → ℕ) (b : ℕ) → IsAbove q up down m L P (b + 1) → IsFull q up down m L (L b) →
    (k : ℕ) → b ≤ k → k < m → IsFull q up down m L (L k)
full_from q up down m L P b above full k low high =
    elim (eq-or-lt_of_le low) [
      | inl e ↦ let F : ℕ → Type 0 = λ n. IsFull q up down m L (L n) in subst F e full
      | inr lt ↦ above.full k (omega arith) high
    ]

-- from the root to the world
pub above_root : (q : ℕ) (up down : ℕ → ℕ) (m : ℕ) (L P : ℕ → ℕ) (b n : ℕ) → IsAbove q up down m L P (b + 1) → IsFull q up down m L (L b) → b ≡ 0 → n ≡ 0 →
    IsAbove q up down m L P n
above_root q up down m L P b n above full e world = record {
  within = omega arith;
  behind = λ k low high. omega arith;
  full = λ k low high. full_from q up down m L P b above full k (omega arith) high;
}

-- from another body to its parent
pub above_parent : (q : ℕ) (up down : ℕ → ℕ) (m : ℕ) (L P J : ℕ → ℕ) (b n : ℕ) → IsPart q up down m L P J → IsAbove q up down m L P (b + 1) →
    IsFull q up down m L (L b) → 0 < b → n ≡ P b + 1 → IsAbove q up down m L P n
above_parent q up down m L P J b n part above full low is =
    let w = above.within in
    let bm : b < m = omega arith in
    let up_lt = part.earlier b low bm in
    record {
      within = omega arith;
      behind = λ k lo hi. elim (cases_order k b) [
        | inl e ↦ omega (arith, ap P e)
        | inr o ↦ elim o [
          | inl lt ↦ omega (arith, part.nested k b bm (omega arith) lt)
          | inr gt ↦ omega (arith, above.behind k (omega arith) hi)
        ]
      ];
      full = λ k lo hi. elim (cases_order k b) [
        | inl e ↦ full_from q up down m L P b above full k (omega arith) hi
        | inr o ↦ elim o [
          | inl lt ↦ part.full k b lt bm (omega arith)
          | inr gt ↦ above.full k (omega arith) hi
        ]
      ];
    }
