-- Two wholes of the same joints with the same root are the same.
use Rattle.std.proofs.Common.{◌≡◌, ◌<◌, ◌≤◌, ℕ, zero, suc, sym, ◌∙◌, ap, arith, inl, inr}
use Rattle.std.proofs.Math.Nat.{eq-zero-or-pos, eq-or-lt_of_le}
use Rattle.std.proofs.lemmas.Bool.{cases_order}
use Rattle.rb_tree.specs.Grow.{IsPlaced, IsPart}

-- the numbers of both bodies are the same
pub record Agree (L P J L' P' J' : ℕ → ℕ) (k : ℕ) : Type 0 where
  pub link : L k ≡ L' k
  pub parent : 0 < k → P k ≡ P' k
  pub bearer : 0 < k → J k ≡ J' k

-- what the next body of the one says of that of the other
record Half (p p' j j' : ℕ) : Type 0 where
  pub parent : p ≤ p'
  pub bearer : p ≡ p' → j' ≤ j

module _ (q n : ℕ) (up down : ℕ → ℕ) (children : (j : ℕ) → j < q → down j < n) (one : (i j : ℕ) → i < q → j < q → down i ≡ down j → i ≡ j) where
  half : (m : ℕ) (L P J L' P' J' : ℕ → ℕ) → IsPart q up down n L P J → IsPart q up down n L' P' J' → ((l : ℕ) → l < n → IsPlaced n L' l) →
      0 < m → m < n → ((k : ℕ) → k < m → L k ≡ L' k) → Half (P m) (P' m) (J m) (J' m)
  half m L P J L' P' J' a b all low mn same =
      let j = J m in
      let jq = a.bearer m low mn in
      let x = all (down j) (children j jq) in
      let w = x.number in
      let at_w : L' w ≡ L m = x.is ∙ a.child m low mn in
      let behind : m ≤ w = elim (cases_order w m) [
        | inl e ↦ omega arith
        | inr o ↦ elim o [
          | inl lt ↦ absurd (a.once w m lt mn (same w lt ∙ at_w))
          | inr gt ↦ omega arith
        ]
      ] in
      let pos : 0 < w = omega arith in
      let joint : J' w ≡ j = one (J' w) j (b.bearer w pos x.within) jq (b.child w pos x.within ∙ x.is) in
      let before = a.earlier m low mn in
      let before' = b.earlier w pos x.within in
      let links : L' (P' w) ≡ L' (P m) = sym (b.parent w pos x.within) ∙ ap up joint ∙ a.parent m low mn ∙ same (P m) before in
      let parents : P' w ≡ P m = elim (cases_order (P' w) (P m)) [
        | inl e ↦ e
        | inr o ↦ elim o [
          | inl lt ↦ absurd (b.once (P' w) (P m) lt (omega arith) links)
          | inr gt ↦ absurd (b.once (P m) (P' w) gt (omega arith) (sym links))
        ]
      ] in
      record {
        parent = elim (eq-or-lt_of_le behind) [
          | inl e ↦ omega (arith, ap P' e, parents)
          | inr lt ↦ omega (arith, parents, b.nested m w x.within (omega arith) lt)
        ];
        bearer = λ equal. elim (eq-or-lt_of_le behind) [
          | inl e ↦ omega (arith, ap J' e, joint)
          | inr lt ↦ omega (arith, joint, b.in_file_order m w low lt x.within (sym equal ∙ sym parents))
        ];
      }

  module _ (L P J L' P' J' : ℕ → ℕ) (a : IsPart q up down n L P J) (b : IsPart q up down n L' P' J') (all : (l : ℕ) → l < n → IsPlaced n L l)
      (all' : (l : ℕ) → l < n → IsPlaced n L' l) (root : L 0 ≡ L' 0) where
    next_agrees : (m : ℕ) → 0 < m → m < n → ((k : ℕ) → k < m → L k ≡ L' k) → Agree L P J L' P' J' m
    next_agrees m low mn same =
        let h = half m L P J L' P' J' a b all' low mn same in
        let h' = half m L' P' J' L P J b a all low mn (λ k km. sym (same k km)) in
        let h_parent = h.parent in
        let h'_parent = h'.parent in
        let parents : P m ≡ P' m = omega arith in
        let less = h.bearer parents in
        let more = h'.bearer (sym parents) in
        let joints : J m ≡ J' m = omega arith in
        record {
          link = sym (a.child m low mn) ∙ ap down joints ∙ b.child m low mn;
          parent = λ pos. parents;
          bearer = λ pos. joints;
        }

    pub agree : (m : ℕ) → m ≤ n → (k : ℕ) → k < m → Agree L P J L' P' J' k
    agree zero small k high = absurd (omega arith)
    agree (suc m) small k high =
        let le : k ≤ m = omega arith in
        elim (eq-zero-or-pos k) [
          | inl e ↦ record {
            link = ap L e ∙ root ∙ ap L' (sym e);
            parent = λ pos. absurd (omega arith);
            bearer = λ pos. absurd (omega arith);
          }
          | inr pos ↦ elim (eq-or-lt_of_le le) [
            | inl e ↦ next_agrees k pos (omega arith) (λ i ik. (agree m (omega arith) i (omega arith)).link)
            | inr lt ↦ agree m (omega arith) k lt
          ]
        ]
