-- Places in a list of all numbers, each of which stands there once.
use Rattle.std.proofs.Common.{◌≡◌, ◌≢◌, ◌<◌, ℕ, zero, suc, cond, eqb, List, Some, length, get_or, refl, sym, ◌∙◌, ap, arith, inl, inr}
use Rattle.std.specs.List.{slice_get}
use Rattle.std.proofs.lemmas.Bool.{eq-eqb, cases_order}
use Rattle.std.proofs.lemmas.Bool.Decides.{eqb_tells}
use Rattle.std.proofs.lemmas.Option.{slice_get_within, get_or_from_slice_get}
use Rattle.rb_srdf.specs.declared.srdf.Group.{Group}
use Rattle.rb_srdf.specs.Groups.{Holds, IsHoldingOrder}
use Rattle.rb_tree.specs.Grow.{IsPlaced}
use Rattle.rb_tree.proofs.Pigeons.{covers}
use Rattle.rb_tree.proofs.Stems.{read_same}

-- L, with another number at one place
changed : ℕ → ℕ → (ℕ → ℕ) → ℕ → ℕ
changed j y L i = cond (eqb i j) y (L i)

changed_at : (j y : ℕ) (L : ℕ → ℕ) (i : ℕ) → i ≡ j → changed j y L i ≡ y
unfolding changed
changed_at j y L i e = ap (λ b. cond b y (L i)) (eq-eqb i j e)

changed_other : (j y : ℕ) (L : ℕ → ℕ) (i : ℕ) → i ≢ j → changed j y L i ≡ L i
unfolding changed
changed_other j y L i o = elim (eqb_tells i j) [ inl e ↦ absurd (o e.1) | inr h ↦ ap (λ b. cond b y (L i)) h.0 ]

module _ (m : ℕ) (L : ℕ → ℕ) (all : (l : ℕ) → l < suc m → IsPlaced (suc m) L l) (i j : ℕ) (less : i < j) (high : j < suc m) (same : L i ≡ L j) where
  -- the last place takes the second of the places that agree
  still_placed : (l : ℕ) → l < suc m → IsPlaced m (changed j (L m) L) l
  still_placed l h =
      let p = all l h in
      let w = p.within in
      elim (eqb_tells p.number j) [
        | inl e ↦ record {
          number = i;
          within = omega arith;
          is = changed_other j (L m) L i (λ x. absurd (omega arith)) ∙ (same ∙ (ap L (sym e.1) ∙ p.is));
        }
        | inr o ↦ elim (cases_order p.number m) [
          | inl last ↦ record {
            number = j;
            within = elim (cases_order j m) [ inl x ↦ absurd (o.1 (last ∙ sym x)) | inr x ↦ elim x [ inl y ↦ y | inr y ↦ absurd (omega arith) ] ];
            is = changed_at j (L m) L j refl ∙ (ap L (sym last) ∙ p.is);
          }
          | inr x ↦ elim x [
            | inl low ↦ record { number = p.number; within = low; is = changed_other j (L m) L p.number o.1 ∙ p.is }
            | inr top ↦ absurd (omega arith)
          ]
        ]
      ]

  too_few : ⊥
  too_few = let h = covers (suc m) m (changed j (L m) L) still_placed in omega arith

pub once : (n : ℕ) (L : ℕ → ℕ) → ((l : ℕ) → l < n → IsPlaced n L l) → (i j : ℕ) → i < j → j < n → L i ≢ L j
once zero L all i j less high same = omega arith
once (suc m) L all i j less high same = too_few m L all i j less high same

-- ---- of groups
module _ (groups : List Group) (order : List ℕ) (holding : IsHoldingOrder groups order) where
  placed : (k : ℕ) → k < length order → IsPlaced (length order) (λ p. get_or order p 0) k
  placed k h =
      let c = holding.all k (omega (arith, holding.count)) in
      record { number = c.0; within = c.1; is = read_same order c.0 0 k c.1 ∙ c.2 }

  pub one_place : (p q k : ℕ) → slice_get order p ≡ Some k → slice_get order q ≡ Some k → p ≡ q
  one_place p q k at_p at_q =
      let L : ℕ → ℕ = λ n. get_or order n 0 in
      let p_in = slice_get_within order p k at_p in
      let q_in = slice_get_within order q k at_q in
      let same : L p ≡ L q = get_or_from_slice_get order p k 0 at_p ∙ sym (get_or_from_slice_get order q k 0 at_q) in
      elim (cases_order p q) [
        | inl e ↦ e
        | inr o ↦ elim o [
          | inl lt ↦ absurd (once (length order) L placed p q lt q_in same)
          | inr gt ↦ absurd (once (length order) L placed q p gt p_in (sym same))
        ]
      ]

  -- what a group holds stands before it
  pub held_before : (p k b : ℕ) → slice_get order p ≡ Some k → Holds groups k b → (q : ℕ) × (q < p) × (slice_get order q ≡ Some b)
  held_before p k b at holds =
      let h = holding.held_first k b holds in
      let e = one_place p h.second_at k at h.second_is in
      let lt = h.before in
      (h.first_at, omega arith, h.first_is)
