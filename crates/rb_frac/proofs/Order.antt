-- The order of the rational numbers.
use mathlib.Core.Path.{◌≡◌, refl, ◌∙◌, ap, subst}
use mathlib.Core.Logic.{◌⊎◌, inl, inr}
use Prim.Native.Nat.{ℕ}
use mathlib.Core.List.{List, [], ◌∷◌}
use Rattle.rb_frac.proofs.Ring.{var, enul, plus, times, minus, ring}
use Rattle.rb_frac.proofs.Vec.{nth}
use Rattle.rb_frac.proofs.Rational.{ℚ, ◌+ℚ◌, ◌*ℚ◌, neg_ℚ, 0ℚ, rats, IsNonNeg, nn_add, nn_mul, nn_total, nn_antisym, ◌≤ℚ◌}

-- prove that a number is not negative, by one that equals it
pub by_nn : (p q : ℚ) → p ≡ q → IsNonNeg p → IsNonNeg q
by_nn p q e h = subst IsNonNeg e h

env : List ℚ → ℕ → ℚ
env l = nth 0ℚ l

pub le_refl_ℚ : (p : ℚ) → p ≤ℚ p
le_refl_ℚ p = go (nn_total (p +ℚ neg_ℚ p))
  where
    go : IsNonNeg (p +ℚ neg_ℚ p) ⊎ IsNonNeg (neg_ℚ (p +ℚ neg_ℚ p)) → p ≤ℚ p
    go (inl h) = record { le = h }
    go (inr h) = record { le = by_nn _ _ (ring rats (nth 0ℚ (p ∷ [])) (minus (plus (var 0) (minus (var 0)))) (plus (var 0) (minus (var 0))) refl) h }

pub le_trans_ℚ : {p q r : ℚ} → p ≤ℚ q → q ≤ℚ r → p ≤ℚ r
le_trans_ℚ {p} {q} {r} h k = record { le = by_nn _ _ (ring rats (nth 0ℚ (p ∷ q ∷ r ∷ [])) (plus (plus (var 1) (minus (var 0))) (plus (var 2) (minus (var 1)))) (plus (var 2) (minus (var 0))) refl) (nn_add _ _ h.le k.le) }

pub le_antisym_ℚ : {p q : ℚ} → p ≤ℚ q → q ≤ℚ p → p ≡ q
le_antisym_ℚ {p} {q} h k = ring rats (nth 0ℚ (p ∷ q ∷ [])) (var 0) (plus (var 1) (minus (plus (var 1) (minus (var 0))))) refl ∙ ap (λ t. q +ℚ neg_ℚ t) diff ∙ ring rats (nth 0ℚ (q ∷ [])) (plus (var 0) (minus enul)) (var 0) refl
  where
    diff : q +ℚ neg_ℚ p ≡ 0ℚ
    diff = nn_antisym (q +ℚ neg_ℚ p) h.le (by_nn _ _ (ring rats (nth 0ℚ (p ∷ q ∷ [])) (plus (var 0) (minus (var 1))) (minus (plus (var 1) (minus (var 0)))) refl) k.le)

pub le_total_ℚ : (p q : ℚ) → (p ≤ℚ q) ⊎ (q ≤ℚ p)
le_total_ℚ p q = go (nn_total (q +ℚ neg_ℚ p))
  where
    go : IsNonNeg (q +ℚ neg_ℚ p) ⊎ IsNonNeg (neg_ℚ (q +ℚ neg_ℚ p)) → (p ≤ℚ q) ⊎ (q ≤ℚ p)
    go (inl h) = inl record { le = h }
    go (inr h) = inr record { le = by_nn _ _ (ring rats (nth 0ℚ (p ∷ q ∷ [])) (minus (plus (var 1) (minus (var 0)))) (plus (var 0) (minus (var 1))) refl) h }

pub add_le_ℚ : {p q r s : ℚ} → p ≤ℚ q → r ≤ℚ s → (p +ℚ r) ≤ℚ (q +ℚ s)
add_le_ℚ {p} {q} {r} {s} h k = record { le = by_nn _ _ (ring rats (nth 0ℚ (p ∷ q ∷ r ∷ s ∷ [])) (plus (plus (var 1) (minus (var 0))) (plus (var 3) (minus (var 2)))) (plus (plus (var 1) (var 3)) (minus (plus (var 0) (var 2)))) refl) (nn_add _ _ h.le k.le) }

pub mul_le_ℚ : {p q : ℚ} (r : ℚ) → 0ℚ ≤ℚ r → p ≤ℚ q → (r *ℚ p) ≤ℚ (r *ℚ q)
mul_le_ℚ {p} {q} r h k = record { le = by_nn _ _ (ring rats (nth 0ℚ (p ∷ q ∷ r ∷ [])) (times (plus (var 2) (minus enul)) (plus (var 1) (minus (var 0)))) (plus (times (var 2) (var 1)) (minus (times (var 2) (var 0)))) refl) (nn_mul _ _ h.le k.le) }

pub neg_le_ℚ : {p q : ℚ} → p ≤ℚ q → neg_ℚ q ≤ℚ neg_ℚ p
neg_le_ℚ {p} {q} h = record { le = by_nn _ _ (ring rats (nth 0ℚ (p ∷ q ∷ [])) (plus (var 1) (minus (var 0))) (plus (minus (var 0)) (minus (minus (var 1)))) refl) h.le }

pub square_nn : (p : ℚ) → 0ℚ ≤ℚ (p *ℚ p)
square_nn p = go (nn_total p)
  where
    go : IsNonNeg p ⊎ IsNonNeg (neg_ℚ p) → 0ℚ ≤ℚ (p *ℚ p)
    go (inl h) = record { le = by_nn _ _ (ring rats (nth 0ℚ (p ∷ [])) (times (var 0) (var 0)) (plus (times (var 0) (var 0)) (minus enul)) refl) (nn_mul p p h h) }
    go (inr h) = record { le = by_nn _ _ (ring rats (nth 0ℚ (p ∷ [])) (times (minus (var 0)) (minus (var 0))) (plus (times (var 0) (var 0)) (minus enul)) refl) (nn_mul _ _ h h) }
