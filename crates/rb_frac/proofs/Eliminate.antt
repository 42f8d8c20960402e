-- A square system of equations: its last unknown is eliminated, and by induction it has exactly one solution.
use mathlib.Core.Path.{◌≡◌, refl, sym, ◌∙◌, ap, subst}
use mathlib.Core.Logic.{◌↔◌}
use Prim.Native.Nat.{ℕ, zero, suc, ◌<◌}
use mathlib.Core.List.{[], ◌∷◌}
use native.Mathlib.Omega.{arith}
use native.Mathlib.Decide.{ℕ_discrete}
use Rattle.rb_frac.proofs.Ring.{var, eone, plus, times, minus, ring}
use Rattle.rb_frac.proofs.Vec.{nth}
use Rattle.rb_frac.proofs.Combine.{Use, combine}
use Rattle.rb_frac.proofs.Sums.{sum, sum-suc, sum_ext, sum-add, sum-mul, sum-neg}
use Rattle.rb_frac.proofs.Rational.{ℚ, ◌+ℚ◌, ◌*ℚ◌, neg_ℚ, 0ℚ, 1ℚ, inv, rats, qo, mul_inv}

abbrev pub Table : Type 0
Table = ℕ → ℕ → ℚ

abbrev pub Solves : ℕ → Table → (ℕ → ℚ) → (ℕ → ℚ) → Type 0
Solves n M w x = (i : ℕ) → i < n → sum qo n (λ d. M i d *ℚ x d) ≡ w i

pub schur : ℕ → Table → Table
schur n M i d = M i d +ℚ neg_ℚ ((M i n *ℚ inv (M n n)) *ℚ M n d)

pub schur_is : (n : ℕ) (M : Table) (i d : ℕ) → schur n M i d ≡ M i d +ℚ neg_ℚ ((M i n *ℚ inv (M n n)) *ℚ M n d)
unfolding schur
schur_is n M i d = refl

pub schur_right : ℕ → Table → (ℕ → ℚ) → ℕ → ℚ
schur_right n M w i = w i +ℚ neg_ℚ ((M i n *ℚ inv (M n n)) *ℚ w n)

pub schur-row : (n : ℕ) (M : Table) (x : ℕ → ℚ) (i : ℕ) → sum qo n (λ d. schur n M i d *ℚ x d) ≡ sum qo n (λ d. M i d *ℚ x d) +ℚ neg_ℚ ((M i n *ℚ inv (M n n)) *ℚ sum qo n (λ d. M n d *ℚ x d))
unfolding schur
schur-row n M x i = sum_ext qo n (λ d. schur n M i d *ℚ x d) (λ d. M i d *ℚ x d +ℚ neg_ℚ ((M i n *ℚ inv (M n n)) *ℚ (M n d *ℚ x d))) (λ d l. each (M i d) (M i n *ℚ inv (M n n)) (M n d) (x d))
    ∙ sum-add rats n (λ d. M i d *ℚ x d) (λ d. neg_ℚ ((M i n *ℚ inv (M n n)) *ℚ (M n d *ℚ x d)))
    ∙ ap (λ t. sum qo n (λ d. M i d *ℚ x d) +ℚ t) (sum-neg rats n (λ d. (M i n *ℚ inv (M n n)) *ℚ (M n d *ℚ x d)) ∙ ap neg_ℚ (sum-mul rats n (M i n *ℚ inv (M n n)) (λ d. M n d *ℚ x d)))
  where
    each : (a k b x : ℚ) → (a +ℚ neg_ℚ (k *ℚ b)) *ℚ x ≡ a *ℚ x +ℚ neg_ℚ (k *ℚ (b *ℚ x))
    each a k b x = ring rats (nth 0ℚ (a ∷ k ∷ b ∷ x ∷ [])) (times (plus (var 0) (minus (times (var 1) (var 2)))) (var 3)) (plus (times (var 0) (var 3)) (minus (times (var 1) (times (var 2) (var 3))))) refl

-- the four steps on numbers: s and si are the rows' sums, d the pivot and e its inverse
module _ (s si d e mi x wn wi : ℚ) where
  vals : ℕ → ℚ
  vals = nth 0ℚ (s ∷ si ∷ d ∷ e ∷ mi ∷ x ∷ wn ∷ wi ∷ [])

  pivot : Use
  pivot = record { by = eone; left = times (var 2) (var 3); right = eone }

  last : d *ℚ e ≡ 1ℚ → s +ℚ d *ℚ x ≡ wn → x ≡ e *ℚ (wn +ℚ neg_ℚ s)
  unfolding vals
  last p h = combine rats vals (var 5) (times (var 3) (plus (var 6) (minus (var 0))))
      (record { by = var 3; left = plus (var 0) (times (var 2) (var 5)); right = var 6 } ∷ record { by = minus (var 5); left = times (var 2) (var 3); right = eone } ∷ []) refl (h, (p, tt))

  other : d *ℚ e ≡ 1ℚ → s +ℚ d *ℚ x ≡ wn → si +ℚ mi *ℚ x ≡ wi → si +ℚ neg_ℚ ((mi *ℚ e) *ℚ s) ≡ wi +ℚ neg_ℚ ((mi *ℚ e) *ℚ wn)
  unfolding vals
  other p h k = combine rats vals (plus (var 1) (minus (times (times (var 4) (var 3)) (var 0)))) (plus (var 7) (minus (times (times (var 4) (var 3)) (var 6))))
      (record { by = eone; left = plus (var 1) (times (var 4) (var 5)); right = var 7 }
      ∷ record { by = minus (times (var 4) (var 3)); left = plus (var 0) (times (var 2) (var 5)); right = var 6 }
      ∷ record { by = times (var 4) (var 5); left = times (var 2) (var 3); right = eone } ∷ []) refl (k, (h, (p, tt)))

  last_back : d *ℚ e ≡ 1ℚ → x ≡ e *ℚ (wn +ℚ neg_ℚ s) → s +ℚ d *ℚ x ≡ wn
  unfolding vals
  last_back p h = combine rats vals (plus (var 0) (times (var 2) (var 5))) (var 6)
      (record { by = var 2; left = var 5; right = times (var 3) (plus (var 6) (minus (var 0))) }
      ∷ record { by = plus (var 6) (minus (var 0)); left = times (var 2) (var 3); right = eone } ∷ []) refl (h, (p, tt))

  other_back : x ≡ e *ℚ (wn +ℚ neg_ℚ s) → si +ℚ neg_ℚ ((mi *ℚ e) *ℚ s) ≡ wi +ℚ neg_ℚ ((mi *ℚ e) *ℚ wn) → si +ℚ mi *ℚ x ≡ wi
  unfolding vals
  other_back h k = combine rats vals (plus (var 1) (times (var 4) (var 5))) (var 7)
      (record { by = eone; left = plus (var 1) (minus (times (times (var 4) (var 3)) (var 0))); right = plus (var 7) (minus (times (times (var 4) (var 3)) (var 6))) }
      ∷ record { by = var 4; left = var 5; right = times (var 3) (plus (var 6) (minus (var 0))) } ∷ []) refl (k, (h, tt))

pub LastIs : ℕ → Table → (ℕ → ℚ) → (ℕ → ℚ) → Type 0
LastIs n M w x = x n ≡ inv (M n n) *ℚ (w n +ℚ neg_ℚ (sum qo n (λ d. M n d *ℚ x d)))

pub eliminate : (n : ℕ) (M : Table) (w x : ℕ → ℚ) → ¬ (M n n ≡ 0ℚ) → Solves (suc n) M w x ↔ (LastIs n M w x × Solves n (schur n M) (schur_right n M w) x)
unfolding LastIs schur_right
eliminate n M w x p = (
  λ h. (
    last (S n) (S n) (M n n) (inv (M n n)) (M n n) (x n) (w n) (w n) (mul_inv (M n n) p) (row h n (omega arith)),
    λ i l. schur-row n M x i ∙ other (S n) (S i) (M n n) (inv (M n n)) (M i n) (x n) (w n) (w i) (mul_inv (M n n) p) (row h n (omega arith)) (row h i (omega arith)),
  ),
  λ h i l. sum-suc qo n (λ d. M i d *ℚ x d) ∙ back h i l (ℕ_discrete i n),
)
  where
    S : ℕ → ℚ
    S i = sum qo n (λ d. M i d *ℚ x d)

    row : Solves (suc n) M w x → (i : ℕ) → i < suc n → S i +ℚ M i n *ℚ x n ≡ w i
    row h i l = sym (sum-suc qo n (λ d. M i d *ℚ x d)) ∙ h i l

    back : LastIs n M w x × Solves n (schur n M) (schur_right n M w) x → (i : ℕ) → i < suc n → Dec (i ≡ n) → S i +ℚ M i n *ℚ x n ≡ w i
    back h i l (yes e) = subst (λ k. S k +ℚ M k n *ℚ x n ≡ w k) (sym e) (last_back (S n) (S n) (M n n) (inv (M n n)) (M n n) (x n) (w n) (w n) (mul_inv (M n n) p) h.0)
    back h i l (no ne) = other_back (S n) (S i) (M n n) (inv (M n n)) (M i n) (x n) (w n) (w i) h.0 (sym (schur-row n M x i) ∙ h.1 i (omega arith))

-- every pivot differs from zero
unfoldable pub Pivots : ℕ → Table → Type 0
Pivots zero M = Unit {0}
Pivots (suc n) M = (¬ (M n n ≡ 0ℚ)) × Pivots n (schur n M)

pub put : ℕ → ℚ → (ℕ → ℚ) → ℕ → ℚ
put n v x i = elim (ℕ_discrete i n) [ yes e ↦ v | no h ↦ x i ]

pub put_at : (n : ℕ) (v : ℚ) (x : ℕ → ℚ) → put n v x n ≡ v
unfolding put
put_at n v x = go (ℕ_discrete n n)
  where
    go : (d : Dec (n ≡ n)) → elim d [ yes e ↦ v | no h ↦ x n ] ≡ v
    go (yes e) = refl
    go (no h) = absurd (h refl)

pub put_other : (n : ℕ) (v : ℚ) (x : ℕ → ℚ) (i : ℕ) → i < n → put n v x i ≡ x i
unfolding put
put_other n v x i l = go (ℕ_discrete i n)
  where
    go : (d : Dec (i ≡ n)) → elim d [ yes e ↦ v | no h ↦ x i ] ≡ x i
    go (yes e) = absurd (omega arith)
    go (no h) = refl

pub sum_same : (n : ℕ) (M : Table) (x y : ℕ → ℚ) (i : ℕ) → ((d : ℕ) → d < n → x d ≡ y d) → sum qo n (λ d. M i d *ℚ x d) ≡ sum qo n (λ d. M i d *ℚ y d)
sum_same n M x y i h = sum_ext qo n (λ d. M i d *ℚ x d) (λ d. M i d *ℚ y d) (λ d l. ap (λ t. M i d *ℚ t) (h d l))

pub one_solution : (n : ℕ) (M : Table) (w : ℕ → ℚ) → Pivots n M → (x : ℕ → ℚ) × Solves n M w x × ((y : ℕ → ℚ) → Solves n M w y → (i : ℕ) → i < n → y i ≡ x i)
unfolding Pivots LastIs
one_solution zero M w p = (w, λ i l. absurd (omega arith), λ y h i l. absurd (omega arith))
one_solution (suc n) M w p = step (one_solution n (schur n M) (schur_right n M w) p.1)
  where
    step : (x : ℕ → ℚ) × Solves n (schur n M) (schur_right n M w) x × ((y : ℕ → ℚ) → Solves n (schur n M) (schur_right n M w) y → (i : ℕ) → i < n → y i ≡ x i)
        → (x : ℕ → ℚ) × Solves (suc n) M w x × ((y : ℕ → ℚ) → Solves (suc n) M w y → (i : ℕ) → i < suc n → y i ≡ x i)
    step r = (z, (eliminate n M w z p.0).1 (last_z, below_z), λ y h i l. unique y ((eliminate n M w y p.0).0 h) i l (ℕ_discrete i n))
      where
        v : ℚ
        v = inv (M n n) *ℚ (w n +ℚ neg_ℚ (sum qo n (λ d. M n d *ℚ r.0 d)))

        z : ℕ → ℚ
        z = put n v r.0

        z_is : (d : ℕ) → d < n → z d ≡ r.0 d
        z_is d l = put_other n v r.0 d l

        last_z : LastIs n M w z
        last_z = put_at n v r.0 ∙ ap (λ t. inv (M n n) *ℚ (w n +ℚ neg_ℚ t)) (sym (sum_same n M z r.0 n z_is))

        below_z : Solves n (schur n M) (schur_right n M w) z
        below_z i l = sum_same n (schur n M) z r.0 i z_is ∙ r.1 i l

        unique : (y : ℕ → ℚ) → LastIs n M w y × Solves n (schur n M) (schur_right n M w) y → (i : ℕ) → i < suc n → Dec (i ≡ n) → y i ≡ z i
        unique y h i l (no ne) = r.2 y h.1 i (omega arith) ∙ sym (z_is i (omega arith))
        unique y h i l (yes e) = ap y e ∙ (h.0 ∙ ap (λ t. inv (M n n) *ℚ (w n +ℚ neg_ℚ t)) (sum_same n M y r.0 n (λ d k. r.2 y h.1 d k))) ∙ sym (put_at n v r.0) ∙ ap z (sym e)
