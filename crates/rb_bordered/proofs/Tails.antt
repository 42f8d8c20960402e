-- Sums over the rows after a row.
use Rattle.std.proofs.Common.{◌≡◌, ℕ, zero, suc, ◌+◌, ◌-◌, ◌<◌, ◌≤◌, [], ◌∷◌, refl, sym, ◌∙◌, ap, ap₂, arith}
use Rattle.rb_frac.proofs.Ring.{var, plus, times, minus, ring}
use Rattle.rb_frac.proofs.Vec.{nth}
use Rattle.rb_frac.proofs.Sums.{sum, sum-zero, sum_ext, sum-add, sum-mul, sum-neg, sum_first}
use Rattle.rb_frac.proofs.Rational.{ℚ, ◌+ℚ◌, ◌*ℚ◌, neg_ℚ, 0ℚ, qo, rats}

abbrev pub tail : ℕ → ℕ → (ℕ → ℚ) → ℚ
tail R r f = sum qo (R - r) (λ i. f (suc (r + i)))

pub tail_ext : (R r : ℕ) (f g : ℕ → ℚ) → ((t : ℕ) → r < t → t ≤ R → f t ≡ g t) → tail R r f ≡ tail R r g
tail_ext R r f g h = sum_ext qo (R - r) (λ i. f (suc (r + i))) (λ i. g (suc (r + i))) (λ i l. h (suc (r + i)) (omega arith) (omega arith))

pub tail_next : (R r : ℕ) (f : ℕ → ℚ) → r < R → tail R r f ≡ f (suc r) +ℚ tail R (suc r) f
tail_next R r f l =
    let e : R - r ≡ suc (R - suc r) = omega arith in
    let z : suc (r + 0) ≡ suc r = omega arith in
    ap (λ k. sum qo k (λ i. f (suc (r + i)))) e
    ∙ sum_first rats (R - suc r) (λ i. f (suc (r + i)))
    ∙ ap₂ ◌+ℚ◌ (ap f z)
    (sum_ext qo (R - suc r) (λ i. f (suc (r + suc i))) (λ i. f (suc (suc r + i))) (λ i q. let s : suc (r + suc i) ≡ suc (suc r + i) = omega arith in ap f s))

pub tail_none : (R : ℕ) (f : ℕ → ℚ) → tail R R f ≡ 0ℚ
tail_none R f =
    let e : R - R ≡ 0 = omega arith in
    ap (λ k. sum qo k (λ i. f (suc (R + i)))) e ∙ sum-zero qo (λ i. f (suc (R + i)))

pub tail_all : (R : ℕ) (f : ℕ → ℚ) → tail R 0 f ≡ sum qo R (λ i. f (suc i))
tail_all R f =
    let e : R - 0 ≡ R = omega arith in
    ap (λ k. sum qo k (λ i. f (suc (0 + i)))) e
    ∙ sum_ext qo R (λ i. f (suc (0 + i))) (λ i. f (suc i)) (λ i l. let s : suc (0 + i) ≡ suc i = omega arith in ap f s)

pub tail_mul : (R r : ℕ) (k : ℚ) (f : ℕ → ℚ) → tail R r (λ t. k *ℚ f t) ≡ k *ℚ tail R r f
tail_mul R r k f = sum-mul rats (R - r) k (λ i. f (suc (r + i)))

each : (a k b x : ℚ) → (a +ℚ neg_ℚ (k *ℚ b)) *ℚ x ≡ a *ℚ x +ℚ neg_ℚ (k *ℚ (b *ℚ x))
each a k b x = ring rats (nth 0ℚ (a ∷ k ∷ b ∷ x ∷ [])) (times (plus (var 0) (minus (times (var 1) (var 2)))) (var 3)) (plus (times (var 0) (var 3)) (minus (times (var 1) (times (var 2) (var 3))))) refl

pub tail_less : (R r : ℕ) (a b v : ℕ → ℚ) (k : ℚ) → tail R r (λ t. (a t +ℚ neg_ℚ (k *ℚ b t)) *ℚ v t) ≡ tail R r (λ t. a t *ℚ v t) +ℚ neg_ℚ (k *ℚ tail R r (λ t. b t *ℚ v t))
tail_less R r a b v k =
    tail_ext R r (λ t. (a t +ℚ neg_ℚ (k *ℚ b t)) *ℚ v t) (λ t. a t *ℚ v t +ℚ neg_ℚ (k *ℚ (b t *ℚ v t))) (λ t p q. each (a t) k (b t) (v t))
    ∙ sum-add rats (R - r) (λ i. a (suc (r + i)) *ℚ v (suc (r + i))) (λ i. neg_ℚ (k *ℚ (b (suc (r + i)) *ℚ v (suc (r + i)))))
    ∙ ap (λ t. tail R r (λ t. a t *ℚ v t) +ℚ t)
    (sum-neg rats (R - r) (λ i. k *ℚ (b (suc (r + i)) *ℚ v (suc (r + i)))) ∙ ap neg_ℚ (tail_mul R r k (λ t. b t *ℚ v t)))
