-- The sums of sine and cosine terms as nested products, over the rational numbers: each term is the one before it, times a factor.
use Rattle.std.proofs.Common.{◌≡◌, ℕ, zero, suc, ◌+◌, ◌*◌, ◌<◌, pos, [], ◌∷◌, refl, sym, ◌∙◌, ap, arith}
use mathlib.Core.Path.{ap₂}
use Rattle.rb_frac.specs.Frac as F
use Rattle.rb_frac.specs.Frac.{Frac, Same, fracs}
use Rattle.rb_frac.specs.Ops.{sum}
use Rattle.rb_frac.specs.Positive.{times_pos, suc_pos}
use Rattle.rb_frac.proofs.Ring.{CommRing, Expr, var, eone, plus, times, minus, ring, nul_add}
use Rattle.rb_frac.proofs.Vec.{nth}
use Rattle.rb_frac.proofs.Combine.{combine}
use Rattle.rb_frac.proofs.Transfer.{cls-sum}
use Rattle.rb_frac.proofs.Sums.{sum_ext, sum_first}
use Rattle.rb_frac.proofs.Rational.{ℚ, ◌*ℚ◌, neg_ℚ, 0ℚ, 1ℚ, inv, rats, qo, cls, sound, cls-mul, cls-neg, cls-one, cls_of_quot, mul_inv, null-cls}
use Rattle.rb_num.specs.Sine.{minus_one, factorial, power, sine_term, cosine_term, sine_sum, cosine_sum}

-- ---- nested products
module _ {A : Type 0} (R : CommRing A) where
  open R.ops use {add as ◌⊕◌, mul as ◌⊗◌, nul, one as unit}

  infixl 6 ◌⊕◌
  infixl 7 ◌⊗◌
  -- 1 + r 0 (1 + r 1 (.. (1 + r (n - 1))))
  unfoldable pub nest : (ℕ → A) → ℕ → A
  nest r zero = unit
  nest r (suc n) = unit ⊕ r 0 ⊗ nest (λ k. r (suc k)) n

  pub sum-nest : (a r : ℕ → A) → ((k : ℕ) → a (suc k) ≡ a k ⊗ r k) → (n : ℕ) → sum R.ops (suc n) a ≡ a 0 ⊗ nest r n
  unfolding nest sum
  sum-nest a r h zero = nul_add R (a 0) ∙ sym (R.mul_one (a 0))
  sum-nest a r h (suc n) =
      sum_first R (suc n) a
      ∙ ap (λ (t : A). a 0 ⊕ t) (sum-nest (λ k. a (suc k)) (λ k. r (suc k)) (λ k. h (suc k)) n ∙ ap (λ (t : A). t ⊗ nest (λ k. r (suc k)) n) (h 0))
      ∙ ring R (nth nul (a 0 ∷ r 0 ∷ nest (λ k. r (suc k)) n ∷ [])) (plus (var 0) (times (times (var 0) (var 1)) (var 2))) (times (var 0) (plus eone (times (var 1) (var 2)))) refl

-- ---- whole numbers and powers
unfoldable pub natural : ℕ → ℚ
natural n = cls (F.whole (pos n))

pub natural-mul : (m n : ℕ) → natural (m * n) ≡ natural m *ℚ natural n
unfolding natural F.whole F.mul
natural-mul m n = sound (F.whole (pos (m * n))) (F.mul (F.whole (pos m)) (F.whole (pos n))) refl ∙ sym (cls-mul (F.whole (pos m)) (F.whole (pos n)))

natural_differs : (n : ℕ) → 0 < n → ¬ (natural n ≡ 0ℚ)
unfolding natural F.whole
natural_differs n p e = no n p (null-cls (F.whole (pos n)) e)
  where
    no : (n : ℕ) → 0 < n → ¬ (pos n ≡ pos 0)
    no zero p e = absurd (omega arith)
    no (suc n) p e = cc

pub power_ℚ : ℚ → ℕ → ℚ
power_ℚ q zero = 1ℚ
power_ℚ q (suc n) = power_ℚ q n *ℚ q

cls-power : (t : Frac) (n : ℕ) → cls (power t n) ≡ power_ℚ (cls t) n
unfolding power power_ℚ
cls-power t zero = cls-one
cls-power t (suc n) = sym (cls-mul (power t n) t) ∙ ap (λ (p : ℚ). p *ℚ cls t) (cls-power t n)

-- ---- the next term
abbrev COMMON : Expr
COMMON = times (times (var 0) (var 1)) (times (var 2) (var 2))

-- the quotient by n! and by (n + 2)!
next_quotient : (a p q f m n f' g' j : ℚ) → f *ℚ f' ≡ 1ℚ → (n *ℚ (m *ℚ f)) *ℚ g' ≡ 1ℚ → (m *ℚ n) *ℚ j ≡ 1ℚ
    → ((a *ℚ neg_ℚ 1ℚ) *ℚ ((p *ℚ q) *ℚ q)) *ℚ g' ≡ ((a *ℚ p) *ℚ f') *ℚ (neg_ℚ (q *ℚ q) *ℚ j)
next_quotient a p q f m n f' g' j h1 h2 h3 =
    combine rats (nth 0ℚ (a ∷ p ∷ q ∷ f ∷ m ∷ n ∷ f' ∷ g' ∷ j ∷ []))
    (times (times (times (var 0) (minus eone)) (times (times (var 1) (var 2)) (var 2))) (var 7))
    (times (times (times (var 0) (var 1)) (var 6)) (times (minus (times (var 2) (var 2))) (var 8)))
    (
    record { by = times COMMON (times (var 7) (times (times (var 4) (var 5)) (var 8))); left = times (var 3) (var 6); right = eone } ∷
    record { by = minus (times COMMON (times (var 6) (var 8))); left = times (times (var 5) (times (var 4) (var 3))) (var 7); right = eone } ∷
    record { by = times COMMON (var 7); left = times (times (var 4) (var 5)) (var 8); right = eone } ∷ []
    ) refl (h1, (h2, (h3, tt)))

factorial_positive : (n : ℕ) → 0 < factorial n
unfolding factorial
factorial_positive zero = omega arith
factorial_positive (suc n) = times_pos (suc n) (factorial n) (suc_pos n) (factorial_positive n)

-- (-1)^k q^n / n!
pub term : ℚ → ℕ → ℕ → ℚ
term q k n = (power_ℚ (neg_ℚ 1ℚ) k *ℚ power_ℚ q n) *ℚ inv (natural (factorial n))

-- - q² / ((n + 1) (n + 2))
unfoldable pub factor : ℚ → ℕ → ℚ
factor q n = neg_ℚ (q *ℚ q) *ℚ inv (natural (suc n) *ℚ natural (suc (suc n)))

natural-factorial : (n : ℕ) → natural (factorial (suc (suc n))) ≡ natural (suc (suc n)) *ℚ (natural (suc n) *ℚ natural (factorial n))
unfolding factorial
natural-factorial n = natural-mul (suc (suc n)) (suc n * factorial n) ∙ ap (λ (t : ℚ). natural (suc (suc n)) *ℚ t) (natural-mul (suc n) (factorial n))

pub term_next : (q : ℚ) (k n : ℕ) → term q (suc k) (suc (suc n)) ≡ term q k n *ℚ factor q n
unfolding term factor power_ℚ
term_next q k n =
    next_quotient (power_ℚ (neg_ℚ 1ℚ) k) (power_ℚ q n) q (natural (factorial n)) (natural (suc n)) (natural (suc (suc n))) _ _ _
    (mul_inv (natural (factorial n)) (natural_differs (factorial n) (factorial_positive n)))
    (ap (λ (t : ℚ). t *ℚ inv (natural (factorial (suc (suc n))))) (sym (natural-factorial n)) ∙ mul_inv _ (natural_differs (factorial (suc (suc n))) (factorial_positive (suc (suc n)))))
    (ap (λ (t : ℚ). t *ℚ inv (natural (suc n) *ℚ natural (suc (suc n)))) refl ∙ mul_inv (natural (suc n) *ℚ natural (suc (suc n))) both)
  where
    both : ¬ (natural (suc n) *ℚ natural (suc (suc n)) ≡ 0ℚ)
    both e = natural_differs (suc n * suc (suc n)) (times_pos (suc n) (suc (suc n)) (suc_pos n) (suc_pos (suc n))) (natural-mul (suc n) (suc (suc n)) ∙ e)

-- ---- the sums
pub cls-minus_one : cls minus_one ≡ neg_ℚ 1ℚ
unfolding F.whole F.neg
cls-minus_one = sym (cls-neg (F.whole (pos 1))) ∙ ap neg_ℚ cls-one

cls-quotient : (t : Frac) (k n : ℕ) → cls (F.quot (F.mul (power minus_one k) (power t n)) (F.whole (pos (factorial n)))) ≡ term (cls t) k n
unfolding term natural
cls-quotient t k n =
    cls_of_quot (F.mul (power minus_one k) (power t n)) (F.whole (pos (factorial n)))
    ∙ ap (λ (p : ℚ). p *ℚ inv (natural (factorial n))) (sym (cls-mul (power minus_one k) (power t n)) ∙ ap₂ ◌*ℚ◌ (cls-power minus_one k ∙ ap (λ (q : ℚ). power_ℚ q k) cls-minus_one) (cls-power t n))

-- the sine sum of n + 1 terms is t (1 - t²/(2·3) (1 - t²/(4·5) (..))), of n factors
pub cls-sine_sum : (t : Frac) (n : ℕ) → cls (sine_sum t (suc n)) ≡ term (cls t) 0 1 *ℚ nest rats (λ k. factor (cls t) (2 * k + 1)) n
unfolding sine_sum sine_term
cls-sine_sum t n =
    cls-sum (suc n) (λ k. F.quot (F.mul (power minus_one k) (power t (2 * k + 1))) (F.whole (pos (factorial (2 * k + 1)))))
    ∙ sum_ext qo (suc n) _ (λ k. term (cls t) k (2 * k + 1)) (λ k l. cls-quotient t k (2 * k + 1))
    ∙ sum-nest rats (λ k. term (cls t) k (2 * k + 1)) (λ k. factor (cls t) (2 * k + 1)) (λ k. ap (λ (m : ℕ). term (cls t) (suc k) m) (next k) ∙ term_next (cls t) k (2 * k + 1)) n
  where
    next : (k : ℕ) → 2 * suc k + 1 ≡ suc (suc (2 * k + 1))
    next k = omega arith

-- the cosine sum of n + 1 terms is 1 - t²/(1·2) (1 - t²/(3·4) (..)), of n factors
pub cls-cosine_sum : (t : Frac) (n : ℕ) → cls (cosine_sum t (suc n)) ≡ term (cls t) 0 0 *ℚ nest rats (λ k. factor (cls t) (2 * k)) n
unfolding cosine_sum cosine_term
cls-cosine_sum t n =
    cls-sum (suc n) (λ k. F.quot (F.mul (power minus_one k) (power t (2 * k))) (F.whole (pos (factorial (2 * k)))))
    ∙ sum_ext qo (suc n) _ (λ k. term (cls t) k (2 * k)) (λ k l. cls-quotient t k (2 * k))
    ∙ sum-nest rats (λ k. term (cls t) k (2 * k)) (λ k. factor (cls t) (2 * k)) (λ k. ap (λ (m : ℕ). term (cls t) (suc k) m) (next k) ∙ term_next (cls t) k (2 * k)) n
  where
    next : (k : ℕ) → 2 * suc k ≡ suc (suc (2 * k))
    next k = omega arith

-- the first terms
inverse_of_one : (e : ℚ) → 1ℚ *ℚ e ≡ 1ℚ → e ≡ 1ℚ
inverse_of_one e h = combine rats (nth 0ℚ (e ∷ [])) (var 0) eone (record { by = eone; left = times eone (var 0); right = eone } ∷ []) refl (h, tt)

by_one : inv (natural 1) ≡ 1ℚ
unfolding natural
by_one = inverse_of_one (inv (natural 1)) (ap (λ (q : ℚ). q *ℚ inv (natural 1)) (sym cls-one) ∙ mul_inv (natural 1) (natural_differs 1 (omega arith)))

pub term-zero : (q : ℚ) → term q 0 0 ≡ 1ℚ
unfolding term power_ℚ factorial
term-zero q = ap (λ (e : ℚ). (1ℚ *ℚ 1ℚ) *ℚ e) by_one ∙ ring rats (nth 0ℚ []) (times (times eone eone) eone) eone refl

pub term-one : (q : ℚ) → term q 0 1 ≡ q
unfolding term power_ℚ factorial
term-one q = ap (λ (e : ℚ). (1ℚ *ℚ (1ℚ *ℚ q)) *ℚ e) by_one ∙ ring rats (nth 0ℚ (q ∷ [])) (times (times eone (times eone (var 0))) eone) (var 0) refl
