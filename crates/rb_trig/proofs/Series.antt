-- The sums of sine and cosine terms as the nested products of the code, whose factors have its divisors.
use Rattle.std.proofs.Common.{◌≡◌, ℕ, suc, ◌+◌, ◌-◌, ◌*◌, pos, [], ◌∷◌, refl, sym, ◌∙◌, ap, arith}
use mathlib.Core.Path.{ap₂}
use Rattle.rb_frac.specs.Frac.{Frac}
use Rattle.rb_frac.proofs.Ring.{var, eone, times, minus, ring}
use Rattle.rb_frac.proofs.Vec.{nth}
use Rattle.rb_frac.proofs.Rational.{ℚ, ◌*ℚ◌, neg_ℚ, 0ℚ, inv, rats, cls}
use Rattle.rb_num.specs.Sine.{sine_sum, cosine_sum}
use Rattle.rb_num.proofs.Series.{nest, natural, natural-mul, factor, term-zero, term-one, cls-sine_sum, cls-cosine_sum}
use Rattle.rb_trig.specs.declared.sine.Series.{Series}
use Rattle.rb_trig.specs.declared.sine.Series.TheVariants.{Sine, Cosine}
use Rattle.rb_trig.specs.Sine.{divisor}
use Rattle.rb_trig.proofs.Numbers.{whole}

-- one by the divisor
unfoldable pub over : Series → ℕ → ℚ
over s k = inv (whole (pos (divisor s k)))

factor_over : (q : ℚ) (n d : ℕ) → suc n * suc (suc n) ≡ d → factor q n ≡ neg_ℚ ((q *ℚ q) *ℚ inv (whole (pos d)))
unfolding factor natural whole
factor_over q n d e =
    ap (λ (x : ℚ). neg_ℚ (q *ℚ q) *ℚ inv x) (sym (natural-mul (suc n) (suc (suc n))) ∙ ap natural e)
    ∙ ring rats (nth 0ℚ (q ∷ inv (natural d) ∷ [])) (times (minus (times (var 0) (var 0))) (var 1)) (minus (times (times (var 0) (var 0)) (var 1))) refl

pub cosine_factor : (q : ℚ) (k : ℕ) → factor q (2 * k) ≡ neg_ℚ ((q *ℚ q) *ℚ over Cosine (1 + k))
unfolding over divisor
cosine_factor q k = factor_over q (2 * k) _ (ap₂ ◌*◌ (odd k) (even k))
  where
    odd : (k : ℕ) → suc (2 * k) ≡ 2 * (1 + k) - 1
    odd k = omega arith

    even : (k : ℕ) → suc (suc (2 * k)) ≡ 2 * (1 + k)
    even k = omega arith

pub sine_factor : (q : ℚ) (k : ℕ) → factor q (2 * k + 1) ≡ neg_ℚ ((q *ℚ q) *ℚ over Sine (1 + k))
unfolding over divisor
sine_factor q k = factor_over q (2 * k + 1) _ (ap₂ ◌*◌ (even k) (odd k))
  where
    even : (k : ℕ) → suc (2 * k + 1) ≡ 2 * (1 + k)
    even k = omega arith

    odd : (k : ℕ) → suc (suc (2 * k + 1)) ≡ 2 * (1 + k) + 1
    odd k = omega arith

pub cosine_sum_is : (t : Frac) (m : ℕ) → cls (cosine_sum t (suc m)) ≡ nest rats (λ k. factor (cls t) (2 * k)) m
cosine_sum_is t m =
    cls-cosine_sum t m ∙ ap (λ (q : ℚ). q *ℚ nest rats (λ k. factor (cls t) (2 * k)) m) (term-zero (cls t))
    ∙ ring rats (nth 0ℚ (nest rats (λ k. factor (cls t) (2 * k)) m ∷ [])) (times eone (var 0)) (var 0) refl

pub sine_sum_is : (t : Frac) (m : ℕ) → cls (sine_sum t (suc m)) ≡ cls t *ℚ nest rats (λ k. factor (cls t) (2 * k + 1)) m
sine_sum_is t m = cls-sine_sum t m ∙ ap (λ (q : ℚ). q *ℚ nest rats (λ k. factor (cls t) (2 * k + 1)) m) (term-one (cls t))
