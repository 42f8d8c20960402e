-- Bounds, proved by sums of what is not negative, and what is greater than zero.
use mathlib.Core.Path.{◌≡◌, refl, sym}
use Prim.Native.Nat.{ℕ}
use mathlib.Core.List.{List, [], ◌∷◌}
use mathlib.Core.Bool.{true}
use Rattle.rb_frac.proofs.Ring.{Expr, var, enul, eone, plus, times, minus, eval, ring, same}
use Rattle.rb_frac.proofs.Vec.{nth}
use Rattle.rb_frac.proofs.Combine.{Use, combine, Given, total}
use Rattle.rb_frac.proofs.Rational.{ℚ, ◌+ℚ◌, ◌*ℚ◌, neg_ℚ, 0ℚ, inv, rats, qo, IsNonNeg, nn_add, nn_mul, ◌≤ℚ◌, mul_inv, one_not_zero}
use Rattle.rb_frac.proofs.Order.{le_refl_ℚ, square_nn, by_nn}

abbrev pub sum_all : List Expr → Expr
sum_all [] = enul
sum_all (e ∷ es) = plus e (sum_all es)

module _ (ρ : ℕ → ℚ) where
  abbrev pub AllNonNeg : List Expr → Type 0
  AllNonNeg [] = Unit {0}
  AllNonNeg (e ∷ es) = IsNonNeg (eval qo ρ e) × AllNonNeg es

  nn_all : (es : List Expr) → AllNonNeg es → IsNonNeg (eval qo ρ (sum_all es))
  nn_all [] h = by_nn (0ℚ +ℚ neg_ℚ 0ℚ) 0ℚ (ring rats ρ (plus enul (minus enul)) enul refl) (le_refl_ℚ 0ℚ).le
  nn_all (e ∷ es) h = nn_add (eval qo ρ e) (eval qo ρ (sum_all es)) h.0 (nn_all es h.1)

  -- a ≤ b, where b − a is a sum of what is not negative, but for multiples of equations
  pub bound : (a b : Expr) (es : List Expr) (us : List Use) → same (plus (plus b (minus a)) (minus (sum_all es))) (total us) ≡ true → AllNonNeg es → Given rats ρ us → eval qo ρ a ≤ℚ eval qo ρ b
  bound a b es us c h g = record { le = by_nn (eval qo ρ (sum_all es)) (eval qo ρ (plus b (minus a))) (sym (combine rats ρ (plus b (minus a)) (sum_all es) us c g)) (nn_all es h) }

-- ---- what is greater than zero
pub record IsPos (q : ℚ) : Type 0 where
  pub not_neg : IsNonNeg q
  pub not_zero : ¬ (q ≡ 0ℚ)

pub no_zero_divisors : (p q : ℚ) → ¬ (p ≡ 0ℚ) → p *ℚ q ≡ 0ℚ → q ≡ 0ℚ
no_zero_divisors p q n e = combine rats (nth 0ℚ (p ∷ q ∷ inv p ∷ [])) (var 1) enul
    (record { by = minus (var 1); left = times (var 0) (var 2); right = eone } ∷ record { by = var 2; left = times (var 0) (var 1); right = enul } ∷ []) refl (mul_inv p n, (e, tt))

pub inv_pos : (p : ℚ) → IsPos p → IsPos (inv p)
inv_pos p h = record {
  not_neg = by_nn _ _ (combine rats (nth 0ℚ (p ∷ inv p ∷ [])) (times (var 0) (plus (times (var 1) (var 1)) (minus enul))) (var 1) (record { by = var 1; left = times (var 0) (var 1); right = eone } ∷ []) refl (mul_inv p h.not_zero, tt)) (nn_mul p (inv p *ℚ inv p +ℚ neg_ℚ 0ℚ) h.not_neg (square_nn (inv p)).le);
  not_zero = λ e. one_not_zero (combine rats (nth 0ℚ (p ∷ inv p ∷ [])) eone enul (record { by = minus eone; left = times (var 0) (var 1); right = eone } ∷ record { by = var 0; left = var 1; right = enul } ∷ []) refl (mul_inv p h.not_zero, (e, tt)));
}
