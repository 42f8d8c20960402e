-- Sums of rational numbers some of whose terms are zero.
use mathlib.Core.Path.{◌≡◌, sym, ◌∙◌, ap}
use Prim.Native.Nat.{ℕ, zero, suc, ◌<◌, ◌≤◌}
use native.Mathlib.Omega.{arith}
use native.Mathlib.Decide.{ℕ_discrete}
use Rattle.rb_frac.proofs.Sums.{sum, sum-zero, sum-suc}
use Rattle.rb_frac.proofs.Rational.{ℚ, ◌+ℚ◌, 0ℚ, qo, add_nul}

gap_step : (a b : ℕ) (f : ℕ → ℚ) → a ≤ suc b → ((i : ℕ) → a ≤ i → i < suc b → f i ≡ 0ℚ) → (a ≤ b → sum qo b f ≡ sum qo a f) → Dec (a ≡ suc b) → sum qo (suc b) f ≡ sum qo a f
gap_step a b f l h below (yes e) = ap (λ k. sum qo k f) (sym e)
gap_step a b f l h below (no m) =
    let le : a ≤ b = omega (arith, m) in
    sum-suc qo b f ∙ ap (λ t. sum qo b f +ℚ t) (h b le (omega arith)) ∙ add_nul (sum qo b f) ∙ below le

-- a sum goes no further than its terms that differ from zero
pub sum_gap : (a b : ℕ) (f : ℕ → ℚ) → a ≤ b → ((i : ℕ) → a ≤ i → i < b → f i ≡ 0ℚ) → sum qo b f ≡ sum qo a f
sum_gap a zero f l h = ap (λ k. sum qo k f) (omega arith)
sum_gap a (suc b) f l h = gap_step a b f l h (λ le. sum_gap a b f le (λ i p q. h i p (omega arith))) (ℕ_discrete a (suc b))

pub sum_none : (b : ℕ) (f : ℕ → ℚ) → ((i : ℕ) → i < b → f i ≡ 0ℚ) → sum qo b f ≡ 0ℚ
sum_none b f h = sum_gap 0 b f (omega arith) (λ i p q. h i q) ∙ sum-zero qo f
