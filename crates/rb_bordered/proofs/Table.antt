-- What is left of the coupling under way is what is left of the whole table.
use Rattle.std.proofs.Common.{◌≡◌, ℕ, zero, suc, ◌<◌, ◌≤◌, sym, ◌∙◌, ap, ap₂, arith}
use Rattle.rb_frac.proofs.Rational.{ℚ, ◌+ℚ◌, ◌*ℚ◌, neg_ℚ, inv}
use Rattle.rb_bordered.proofs.Dense.{whole, whole_start, whole_next}

module _ (start : ℕ → ℕ → ℚ) (R : ℕ) (table : ℕ → ℕ → ℕ → ℚ) (l : ℕ → ℕ → ℚ) (C : ℕ → ℚ)
    (first : (q t : ℕ) → 0 < t → t ≤ q → q ≤ R → table 0 q t ≡ start q t)
    (pivots : (r : ℕ) → r < R → C (suc r) ≡ table r (suc r) (suc r))
    (quotients : (r q : ℕ) → suc r < q → q ≤ R → l q (suc r) ≡ table r q (suc r) *ℚ inv (C (suc r)))
    (updates : (r q t : ℕ) → suc r < t → t ≤ q → q ≤ R → table (suc r) q t ≡ table r q t +ℚ neg_ℚ (l q (suc r) *ℚ table r t (suc r))) where
  pub agrees : (r q t : ℕ) → r < t → t ≤ q → q ≤ R → table r q t ≡ whole start r q t
  agrees zero q t p b k = first q t p b k ∙ sym (whole_start start q t)
  agrees (suc r) q t p b k =
      updates r q t p b k
      ∙ ap₂ (λ a s. a +ℚ neg_ℚ (s *ℚ table r t (suc r))) (agrees r q t (omega arith) b k)
      (quotients r q (omega arith) k ∙ ap₂ (λ a c. a *ℚ inv c) (agrees r q (suc r) (omega arith) (omega arith) k) (pivots r (omega arith) ∙ agrees r (suc r) (suc r) (omega arith) (omega arith) (omega arith)))
      ∙ ap (λ s. whole start r q t +ℚ neg_ℚ ((whole start r q (suc r) *ℚ inv (whole start r (suc r) (suc r))) *ℚ s)) (agrees r t (suc r) (omega arith) (omega arith) (omega arith))
      ∙ sym (whole_next start r q t)

  pub pivot_is : (r : ℕ) → r < R → C (suc r) ≡ whole start r (suc r) (suc r)
  pivot_is r b = pivots r b ∙ agrees r (suc r) (suc r) (omega arith) (omega arith) (omega arith)

  pub quotient_is : (r q : ℕ) → suc r < q → q ≤ R → l q (suc r) ≡ whole start r q (suc r) *ℚ inv (C (suc r))
  quotient_is r q p k = quotients r q p k ∙ ap (λ a. a *ℚ inv (C (suc r))) (agrees r q (suc r) (omega arith) (omega arith) k)
