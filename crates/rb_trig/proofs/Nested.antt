-- The loop over the terms: what it has after the term k is the nested product of the terms from k on.
use Rattle.std.proofs.Common.{◌≡◌, ℕ, zero, suc, ◌+◌, ◌-◌, ◌*◌, ◌^◌, ◌<◌, ◌≤◌, ℤ, pos, ◌<ℤ◌, sym, ◌∙◌, ap, subst, arith}
use Rattle.std.proofs.lemmas.Int.{ints}
use Rattle.std.proofs.lemmas.Nat.{mul-le}
use Rattle.rb_num.specs.Interval.{Interval, interval}
use Rattle.rb_num.specs.Dot.{ProductsFit}
use Rattle.rb_trig.specs.declared.sine.Series.{Series}
use Rattle.rb_trig.specs.declared.sine.Series.TheVariants.{Sine, Cosine}
use Rattle.rb_trig.specs.Sine.{scale, divisor, step, nested, IsSquare}
use Rattle.rb_num.proofs.Ends.{read}
use Rattle.rb_trig.proofs.Read.{held}
use Rattle.rb_trig.proofs.Sizes.{step_fits, some_divisor}

pub record PartlyNested (s : Series) (u : Interval) (n k : ℕ) (v : Interval) : Type 0 where
  pub some : 1 ≤ k
  pub value : v ≡ nested s u k (n - k)

pub nested_start : (s : Series) (u v : Interval) (n : ℕ) → 1 ≤ n → v ≡ interval (pos scale) (pos scale) → PartlyNested s u n n v
unfolding nested
nested_start s u v n h e = record { some = h; value = e ∙ ap (nested s u n) (none n) }
  where
    none : (n : ℕ) → 0 ≡ n - n
    none n = omega arith

pub nested_more : (s : Series) (u v w : Interval) (n k : ℕ) (d : ℤ) → 1 ≤ k → k < n → v ≡ nested s u (suc k) (n - suc k) → d ≡ pos (divisor s k) → w ≡ step u v d → PartlyNested s u n k w
unfolding nested
nested_more s u v w n k d p l e f g = record {
  some = p;
  value = g ∙ ap (λ (t : Interval). step u t d) e ∙ ap (step u (nested s u (suc k) (n - suc k))) f ∙ sym (ap (nested s u k) (one_more n k l));
}
  where
    one_more : (n k : ℕ) → k < n → n - k ≡ suc (n - suc k)
    one_more n k l = omega arith

pub partly_fits : (s : Series) (u v : Interval) (n k : ℕ) → IsSquare u → 2 ≤ k → PartlyNested s u n k v → ProductsFit (u, v)
partly_fits s u v n k h p i = subst (λ (t : Interval). ProductsFit (u, t)) (sym i.value) (step_fits s u (n - k) k h p)

pub divisor_low : (s : Series) (k : ℕ) (d : ℤ) → 1 ≤ k → d ≡ pos (divisor s k) → pos 0 <ℤ d
divisor_low s k d h e = omega (arith, ints, some_divisor s k h, e)

few : (s : Series) (k : ℕ) → k < 2 ^ 30 → divisor s k < 2 ^ 62
unfolding divisor
few Sine k h = let l : 2 * k * (2 * k + 1) ≤ (2 ^ 31 - 1) * (2 ^ 31) = mul-le (2 * k) (2 * k + 1) (2 ^ 31 - 1) (2 ^ 31) (omega arith) (omega arith) in omega arith
few Cosine k h = let l : (2 * k - 1) * (2 * k) ≤ (2 ^ 31 - 1) * (2 ^ 31) = mul-le (2 * k - 1) (2 * k) (2 ^ 31 - 1) (2 ^ 31) (omega arith) (omega arith) in omega arith

pub divisor_high : (s : Series) (k : ℕ) (d : ℤ) → k < 2 ^ 30 → d ≡ pos (divisor s k) → d <ℤ pos (2 ^ 62)
divisor_high s k d h e = omega (arith, ints, few s k h, e)

pub divisor_held : (s : Series) (k : ℕ) (d : ℤ) → k < 2 ^ 30 → d ≡ pos (divisor s k) → held d ≡ pos (divisor s k)
divisor_held s k d h e = read d (omega (arith, ints, few s k h, e)) e

-- the turn of the loop at k
pub nested_less : (s : Series) (u v w : Interval) (n k : ℕ) (d : ℤ) → 1 < k → k ≤ n → n < 2 ^ 30 → PartlyNested s u n k v → d ≡ pos (divisor s (k - 1)) → w ≡ step u v (held d) → PartlyNested s u n (k - 1) w
nested_less s u v w n zero d p l b i f g = absurd (omega arith)
nested_less s u v w n (suc k) d p l b i f g =
    let e : suc k - 1 ≡ k = omega arith in
    subst (λ (j : ℕ). PartlyNested s u n j w) (sym e)
    (nested_more s u v w n k (held d) (omega arith) (omega arith) i.value (divisor_held s k d (omega arith) (f ∙ ap (λ (j : ℕ). pos (divisor s j)) e)) g)
