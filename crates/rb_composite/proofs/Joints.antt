-- Sums over the columns of all joints.
use Rattle.std.proofs.Common.{◌≡◌, ℕ, zero, suc, ◌+◌, ◌<◌, ◌∙◌, ap, arith}
use Rattle.rb_frac.specs.Ops.{sum as sum_of}
use Rattle.rb_frac.specs.Frac.{Frac, fracs}
use Rattle.rb_frac.proofs.Rational.{ℚ, ◌+ℚ◌, 0ℚ, qo, rats, cls}
use Rattle.rb_frac.proofs.Sums.{sum, sum_ext, sum_split}
use Rattle.rb_frac.proofs.Transfer.{cls-sum}
use Rattle.rb_flat.specs.Shape.{Shape}
use Rattle.rb_flat.specs.Joint.{column_count}
use Rattle.rb_flat.proofs.Powers.{sum_none}
use Rattle.rb_composite.specs.Composite.{HasJointColumn, over_joints}

module _ (shape : Shape) where
  abbrev pub count : ℕ → ℕ
  count i = column_count (shape.kind i)

  -- of numbers f i k, with k from 0
  abbrev pub total : (ℕ → ℕ → ℚ) → ℚ
  total f = sum qo shape.bodies (λ i. sum qo (count (suc i)) (f (suc i)))

  pub cls-over_joints : (f : ℕ → ℕ → Frac) → cls (over_joints shape f) ≡ total (λ i k. cls (f i k))
  cls-over_joints f =
      cls-sum shape.bodies (λ i. sum_of fracs (count (suc i)) (f (suc i)))
      ∙ sum_ext qo shape.bodies _ _ (λ i l. cls-sum (count (suc i)) (f (suc i)))

  pub total_ext : (f g : ℕ → ℕ → ℚ) → ((i k : ℕ) → HasJointColumn shape i k → f i k ≡ g i k) → total f ≡ total g
  total_ext f g h =
      sum_ext qo shape.bodies _ _ (λ i l. sum_ext qo (count (suc i)) _ _ (λ k r. h (suc i) k (record { there = record { from = omega arith; to = omega arith }; below = r })))

  pub total-none : (f : ℕ → ℕ → ℚ) → ((i k : ℕ) → HasJointColumn shape i k → f i k ≡ 0ℚ) → total f ≡ 0ℚ
  total-none f h =
      sum_none shape.bodies _ (λ i l. sum_none (count (suc i)) (f (suc i)) (λ k r. h (suc i) k (record { there = record { from = omega arith; to = omega arith }; below = r })))

-- a sum over numbers from 0 on, of which those of body i + 1 begin at start i, is one over the columns of all joints
pub by_number : (n : ℕ) (size start : ℕ → ℕ) (g : ℕ → ℚ) → start 0 ≡ 0 → ((i : ℕ) → i < n → start (suc i) ≡ start i + size (suc i))
    → sum qo (start n) g ≡ sum qo n (λ i. sum qo (size (suc i)) (λ k. g (start i + k)))
unfolding sum
by_number zero size start g e h = ap (λ (t : ℕ). sum qo t g) e
by_number (suc n) size start g e h =
    ap (λ (t : ℕ). sum qo t g) (h n (omega arith))
    ∙ sum_split rats (start n) (size (suc n)) g
    ∙ ap (λ (t : ℚ). t +ℚ sum qo (size (suc n)) (λ k. g (start n + k))) (by_number n size start g e (λ i l. h i (omega arith)))
