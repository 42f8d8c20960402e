-- Linear functions of motions, as the power of a force, and what they make of the motion over a joint.
use Rattle.std.proofs.Common.{◌≡◌, ℕ, ◌+◌, Bool, true, false, if◌then◌else◌, refl, sym, ◌∙◌, ap}
use mathlib.Core.Path.{ap₂}
use Rattle.rb_frac.specs.Frac.{Frac, fracs}
use Rattle.rb_frac.specs.Spatial.{Motion, Force}
use Rattle.rb_frac.specs.Mechanics.{scaled}
use Rattle.rb_frac.proofs.Ring.{mul_nul}
use Rattle.rb_frac.proofs.Rational.{ℚ, ◌+ℚ◌, ◌*ℚ◌, neg_ℚ, 0ℚ, qo, rats, cls}
use Rattle.rb_frac.proofs.Sums.{sum, sum_ext, sum-add, sum-mul, sum-neg, sum-nul, sum_swap}
use Rattle.rb_frac.proofs.Quote.{with2, finish, quote}
use Rattle.rb_flat.specs.Shape.{Shape}
use Rattle.rb_flat.specs.Joint.{column_count}
use Rattle.rb_flat.specs.Mechanism.{Mechanism}
use Rattle.rb_flat.specs.Dynamics.{spatial_sum, followed, joint_motion}
use Rattle.rb_flat.proofs.Powers.{power, power-swap, power-scaled, power-sum}

pub record IsLinear (φ : Motion Frac → ℚ) : Type 0 where
  pub sums : (n : ℕ) (f : ℕ → Motion Frac) → φ (spatial_sum fracs n f) ≡ sum qo n (λ k. φ (f k))
  pub multiples : (k : Frac) (a : Motion Frac) → φ (scaled fracs k a) ≡ cls k *ℚ φ a

pub linear-power : (f : Force Frac) → IsLinear (λ a. power a f)
linear-power f = record {
  sums = λ n g. power-swap (spatial_sum fracs n g) f ∙ power-sum f n g ∙ sum_ext qo n _ _ (λ k l. power-swap f (g k));
  multiples = λ k a. power-swap (scaled fracs k a) f ∙ power-scaled k a f ∙ ap (λ (t : ℚ). cls k *ℚ t) (power-swap f a);
}

pub linear-like : {φ ψ : Motion Frac → ℚ} → ((a : Motion Frac) → φ a ≡ ψ a) → IsLinear φ → IsLinear ψ
linear-like e h = record {
  sums = λ n f. sym (e (spatial_sum fracs n f)) ∙ h.sums n f ∙ sum_ext qo n _ _ (λ k l. e (f k));
  multiples = λ k a. sym (e (scaled fracs k a)) ∙ h.multiples k a ∙ ap (λ (t : ℚ). cls k *ℚ t) (e a);
}

pub linear-zero : IsLinear (λ a. 0ℚ)
linear-zero = record { sums = λ n f. sym (sum-nul rats n); multiples = λ k a. sym (mul_nul rats (cls k)) }

pub linear-if : (b : Bool) {φ : Motion Frac → ℚ} → IsLinear φ → IsLinear (λ a. if b then φ a else 0ℚ)
linear-if true h = h
linear-if false h = linear-zero

pub linear-add : {φ ψ : Motion Frac → ℚ} → IsLinear φ → IsLinear ψ → IsLinear (λ a. φ a +ℚ ψ a)
linear-add {φ} {ψ} h k = record {
  sums = λ n f. ap₂ ◌+ℚ◌ (h.sums n f) (k.sums n f) ∙ sym (sum-add rats n (λ i. φ (f i)) (λ i. ψ (f i)));
  multiples = λ x a. ap₂ ◌+ℚ◌ (h.multiples x a) (k.multiples x a) ∙ sym (rats.mul_add (cls x) (φ a) (ψ a));
}

out : (x y : ℚ) → neg_ℚ (x *ℚ y) ≡ x *ℚ neg_ℚ y
out x y = with2 x y λ ρ a b. simp (a, b, quote) (finish ρ _ _ refl)

pub linear-neg : {φ : Motion Frac → ℚ} → IsLinear φ → IsLinear (λ a. neg_ℚ (φ a))
linear-neg {φ} h = record {
  sums = λ n f. ap neg_ℚ (h.sums n f) ∙ sym (sum-neg rats n (λ i. φ (f i)));
  multiples = λ x a. ap neg_ℚ (h.multiples x a) ∙ out (cls x) (φ a);
}

pub linear-sum : (n : ℕ) (φ : ℕ → Motion Frac → ℚ) → ((k : ℕ) → IsLinear (φ k)) → IsLinear (λ a. sum qo n (λ k. φ k a))
linear-sum n φ h = record {
  sums = λ m f. sum_ext qo n _ _ (λ k l. (h k).sums m f) ∙ sum_swap rats n m (λ k i. φ k (f i));
  multiples = λ x a. sum_ext qo n _ _ (λ k l. (h k).multiples x a) ∙ sum-mul rats n (cls x) (λ k. φ k a);
}

-- what it makes of the motion over a joint, column by column
pub over_joint : (shape : Shape) (m : Mechanism Frac) (rate : ℕ → Frac) (i : ℕ) {φ : Motion Frac → ℚ} → IsLinear φ
    → φ (joint_motion fracs shape m rate i)
    ≡ sum qo (column_count (shape.kind i)) (λ k. cls (followed fracs (shape.mimic i) (m.multiplier i) (rate (shape.first_column i + k))) *ℚ φ (m.column i k))
unfolding joint_motion
over_joint shape m rate i h =
    h.sums (column_count (shape.kind i)) (λ k. scaled fracs (followed fracs (shape.mimic i) (m.multiplier i) (rate (shape.first_column i + k))) (m.column i k))
    ∙ sum_ext qo (column_count (shape.kind i)) _ _ (λ k l. h.multiples (followed fracs (shape.mimic i) (m.multiplier i) (rate (shape.first_column i + k))) (m.column i k))
