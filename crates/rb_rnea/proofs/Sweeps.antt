-- A sweep that adds, step by step, what a sum adds.
use Rattle.std.proofs.Common.{◌≡◌, ℕ, zero, suc, ◌+◌, ◌<◌, ◌≤◌, [], ◌∷◌, Result, Ok, refl, subst, arith}
use Rattle.rb_sweep.specs.Sweep.{sweep, counting_up, counting_down}
use Rattle.rb_frac.specs.Ops.{sum, vadd}
use Rattle.rb_frac.specs.Frac.{Frac, Same, fracs, add}
use Rattle.rb_frac.specs.Spatial.{Spatial, Spatials}
use Rattle.rb_frac.specs.Mechanics.{plus}
use Rattle.rb_frac.proofs.Ring.{expr, var}
use Rattle.rb_frac.proofs.Hom.{frac_ring}
use Rattle.rb_frac.proofs.Variables.{spatial, of_spatial, at, identity}
use Rattle.rb_num.specs.declared.interval.NumFault.{NumFault}
use Rattle.rb_num.specs.Interval.{Interval}
use Rattle.rb_num.specs.Fraction.{LiesIn}
use Rattle.rb_num.proofs.Same.{lies_in_same}
use Rattle.rb_flat.specs.Dynamics.{none, spatial_sum}
use Rattle.rb_flat.proofs.Equality.{same_fractions, spatials_refl, spatials_sym, spatials_trans, plus_same}
use Rattle.rb_joint.proofs.JointMotionLies.{spatials_same}
use Rattle.rb_rnea.proofs.Enclosed.{SpatialWithin, NumberWithin, then_lies, spatial_same}

-- ---- sums
pub plus-none : (x : Spatial Frac) → Spatials Same (plus fracs x (none fracs)) x
unfolding plus vadd
plus-none x = identity (of_spatial x []) (plus expr (spatial 0) (none expr)) (spatial 0) (refl, refl, refl) (refl, refl, refl)

pub plus-last : (x y z : Spatial Frac) → Spatials Same (plus fracs (plus fracs x y) z) (plus fracs x (plus fracs z y))
unfolding plus vadd
plus-last x y z =
    identity (of_spatial x (of_spatial y (of_spatial z [])))
    (plus expr (plus expr (spatial 0) (spatial 6)) (spatial 12))
    (plus expr (spatial 0) (plus expr (spatial 12) (spatial 6)))
    (refl, refl, refl) (refl, refl, refl)

add-assoc : (x y z : Frac) → Same (add (add x y) z) (add x (add y z))
add-assoc x y z =
    frac_ring (at (x ∷ y ∷ z ∷ [])) (expr.add (expr.add (var 0) (var 1)) (var 2)) (expr.add (var 0) (expr.add (var 1) (var 2))) refl

pub add-nul : (x : Frac) → Same x (add x fracs.nul)
add-nul x = frac_ring (at (x ∷ [])) (var 0) (expr.add (var 0) expr.nul) refl

-- nothing is added before n
pub none_early : (h : ℕ → Spatial Frac) (n : ℕ) → ((k : ℕ) → k < n → Spatials Same (h k) (none fracs)) → Spatials Same (spatial_sum fracs n h) (none fracs)
unfolding spatial_sum
none_early h zero early = spatials_refl same_fractions (none fracs)
none_early h (suc n) early =
    spatials_trans same_fractions
    (plus_same same_fractions (none_early h n (λ k l. early k (omega arith))) (early n (omega arith)))
    (plus-none (none fracs))

-- ---- motions and forces, descending to i, before which the sum adds nothing
module _ (step : ℕ → Spatial Interval → Result (Spatial Interval) NumFault) (h : ℕ → Spatial Frac) where
  pub added_down : (i n : ℕ) → Spatials Same (spatial_sum fracs i h) (none fracs)
      → ((k : ℕ) → i ≤ k → k < i + n → (x : Spatial Frac) (v : Spatial Interval) → Spatials LiesIn x v → SpatialWithin (plus fracs x (h k)) (step (suc k) v))
      → (x : Spatial Frac) (v : Spatial Interval) → Spatials LiesIn x v
      → SpatialWithin (plus fracs x (spatial_sum fracs (i + n) h)) (sweep step (counting_down (suc i) n) v)
  unfolding spatial_sum
  added_down i zero early here x v l =
      let e : i ≡ i + 0 = omega arith in
      subst (λ (k : ℕ). SpatialWithin (plus fracs x (spatial_sum fracs k h)) (Ok v)) e
      (record { met = spatials_same (spatials_sym same_fractions (spatials_trans same_fractions (plus_same same_fractions (spatials_refl same_fractions x) early) (plus-none x))) l })
  added_down i (suc n) early here x v l =
      let e : suc (i + n) ≡ i + suc n = omega arith in
      let e' : suc (i + n) ≡ suc i + n = omega arith in
      subst (λ (k : ℕ). SpatialWithin (plus fracs x (spatial_sum fracs k h)) (sweep step (counting_down (suc i) (suc n)) v)) e
      (subst (λ (k : ℕ). SpatialWithin (plus fracs x (spatial_sum fracs (suc (i + n)) h)) (sweep step (k ∷ counting_down (suc i) n) v)) e'
      (then_lies (here (i + n) (omega arith) (omega arith) x v l) (λ t lt.
      spatial_same (plus-last x (h (i + n)) (spatial_sum fracs (i + n) h))
      (added_down i n early (λ k g b. here k g (omega arith)) (plus fracs x (h (i + n))) t lt))))

-- ---- numbers, ascending
module _ (step : ℕ → Interval → Result Interval NumFault) (h : ℕ → Frac) where
  more_up : (i n : ℕ)
      → ((k : ℕ) → k < i + n → (x : Frac) (v : Interval) → LiesIn x v → NumberWithin (add x (h k)) (step (suc k) v))
      → (x : Frac) (v : Interval) → LiesIn (add x (sum fracs i h)) v
      → NumberWithin (add x (sum fracs (i + n) h)) (sweep step (counting_up (suc i) n) v)
  unfolding sum
  more_up i zero here x v l =
      let e : i ≡ i + 0 = omega arith in
      record { met = subst (λ (k : ℕ). LiesIn (add x (sum fracs k h)) v) e l }
  more_up i (suc n) here x v l =
      let e : suc i + n ≡ i + suc n = omega arith in
      let e' : suc (suc i) ≡ suc i + 1 = omega arith in
      subst (λ (k : ℕ). NumberWithin (add x (sum fracs k h)) (sweep step (counting_up (suc i) (suc n)) v)) e
      (subst (λ (k : ℕ). NumberWithin (add x (sum fracs (suc i + n) h)) (sweep step (suc i ∷ counting_up k n) v)) e'
      (then_lies (here i (omega arith) (add x (sum fracs i h)) v l) (λ t lt.
      more_up (suc i) n (λ k b. here k (omega arith)) x t
      (lies_in_same (add (add x (sum fracs i h)) (h i)) (add x (add (sum fracs i h) (h i))) t (add-assoc x (sum fracs i h) (h i)) lt))))

  pub added_up : (n : ℕ)
      → ((k : ℕ) → k < n → (x : Frac) (v : Interval) → LiesIn x v → NumberWithin (add x (h k)) (step (suc k) v))
      → (x : Frac) (v : Interval) → LiesIn x v
      → NumberWithin (add x (sum fracs n h)) (sweep step (counting_up 1 n) v)
  unfolding sum
  added_up n here x v l =
      let e : 0 + n ≡ n = omega arith in
      subst (λ (k : ℕ). NumberWithin (add x (sum fracs k h)) (sweep step (counting_up 1 n) v)) e
      (more_up 0 n (λ k b. here k (omega arith)) x v (lies_in_same x (add x fracs.nul) v (add-nul x) l))
