-- The power of a force at a motion, as a rational number, and finite sums of which few terms are not zero.
use Rattle.std.proofs.Common.{◌≡◌, ℕ, zero, suc, ◌<◌, ◌==◌, Bool, true, false, [], ◌∷◌, refl, ◌∙◌, ap, arith}
use Rattle.rb_frac.specs.Ops.{V3, vadd, vscale, vdot, vcross}
use Rattle.rb_frac.specs.Frac.{Frac, Same, fracs, add, mul}
use Rattle.rb_frac.specs.Tables.{Symmetric, table_times}
use Rattle.rb_frac.specs.Spatial.{Spatial, Motion, Place, Spatials}
use Rattle.rb_frac.specs.Mechanics.{plus, scaled, in_body, in_parent, power_of, newton, euler, needed}
use Rattle.rb_frac.proofs.Ring.{Expr, expr, var}
use Rattle.rb_frac.proofs.Rational.{ℚ, ◌+ℚ◌, ◌*ℚ◌, 0ℚ, qo, rats, cls, sound, cls-zero, add_comm, add_nul}
use Rattle.rb_frac.proofs.Hom.{frac_ring, cls_of_add, cls_of_mul}
use Rattle.rb_frac.proofs.Sums.{sum, sum_ext, sum-nul}
use Rattle.rb_frac.proofs.Variables.{vector, symmetric, spatial, place, of_vector, of_symmetric, of_spatial, of_place, at}
use Rattle.rb_flat.specs.Dynamics.{none, spatial_sum}
use Rattle.rb_flat.proofs.Equality.{same_fractions, power_same}

-- ---- sums
-- zero everywhere
pub sum_none : (n : ℕ) (f : ℕ → ℚ) → ((k : ℕ) → k < n → f k ≡ 0ℚ) → sum qo n f ≡ 0ℚ
sum_none n f h = sum_ext qo n f (λ k. 0ℚ) h ∙ sum-nul rats n

-- zero but at one place
pub sum_one : (n j : ℕ) (f : ℕ → ℚ) → j < n → ((k : ℕ) → k < n → (k == j) ≡ false → f k ≡ 0ℚ) → sum qo n f ≡ f j
unfolding sum
sum_one zero j f l h = absurd (omega arith)
sum_one (suc n) j f l h = go (n == j) refl (λ b. sum_one n j f b (λ k r e. h k (omega arith) e))
  where
    go : (b : Bool) → (n == j) ≡ b → (j < n → sum qo n f ≡ f j) → sum qo n f +ℚ f n ≡ f j
    go true e ih =
        let same : n ≡ j = grind arith in
        ap (λ t. t +ℚ f n) (sum_none n f (λ k r. h k (omega arith) (differs k r))) ∙ add_comm 0ℚ (f n) ∙ add_nul (f n) ∙ ap f same
      where
        differs : (k : ℕ) → k < n → (k == j) ≡ false
        differs k r = grind arith
    go false e ih =
        let less : j < n = grind arith in
        ap (λ t. sum qo n f +ℚ t) (h n (omega arith) e) ∙ add_nul (sum qo n f) ∙ ih less

-- ---- powers
unfoldable pub power : Spatial Frac → Spatial Frac → ℚ
power a b = cls (power_of fracs a b)

pub power-swap : (a b : Spatial Frac) → power a b ≡ power b a
unfolding power power_of vdot
power-swap a b =
    sound (power_of fracs a b) (power_of fracs b a) (frac_ring (at (of_spatial a (of_spatial b []))) (power_of expr (spatial 0) (spatial 6)) (power_of expr (spatial 6) (spatial 0)) refl)

pub power-same : (a : Spatial Frac) {b b' : Spatial Frac} → Spatials Same b b' → power a b ≡ power a b'
unfolding power
power-same a {b} {b'} h = sound (power_of fracs a b) (power_of fracs a b') (power_same same_fractions a h)

pub power-plus : (a b c : Spatial Frac) → power a (plus fracs b c) ≡ power a b +ℚ power a c
unfolding power power_of plus vadd vdot
power-plus a b c =
    sound (power_of fracs a (plus fracs b c)) (add (power_of fracs a b) (power_of fracs a c))
    (frac_ring (at (of_spatial a (of_spatial b (of_spatial c []))))
    (power_of expr (spatial 0) (plus expr (spatial 6) (spatial 12)))
    (expr.add (power_of expr (spatial 0) (spatial 6)) (power_of expr (spatial 0) (spatial 12)))
    refl)
    ∙ cls_of_add (power_of fracs a b) (power_of fracs a c)

pub power-none : (a : Spatial Frac) → power a (none fracs) ≡ 0ℚ
unfolding power power_of vdot
power-none a =
    sound (power_of fracs a (none fracs)) fracs.nul (frac_ring (at (of_spatial a [])) (power_of expr (spatial 0) (none expr)) expr.nul refl) ∙ cls-zero

pub power-scaled : (k : Frac) (a b : Spatial Frac) → power b (scaled fracs k a) ≡ cls k *ℚ power b a
unfolding power power_of scaled vscale vdot
power-scaled k a b =
    sound (power_of fracs b (scaled fracs k a)) (mul k (power_of fracs b a))
    (frac_ring (at (k ∷ of_spatial a (of_spatial b [])))
    (power_of expr (spatial 7) (scaled expr (var 0) (spatial 1)))
    (expr.mul (var 0) (power_of expr (spatial 7) (spatial 1)))
    refl)
    ∙ cls_of_mul k (power_of fracs b a)

pub power-sum : (a : Spatial Frac) (n : ℕ) (f : ℕ → Spatial Frac) → power a (spatial_sum fracs n f) ≡ sum qo n (λ k. power a (f k))
unfolding spatial_sum sum
power-sum a zero f = power-none a
power-sum a (suc n) f = power-plus a (spatial_sum fracs n f) (f n) ∙ ap (λ t. t +ℚ power a (f n)) (power-sum a n f)

-- a force has the same power in the body and in the parent
pub power-dual : (x : Place Frac) (a f : Spatial Frac) → power (in_body fracs x a) f ≡ power a (in_parent fracs x f)
unfolding power power_of in_body in_parent table_times vadd vdot vcross
power-dual x a f =
    sound (power_of fracs (in_body fracs x a) f) (power_of fracs a (in_parent fracs x f))
    (frac_ring (at (of_place x (of_spatial a (of_spatial f []))))
    (power_of expr (in_body expr (place 0) (spatial 12)) (spatial 18))
    (power_of expr (spatial 12) (in_parent expr (place 0) (spatial 18)))
    refl)

-- what a body at rest needs is symmetric
pub power-needed : (m : Frac) (c : V3 Frac) (ic : Symmetric Frac) (a b : Motion Frac) → power a (needed fracs m c ic (none fracs) b) ≡ power b (needed fracs m c ic (none fracs) a)
unfolding power power_of needed newton euler table_times vadd vscale vdot vcross
power-needed m c ic a b =
    let need = λ (v : Motion Expr). needed expr (var 0) (vector 1) (symmetric 4) (none expr) v in
    sound (power_of fracs a (needed fracs m c ic (none fracs) b)) (power_of fracs b (needed fracs m c ic (none fracs) a))
    (frac_ring (at (m ∷ of_vector c (of_symmetric ic (of_spatial a (of_spatial b [])))))
    (power_of expr (spatial 10) (need (spatial 16)))
    (power_of expr (spatial 16) (need (spatial 10)))
    refl)
