-- The power, at one motion, of the force that an inertia needs for another: a symmetric form, additive in its motions and in its inertia.
use Rattle.std.proofs.Common.{◌≡◌, ℕ, zero, suc, [], ◌∷◌, refl, sym, ◌∙◌, ap}
use mathlib.Core.Path.{ap₂}
use Rattle.rb_frac.specs.Ops.{V3, signs, vadd, vscale, vdot, vcross}
use Rattle.rb_frac.specs.Pairs.{dot}
use Rattle.rb_frac.specs.Frac.{Frac, Same, fracs}
use Rattle.rb_frac.specs.Tables.{Table, Symmetric, Vectors, Tables, Symmetrics, nothing, table_times, table_sum, table_scaled, outer}
use Rattle.rb_frac.specs.Spatial.{Spatial, Motion, Place, Inertia, Spatials, Inertias}
use Rattle.rb_frac.specs.Mechanics.{plus, in_body, power_of, newton, euler, needed, body_of, parallel_axes, symmetric_sum}
use Rattle.rb_frac.proofs.Ring.{Expr, expr, var}
use Rattle.rb_frac.proofs.Rational.{ℚ, ◌+ℚ◌, 0ℚ, qo, cls, sound, cls-zero}
use Rattle.rb_frac.proofs.Hom.{frac_ring}
use Rattle.rb_frac.proofs.Sums.{sum}
use Rattle.rb_frac.proofs.Variables.{vector, symmetric, spatial, of_vector, of_symmetric, of_spatial, at}
use Rattle.rb_num.specs.Arith.{fractions}
use Rattle.rb_num.proofs.Bridges.{Agree, expressions, to_same}
use Rattle.rb_spatial.specs.Motions.{apply, apply_dual, power as rule_power}
use Rattle.rb_spatial.specs.Inertias.{mul_both, table, times, sum as sum_of_two}
use Rattle.rb_spatial.specs.Carrying.{carry}
use Rattle.rb_spatial.proofs.Keep.{power_met, times_met}
use Rattle.rb_spatial.proofs.Identities.{apply-in_body, apply_dual-in_parent, power-sum as power-rule, times-symmetric, carry-congruence, sum-additive}
use Rattle.rb_flat.specs.Dynamics.{none}
use Rattle.rb_flat.proofs.Powers.{power, power-swap, power-same, power-plus, power-none, power-dual}
use Rattle.rb_composite.specs.Composite.{no_inertia, inertia_sum}

-- ---- powers
-- the rule's power is that of the equations
pub power-by_rule : (a f : Spatial Frac) → cls (rule_power fractions a f) ≡ power a f
unfolding power
power-by_rule a f = sound (rule_power fractions a f) (power_of fracs a f) (power-rule a f)

-- a force carried to the parent
pub power-carried : (x : Place Frac) (a f : Spatial Frac) → power a (apply_dual fractions x f) ≡ power (in_body fracs x a) f
power-carried x a f = power-same a (apply_dual-in_parent x f) ∙ sym (power-dual x a f)

pub power-same_first : {a b : Spatial Frac} (f : Spatial Frac) → Spatials Same a b → power a f ≡ power b f
power-same_first {a} {b} f h = power-swap a f ∙ power-same f h ∙ power-swap f b

pub power-plus_first : (a b f : Spatial Frac) → power (plus fracs a b) f ≡ power a f +ℚ power b f
power-plus_first a b f = power-swap (plus fracs a b) f ∙ power-plus f a b ∙ ap₂ ◌+ℚ◌ (power-swap f a) (power-swap f b)

pub power-none_first : (f : Spatial Frac) → power (none fracs) f ≡ 0ℚ
power-none_first f = power-swap (none fracs) f ∙ power-none f

-- ---- the form
pub form : Inertia Frac → Motion Frac → Motion Frac → ℚ
form i a b = power a (times fractions i b)

pub form_is : (i : Inertia Frac) (a b : Motion Frac) → form i a b ≡ power a (times fractions i b)
unfolding form
form_is i a b = refl

pub form-swap : (i : Inertia Frac) (a b : Motion Frac) → form i a b ≡ form i b a
unfolding form
form-swap i a b =
    sym (power-by_rule a (times fractions i b))
    ∙ sound (rule_power fractions a (times fractions i b)) (rule_power fractions b (times fractions i a)) (times-symmetric i a b)
    ∙ power-by_rule b (times fractions i a)

pub form-same : (i : Inertia Frac) {a a' : Motion Frac} (b : Motion Frac) → Spatials Same a a' → form i a b ≡ form i a' b
unfolding form
form-same i b h = power-same_first (times fractions i b) h

pub form-same_second : (i : Inertia Frac) (a : Motion Frac) {b b' : Motion Frac} → Spatials Same b b' → form i a b ≡ form i a b'
form-same_second i a {b} {b'} h = form-swap i a b ∙ form-same i a h ∙ form-swap i b' a

pub form-plus : (i : Inertia Frac) (a a' b : Motion Frac) → form i (plus fracs a a') b ≡ form i a b +ℚ form i a' b
unfolding form
form-plus i a a' b = power-plus_first a a' (times fractions i b)

pub form-plus_second : (i : Inertia Frac) (a b b' : Motion Frac) → form i a (plus fracs b b') ≡ form i a b +ℚ form i a b'
form-plus_second i a b b' =
    form-swap i a (plus fracs b b') ∙ form-plus i b b' a ∙ ap₂ ◌+ℚ◌ (form-swap i b a) (form-swap i b' a)

pub form-none : (i : Inertia Frac) (b : Motion Frac) → form i (none fracs) b ≡ 0ℚ
unfolding form
form-none i b = power-none_first (times fractions i b)

-- ---- in the inertia
-- two fractions are the same number
abbrev Equal : Frac → Frac → Type 0
Equal = Agree cls cls

vector_sound : {u v : V3 Frac} → Vectors Same u v → Vectors Equal u v
vector_sound {u} {v} h =
    record { x = record { is = sound u.x v.x h.x }; y = record { is = sound u.y v.y h.y }; z = record { is = sound u.z v.z h.z } }

table_sound : {s t : Table Frac} → Tables Same s t → Tables Equal s t
table_sound h = record { x = vector_sound h.x; y = vector_sound h.y; z = vector_sound h.z }

symmetric_sound : {s t : Symmetric Frac} → Symmetrics Same s t → Symmetrics Equal s t
symmetric_sound {s} {t} h = record {
  xx = record { is = sound s.xx t.xx h.xx };
  xy = record { is = sound s.xy t.xy h.xy };
  xz = record { is = sound s.xz t.xz h.xz };
  yy = record { is = sound s.yy t.yy h.yy };
  yz = record { is = sound s.yz t.yz h.yz };
  zz = record { is = sound s.zz t.zz h.zz };
}

vector_equal : (v : V3 Frac) → Vectors Equal v v
vector_equal v = record { x = record { is = refl }; y = record { is = refl }; z = record { is = refl } }

spatial_equal : (m : Spatial Frac) → Spatials Equal m m
spatial_equal m = record { lin = vector_equal m.lin; ang = vector_equal m.ang }

pub form-same_inertia : {i j : Inertia Frac} (a b : Motion Frac) → Inertias Same i j → form i a b ≡ form j a b
unfolding form
form-same_inertia {i} {j} a b h =
    let e : Inertias Equal i j = record { a = symmetric_sound h.a; b = table_sound h.b; c = symmetric_sound h.c } in
    sym (power-by_rule a (times fractions i b))
    ∙ (power_met to_same (spatial_equal a) (times_met to_same e (spatial_equal b)).met).met.is
    ∙ power-by_rule a (times fractions j b)

pub form-sum_of_two : (i j : Inertia Frac) (a b : Motion Frac) → form (sum_of_two fractions i j) a b ≡ form i a b +ℚ form j a b
unfolding form
form-sum_of_two i j a b = power-same a (sum-additive i j b) ∙ power-plus a (times fractions i b) (times fractions j b)

pub form-carry : (x : Place Frac) (i : Inertia Frac) (a b : Motion Frac) → form (carry fractions x i) a b ≡ form i (in_body fracs x a) (in_body fracs x b)
unfolding form
form-carry x i a b =
    power-same a (carry-congruence x i b)
    ∙ power-carried x a (times fractions i (apply fractions x b))
    ∙ sym (form_is i (in_body fracs x a) (apply fractions x b))
    ∙ form-same_second i (in_body fracs x a) (apply-in_body x b)
    ∙ form_is i (in_body fracs x a) (in_body fracs x b)

abbrev no_expressions : Inertia Expr
no_expressions =
    let o = nothing (signs expr) in
    let s : Symmetric Expr = record { xx = expr.nul; xy = expr.nul; xz = expr.nul; yy = expr.nul; yz = expr.nul; zz = expr.nul } in
    record { a = s; b = record { x = o; y = o; z = o }; c = s }

pub form-no_inertia : (a b : Motion Frac) → form no_inertia a b ≡ 0ℚ
unfolding form power power_of times mul_both dot vdot
form-no_inertia a b =
    sound (power_of fracs a (times fractions no_inertia b)) fracs.nul
    (frac_ring (at (of_spatial a (of_spatial b []))) (power_of expr (spatial 0) (times expressions no_expressions (spatial 6))) expr.nul refl)
    ∙ cls-zero

pub form-inertia_sum : (n : ℕ) (f : ℕ → Inertia Frac) (a b : Motion Frac) → form (inertia_sum n f) a b ≡ sum qo n (λ k. form (f k) a b)
unfolding inertia_sum sum
form-inertia_sum zero f a b = form-no_inertia a b
form-inertia_sum (suc n) f a b =
    form-sum_of_two (inertia_sum n f) (f n) a b ∙ ap (λ t. t +ℚ form (f n) a b) (form-inertia_sum n f a b)

-- what a body at rest needs is what the table of its inertia about the origin makes of the acceleration
pub power-at_rest : (m : Frac) (c : V3 Frac) (ic : Symmetric Frac) (a b : Motion Frac) → power a (needed fracs m c ic (none fracs) b) ≡ form (table fractions (body_of fracs m c ic)) a b
unfolding form power power_of needed newton euler body_of parallel_axes symmetric_sum table times mul_both dot table_times table_sum table_scaled outer vadd vscale vdot vcross
power-at_rest m c ic a b =
    sound (power_of fracs a (needed fracs m c ic (none fracs) b)) (power_of fracs a (times fractions (table fractions (body_of fracs m c ic)) b))
    (frac_ring (at (m ∷ of_vector c (of_symmetric ic (of_spatial a (of_spatial b [])))))
    (power_of expr (spatial 10) (needed expr (var 0) (vector 1) (symmetric 4) (none expr) (spatial 16)))
    (power_of expr (spatial 10) (times expressions (table expressions (body_of expr (var 0) (vector 1) (symmetric 4))) (spatial 16)))
    refl)
