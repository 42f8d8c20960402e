-- A force that an inertia needs for an acceleration, beside a bias: how a column gives way in it.
use Rattle.std.proofs.Common.{◌≡◌, ℕ, suc, ◌+◌, pos, sym, ◌∙◌, ap}
use mathlib.Core.Path.{ap₂}
use Rattle.rb_frac.specs.Frac.{Frac, Same, fracs, neg, quot}
use Rattle.rb_frac.specs.Spatial.{Motion, Force, Inertia, Spatials}
use Rattle.rb_frac.specs.Mechanics.{plus, scaled}
use Rattle.rb_frac.proofs.Rational.{ℚ, ◌+ℚ◌, ◌*ℚ◌, neg_ℚ, 1ℚ, inv, cls, sound, cls-one, cls_of_quot, null-cls, mul_comm_ℚ, mul_one, mul_inv}
use Rattle.rb_frac.proofs.Hom.{cls_of_neg}
use Rattle.rb_num.specs.Arith.{fractions}
use Rattle.rb_spatial.specs.Motions.{power as rule_power}
use Rattle.rb_spatial.specs.Inertias.{times, less_outer}
use Rattle.rb_spatial.proofs.Outer.{less_outer-times}
use Rattle.rb_flat.specs.Shape.{Shape}
use Rattle.rb_flat.specs.Mechanism.{Mechanism}
use Rattle.rb_flat.proofs.Equality.{same_fractions, spatials_sym, spatials_trans}
use Rattle.rb_flat.proofs.Powers.{power, power-swap, power-same, power-plus, power-scaled}
use Rattle.rb_composite.proofs.Forms.{power-by_rule, form, form_is, form-swap, form-same_second, form-plus_second, form-same_inertia}
use Rattle.rb_articulated.specs.Rules.{less_power}
use Rattle.rb_articulated.specs.Articulated.{Articulated, GivesWay}
use Rattle.rb_articulated.proofs.Rules.{and_multiple-plus, over-scaled, cls-less_power}
use Rattle.rb_articulated.proofs.Numbers.{balanced, torque_met, given_way}

-- ---- forms
pub form-scaled_second : (i : Inertia Frac) (a : Motion Frac) (k : Frac) (b : Motion Frac) → form i a (scaled fracs k b) ≡ cls k *ℚ form i a b
form-scaled_second i a k b =
    let f = times fractions i a in
    form-swap i a (scaled fracs k b) ∙ form_is i (scaled fracs k b) a
    ∙ power-swap (scaled fracs k b) f ∙ power-scaled k b f
    ∙ ap (λ (t : ℚ). cls k *ℚ t) (power-swap f b ∙ sym (form_is i b a) ∙ form-swap i b a)

form-less_outer : (i : Inertia Frac) (u w : Force Frac) (k : Frac) → Spatials Same w (scaled fracs k u) → (z y : Motion Frac)
    → form (less_outer fractions i u w) z y ≡ neg_ℚ (power y w) *ℚ power z u +ℚ form i z y
form-less_outer i u w k h z y =
    let n = neg (rule_power fractions y w) in
    form_is (less_outer fractions i u w) z y
    ∙ power-same z (less_outer-times i u w y k h)
    ∙ power-plus z (scaled fracs n u) (times fractions i y)
    ∙ ap₂ ◌+ℚ◌
    (power-scaled n u z ∙ ap (λ (t : ℚ). t *ℚ power z u) (cls_of_neg (rule_power fractions y w) ∙ ap neg_ℚ (power-by_rule y w)))
    (sym (form_is i z y))

-- ---- what is borne
-- at each motion z
pub record Bears (f : Force Frac) (i : Inertia Frac) (a : Motion Frac) (p : Force Frac) : Type 0 where
  pub at : (z : Motion Frac) → power z f ≡ form i z a +ℚ power z p

pub bears-same : {f : Force Frac} {i : Inertia Frac} {a b : Motion Frac} {p : Force Frac} → Spatials Same a b → Bears f i a p → Bears f i b p
bears-same {i = i} {p = p} e h = record { at = λ z. h.at z ∙ ap (λ (t : ℚ). t +ℚ power z p) (form-same_second i z e) }

-- the acceleration x of column k of body i is what the torque leaves, where y is the body's acceleration before it
abbrev pub IsBalanced : Articulated Frac → ℕ → ℕ → Motion Frac → Frac → Type 0
IsBalanced t i k y x = cls x *ℚ cls (t.D i k) ≡ cls (t.u i k) +ℚ neg_ℚ (power y (t.U i k))

-- column k of body i gives way: the accelerations before it and after it, and its own
module _ (shape : Shape) (m : Mechanism Frac) (t : Articulated Frac) (i k : ℕ) (g : GivesWay shape m t i k) (f : Force Frac) (y next : Motion Frac) (x : Frac)
    (after : Spatials Same next (plus fracs y (scaled fracs x (m.column i k)))) (bears : Bears f (t.IA i (suc k)) next (t.p i (suc k))) where
  abbrev axis : Motion Frac
  axis = m.column i k

  abbrev I : Inertia Frac
  I = t.IA i (suc k)

  abbrev U : Force Frac
  U = t.U i k

  abbrev torque : Frac
  torque = m.torque (shape.first_column i + k)

  at_axis : (z : Motion Frac) → form I z axis ≡ power z U
  at_axis z = form_is I z axis ∙ power-same z (spatials_sym same_fractions g.U)

  whole : (z : Motion Frac) → power z f ≡ (form I z y +ℚ cls x *ℚ power z U) +ℚ power z (t.p i (suc k))
  whole z =
      bears.at z
      ∙ ap (λ (r : ℚ). r +ℚ power z (t.p i (suc k)))
      (form-same_second I z after
      ∙ form-plus_second I z y (scaled fracs x axis)
      ∙ ap (λ (r : ℚ). form I z y +ℚ r) (form-scaled_second I z x axis ∙ ap (λ (r : ℚ). cls x *ℚ r) (at_axis z)))

  pivot : power axis U ≡ cls (t.D i k)
  pivot = sym (sound (t.D i k) (rule_power fractions axis U) g.D ∙ power-by_rule axis U)

  along : power axis f ≡ (power y U +ℚ cls x *ℚ cls (t.D i k)) +ℚ power axis (t.p i (suc k))
  along =
      whole axis
      ∙ ap₂ (λ (r q : ℚ). (r +ℚ cls x *ℚ q) +ℚ power axis (t.p i (suc k))) (form-swap I axis y ∙ at_axis y) pivot

  left : cls (t.u i k) ≡ cls torque +ℚ neg_ℚ (power axis (t.p i (suc k)))
  left = sound (t.u i k) (less_power fractions torque axis (t.p i (suc k))) g.u ∙ cls-less_power torque axis (t.p i (suc k))

  -- the torque is given, or the acceleration is
  pub is_balanced : power (m.column i k) f ≡ cls (m.torque (shape.first_column i + k)) → IsBalanced t i k y x
  is_balanced given = balanced (power axis f) (power y U) (cls x) (cls (t.D i k)) (power axis (t.p i (suc k))) (cls torque) (cls (t.u i k)) along left given

  pub has_torque : IsBalanced t i k y x → power (m.column i k) f ≡ cls (m.torque (shape.first_column i + k))
  has_torque balance = torque_met (power axis f) (power y U) (cls x) (cls (t.D i k)) (power axis (t.p i (suc k))) (cls torque) (cls (t.u i k)) along left balance

  abbrev v : Frac
  v = quot fracs.one (t.D i k)

  W-multiple : Spatials Same (t.W i k) (scaled fracs v U)
  W-multiple = spatials_trans same_fractions g.W (over-scaled U (t.D i k))

  W-power : (z : Motion Frac) → power z (t.W i k) ≡ cls v *ℚ power z U
  W-power z = power-same z W-multiple ∙ power-scaled v U z

  inverse : ¬ ((t.D i k).num ≡ pos 0) → cls v *ℚ cls (t.D i k) ≡ 1ℚ
  inverse some =
      ap (λ (r : ℚ). r *ℚ cls (t.D i k)) (cls_of_quot fracs.one (t.D i k) ∙ ap (λ (r : ℚ). r *ℚ inv (cls (t.D i k))) cls-one ∙ mul_comm_ℚ 1ℚ (inv (cls (t.D i k))) ∙ mul_one (inv (cls (t.D i k))))
      ∙ mul_comm_ℚ (inv (cls (t.D i k))) (cls (t.D i k))
      ∙ mul_inv (cls (t.D i k)) (λ e. some (null-cls (t.D i k) e))

  bias : (z : Motion Frac) → power z (t.p i k) ≡ power z (t.p i (suc k)) +ℚ cls (t.u i k) *ℚ power z (t.W i k)
  bias z =
      power-same z (spatials_trans same_fractions g.p (and_multiple-plus (t.p i (suc k)) (t.W i k) (t.u i k)))
      ∙ power-plus z (t.p i (suc k)) (scaled fracs (t.u i k) (t.W i k))
      ∙ ap (λ (r : ℚ). power z (t.p i (suc k)) +ℚ r) (power-scaled (t.u i k) (t.W i k) z)

  pub gives_way : ¬ ((t.D i k).num ≡ pos 0) → IsBalanced t i k y x → Bears f (t.IA i k) y (t.p i k)
  gives_way some balance = record {
    at = λ z.
        given_way (power z f) (form I z y) (cls x) (power z U) (power z (t.p i (suc k))) (form (t.IA i k) z y) (power z (t.p i k))
        (cls v) (cls (t.D i k)) (cls (t.u i k)) (power y U) (power y (t.W i k)) (power z (t.W i k))
        (whole z)
        (form-same_inertia z y g.IA ∙ form-less_outer I U (t.W i k) v W-multiple z y)
        (bias z) (W-power y) (W-power z) (inverse some) balance;
  }
