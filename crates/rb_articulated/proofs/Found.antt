-- From the root on, the accelerations that are found are those of a solution.
use Rattle.std.proofs.Common.{◌≡◌, ℕ, zero, suc, ◌+◌, ◌<◌, ◌≤◌, pos, [], ◌∷◌, refl, sym, ◌∙◌, ap, arith}
use Rattle.rb_frac.specs.Frac.{Frac, Same, fracs, quot}
use Rattle.rb_frac.specs.Spatial.{Motion, Spatials}
use Rattle.rb_frac.proofs.Ring.{var, eone, times, minus}
use Rattle.rb_frac.proofs.Vec.{nth}
use Rattle.rb_frac.proofs.Combine.{combine}
use Rattle.rb_frac.proofs.Rational.{ℚ, ◌+ℚ◌, ◌*ℚ◌, neg_ℚ, 0ℚ, 1ℚ, inv, rats, cls, sound, exact, cls_of_quot, null-cls, mul_inv}
use Rattle.rb_num.specs.Arith.{fractions}
use Rattle.rb_spatial.proofs.Identities.{apply-in_body}
use Rattle.rb_flat.specs.Shape.{Shape, HasBody, ParentsComeFirst}
use Rattle.rb_flat.specs.Mechanism.{Mechanism}
use Rattle.rb_flat.specs.Dynamics.{Unknowns, Moves, no_force}
use Rattle.rb_flat.proofs.Equality.{same_fractions, spatials_refl, spatials_sym, spatials_trans, plus_same, scaled_same, in_body_same}
use Rattle.rb_flat.proofs.Powers.{power}
use Rattle.rb_composite.specs.Composite.{HasJointColumn}
use Rattle.rb_composite.proofs.Forms.{power-same_first}
use Rattle.rb_articulated.specs.Rules.{less_power}
use Rattle.rb_articulated.specs.Articulated.{Articulated, Accelerated, columns, AreArticulated, AreAccelerated}
use Rattle.rb_articulated.specs.Laws.{AllLead, AreSameAccelerations}
use Rattle.rb_articulated.proofs.Rules.{and_multiple-plus, cls-less_power}
use Rattle.rb_articulated.proofs.Borne.{IsBalanced}
use Rattle.rb_articulated.proofs.Moving.{motion_at, motion_next, motion_first, motion_last}

-- ---- quotients
divided : (x d w v : ℚ) → x *ℚ d ≡ w → d *ℚ v ≡ 1ℚ → x ≡ w *ℚ v
divided x d w v h e =
    combine rats (nth 0ℚ (x ∷ d ∷ w ∷ v ∷ [])) (var 0) (times (var 2) (var 3))
    (record { by = var 3; left = times (var 0) (var 1); right = var 2 }
    ∷ record { by = minus (var 0); left = times (var 1) (var 3); right = eone } ∷ [])
    refl (h, (e, tt))

multiplied : (x d w v : ℚ) → x ≡ w *ℚ v → d *ℚ v ≡ 1ℚ → x *ℚ d ≡ w
multiplied x d w v h e =
    combine rats (nth 0ℚ (x ∷ d ∷ w ∷ v ∷ [])) (times (var 0) (var 1)) (var 2)
    (record { by = var 1; left = var 0; right = times (var 2) (var 3) }
    ∷ record { by = var 2; left = times (var 1) (var 3); right = eone } ∷ [])
    refl (h, (e, tt))

module _ (shape : Shape) (m : Mechanism Frac) (t : Articulated Frac) (d : Accelerated Frac) (acc : AreAccelerated shape m t d) (i k : ℕ)
    (col : HasJointColumn shape i k) (some : ¬ ((t.D i k).num ≡ pos 0)) (z : Motion Frac) (same : Spatials Same z (d.y i k)) where
  inverse : cls (t.D i k) *ℚ inv (cls (t.D i k)) ≡ 1ℚ
  inverse = mul_inv (cls (t.D i k)) (λ e. some (null-cls (t.D i k) e))

  abbrev left : ℚ
  left = cls (t.u i k) +ℚ neg_ℚ (power z (t.U i k))

  found : cls (d.x i k) ≡ left *ℚ inv (cls (t.D i k))
  found =
      let w = less_power fractions (t.u i k) (d.y i k) (t.U i k) in
      sound (d.x i k) (quot w (t.D i k)) (acc.rates i k col)
      ∙ cls_of_quot w (t.D i k)
      ∙ ap (λ (r : ℚ). r *ℚ inv (cls (t.D i k)))
      (cls-less_power (t.u i k) (d.y i k) (t.U i k)
      ∙ ap (λ (r : ℚ). cls (t.u i k) +ℚ neg_ℚ r) (power-same_first (t.U i k) (spatials_sym same_fractions same)))

  -- a column's acceleration is the one that is found exactly where it is what its torque leaves
  pub found_balanced : (x : Frac) → Same x (d.x i k) → IsBalanced t i k z x
  found_balanced x e = multiplied (cls x) (cls (t.D i k)) left (inv (cls (t.D i k))) (sound x (d.x i k) e ∙ found) inverse

  pub balanced_found : (x : Frac) → IsBalanced t i k z x → Same x (d.x i k)
  balanced_found x h = exact x (d.x i k) (divided (cls x) (cls (t.D i k)) left (inv (cls (t.D i k))) h inverse ∙ sym found)

-- ---- from the root on
module _ (shape : Shape) (m : Mechanism Frac) (t : Articulated Frac) (s : Unknowns Frac) (parents : ParentsComeFirst shape) (lead : AllLead shape)
    (art : AreArticulated shape m t) (moves : Moves fracs shape m Same (no_force fracs) s) (d : Accelerated Frac) (acc : AreAccelerated shape m t d) where
  abbrev at : ℕ → ℕ → Motion Frac
  at = motion_at shape m t s parents lead art moves

  abbrev rate : ℕ → ℕ → Frac
  rate i k = s.joint_acceleration (shape.first_column i + k)

  module _ (same_rate : (i k : ℕ) → HasJointColumn shape i k → Spatials Same (motion_at shape m t s parents lead art moves i k) (d.y i k) → Same (s.joint_acceleration (shape.first_column i + k)) (d.x i k)) where
    parts_same : (i : ℕ) → HasBody shape i → Spatials Same (s.acceleration (shape.parent i)) (d.a (shape.parent i))
        → (k : ℕ) → k ≤ columns shape m i → Spatials Same (at i k) (d.y i k)
    parts_same i there up zero l =
        spatials_trans same_fractions (motion_first shape m t s parents lead art moves i)
        (spatials_trans same_fractions
        (plus_same same_fractions
        (spatials_trans same_fractions (in_body_same same_fractions (m.place i) up) (spatials_sym same_fractions (apply-in_body (m.place i) (d.a (shape.parent i)))))
        (spatials_refl same_fractions (t.c i)))
        (spatials_sym same_fractions (acc.starts i there)))
    parts_same i there up (suc k) l =
        let col : HasJointColumn shape i k = record { there = there; below = omega arith } in
        let before = parts_same i there up k (omega arith) in
        spatials_trans same_fractions (motion_next shape m t s parents lead art moves i k)
        (spatials_trans same_fractions
        (plus_same same_fractions before (scaled_same same_fractions (same_rate i k col before) (spatials_refl same_fractions (m.column i k))))
        (spatials_sym same_fractions
        (spatials_trans same_fractions (acc.parts i k col) (and_multiple-plus (d.y i k) (m.column i k) (d.x i k)))))

    acceleration_within : (n i : ℕ) → i < n → i ≤ shape.bodies → Spatials Same (s.acceleration i) (d.a i)
    acceleration_within zero i l h = absurd (omega arith)
    acceleration_within (suc n) zero l h = spatials_trans same_fractions moves.world_acceleration (spatials_sym same_fractions acc.world)
    acceleration_within (suc n) (suc j) l h =
        let there : HasBody shape (suc j) = record { from = omega arith; to = h } in
        let b : shape.parent (suc j) < suc j = parents (suc j) there in
        spatials_trans same_fractions (motion_last shape m t s parents lead art moves (suc j) there)
        (spatials_trans same_fractions
        (parts_same (suc j) there (acceleration_within n (shape.parent (suc j)) (omega arith) (omega arith)) (columns shape m (suc j)) (omega arith))
        (spatials_sym same_fractions (acc.ends (suc j) there)))

    pub accelerations_same : (i : ℕ) → i ≤ shape.bodies → Spatials Same (s.acceleration i) (d.a i)
    accelerations_same i h = acceleration_within (suc i) i (omega arith) h

    pub partly_same : (i k : ℕ) → HasJointColumn shape i k → Spatials Same (motion_at shape m t s parents lead art moves i k) (d.y i k)
    partly_same i k col =
        let there : HasBody shape i = col.there in
        let to : i ≤ shape.bodies = there.to in
        let b : shape.parent i < i = parents i there in
        parts_same i there (accelerations_same (shape.parent i) (omega (arith, to, b))) k (omega (arith, col.below))

    pub found_accelerations : AreSameAccelerations shape s d
    found_accelerations = record { bodies = accelerations_same; joints = λ i k col. same_rate i k col (partly_same i k col) }
