-- A body of a moving tree moves as its parent does, and then as column after column of its joint.
use Rattle.std.proofs.Common.{◌≡◌, ℕ, zero, suc, ◌+◌, ◌<◌, ◌≤◌, Option, [], refl, ap, subst, arith}
use Rattle.rb_frac.specs.Ops.{vadd}
use Rattle.rb_frac.specs.Frac.{Frac, Same, fracs}
use Rattle.rb_frac.specs.Spatial.{Spatial, Motion, Spatials}
use Rattle.rb_frac.specs.Mechanics.{plus, scaled, in_body, motion_product}
use Rattle.rb_frac.proofs.Ring.{expr}
use Rattle.rb_frac.proofs.Variables.{spatial, of_spatial, identity}
use Rattle.rb_spatial.proofs.Identities.{apply-in_body, cross-motion_product}
use Rattle.rb_flat.specs.Shape.{Shape, HasBody, ParentsComeFirst}
use Rattle.rb_flat.specs.Mechanism.{Mechanism}
use Rattle.rb_flat.specs.Dynamics.{Unknowns, spatial_sum, followed, joint_motion, Moves, no_force}
use Rattle.rb_flat.proofs.Equality.{same_fractions, spatials_refl, spatials_sym, spatials_trans, plus_same, in_body_same, motion_product_same}
use Rattle.rb_flat.proofs.Linear.{plus-none}
use Rattle.rb_articulated.specs.Articulated.{Articulated, columns, speed_over, AreArticulated}
use Rattle.rb_articulated.specs.Laws.{AllLead}

plus-inside : (a b c d : Spatial Frac) → Spatials Same (plus fracs (plus fracs a (plus fracs b d)) c) (plus fracs (plus fracs (plus fracs a b) c) d)
unfolding plus vadd
plus-inside a b c d =
    identity (of_spatial a (of_spatial b (of_spatial c (of_spatial d []))))
    (plus expr (plus expr (spatial 0) (plus expr (spatial 6) (spatial 18))) (spatial 12))
    (plus expr (plus expr (plus expr (spatial 0) (spatial 6)) (spatial 12)) (spatial 18))
    (refl, refl, refl) (refl, refl, refl)

module _ (shape : Shape) (m : Mechanism Frac) (t : Articulated Frac) (s : Unknowns Frac) (parents : ParentsComeFirst shape) (lead : AllLead shape)
    (art : AreArticulated shape m t) (moves : Moves fracs shape m Same (no_force fracs) s) where
  -- ---- velocities
  speed_within : (n i : ℕ) → i < n → i ≤ shape.bodies → Spatials Same (s.speed i) (t.v i)
  speed_within zero i l h = absurd (omega arith)
  speed_within (suc n) zero l h = spatials_trans same_fractions moves.world_speed (spatials_sym same_fractions art.world)
  speed_within (suc n) (suc j) l h =
      let there : HasBody shape (suc j) = record { from = omega arith; to = h } in
      let b : shape.parent (suc j) < suc j = parents (suc j) there in
      let up = shape.parent (suc j) in
      spatials_trans same_fractions (moves.speeds (suc j) there)
      (spatials_trans same_fractions
      (plus_same same_fractions
      (spatials_trans same_fractions
      (in_body_same same_fractions (m.place (suc j)) (speed_within n up (omega arith) (omega arith)))
      (spatials_sym same_fractions (apply-in_body (m.place (suc j)) (t.v up))))
      (spatials_refl same_fractions (speed_over shape m (suc j))))
      (spatials_sym same_fractions (art.speeds (suc j) there)))

  pub speeds_same : (i : ℕ) → i ≤ shape.bodies → Spatials Same (s.speed i) (t.v i)
  speeds_same i h = speed_within (suc i) i (omega arith) h

  -- how the motion over the joint changes
  turning_same : (i : ℕ) → HasBody shape i → Spatials Same (motion_product fracs (s.speed i) (speed_over shape m i)) (t.c i)
  turning_same i there =
      spatials_trans same_fractions
      (motion_product_same same_fractions (speeds_same i there.to) (spatials_refl same_fractions (speed_over shape m i)))
      (spatials_trans same_fractions
      (spatials_sym same_fractions (cross-motion_product (t.v i) (speed_over shape m i)))
      (spatials_sym same_fractions (art.turnings i there)))

  -- ---- accelerations
  -- what column k of the joint of body i adds
  abbrev rate : ℕ → ℕ → Frac
  rate i k = s.joint_acceleration (shape.first_column i + k)

  abbrev added : ℕ → ℕ → Motion Frac
  added i k = scaled fracs (rate i k) (m.column i k)

  -- with the first k columns of its joint
  pub motion_at : ℕ → ℕ → Motion Frac
  motion_at i k = plus fracs (plus fracs (in_body fracs (m.place i) (s.acceleration (shape.parent i))) (spatial_sum fracs k (added i))) (t.c i)

  pub motion_next : (i k : ℕ) → Spatials Same (motion_at i (suc k)) (plus fracs (motion_at i k) (scaled fracs (s.joint_acceleration (shape.first_column i + k)) (m.column i k)))
  unfolding motion_at spatial_sum
  motion_next i k = plus-inside (in_body fracs (m.place i) (s.acceleration (shape.parent i))) (spatial_sum fracs k (added i)) (t.c i) (added i k)

  pub motion_first : (i : ℕ) → Spatials Same (motion_at i 0) (plus fracs (in_body fracs (m.place i) (s.acceleration (shape.parent i))) (t.c i))
  unfolding motion_at spatial_sum
  motion_first i =
      plus_same same_fractions (plus-none (in_body fracs (m.place i) (s.acceleration (shape.parent i)))) (spatials_refl same_fractions (t.c i))

  over_own : (i : ℕ) → HasBody shape i → joint_motion fracs shape m s.joint_acceleration i ≡ spatial_sum fracs (columns shape m i) (added i)
  unfolding joint_motion
  over_own i there =
      ap (λ (o : Option ℕ). spatial_sum fracs (columns shape m i) (λ k. scaled fracs (followed fracs o (m.multiplier i) (rate i k)) (m.column i k))) (lead i there)

  pub motion_last : (i : ℕ) → HasBody shape i → Spatials Same (s.acceleration i) (motion_at i (columns shape m i))
  unfolding motion_at
  motion_last i there =
      let up = in_body fracs (m.place i) (s.acceleration (shape.parent i)) in
      subst (λ (j : Motion Frac). Spatials Same (s.acceleration i) (plus fracs (plus fracs up j) (t.c i))) (over_own i there)
      (spatials_trans same_fractions (moves.accelerations i there)
      (plus_same same_fractions (spatials_refl same_fractions (plus fracs up (joint_motion fracs shape m s.joint_acceleration i))) (turning_same i there)))
