-- What goes down a tree, from the world on: motions at rates of the columns.
use Rattle.std.proofs.Common.{ℕ, zero, suc, ◌+◌, ◌<◌, ◌≤◌, arith}
use Rattle.rb_frac.specs.Frac.{Frac, Same, fracs}
use Rattle.rb_frac.specs.Spatial.{Motion, Force, Motions}
use Rattle.rb_flat.specs.Shape.{Shape, HasBody, HasColumn, ParentsComeFirst, ColumnsFit}
use Rattle.rb_flat.specs.Mechanism.{Mechanism}
use Rattle.rb_flat.specs.Dynamics.{Unknowns, joint_motion, Moves, InverseDynamics, no_force, at_unit}
use Rattle.rb_flat.proofs.Equality.{same_fractions, spatials_refl, spatials_sym, spatials_trans, plus_same, in_body_same, motion_product_same}
use Rattle.rb_flat.proofs.OneSolution.{has_one_solution, same_motion_of}
use Rattle.rb_flat.proofs.Superposed.{Added, unit_adds, other_accelerations}
use Rattle.rb_jacobian.specs.Jacobian.{MovesAt}

module _ (shape : Shape) (parents : ParentsComeFirst shape) (P : ℕ → Type 0) (top : P 0) (step : (i : ℕ) → HasBody shape i → P (shape.parent i) → P i) where
  within : (n i : ℕ) → i < n → i ≤ shape.bodies → P i
  within zero i l h = absurd (omega arith)
  within (suc n) zero l h = top
  within (suc n) (suc j) l h =
      let there : HasBody shape (suc j) = record { from = omega arith; to = h } in
      let b : shape.parent (suc j) < suc j = parents (suc j) there in
      step (suc j) there (within n (shape.parent (suc j)) (omega arith) (omega arith))

  -- what holds of the world, and of each body of whose parent it holds
  pub descend : (i : ℕ) → i ≤ shape.bodies → P i
  descend i h = within (suc i) i (omega arith) h

module _ (shape : Shape) (m : Mechanism Frac) (parents : ParentsComeFirst shape) (fit : ColumnsFit shape) where
  abbrev over : (ℕ → Frac) → ℕ → Motion Frac
  over rate i = joint_motion fracs shape m rate i

  over_same : (i : ℕ) → HasBody shape i → (rate rate' : ℕ → Frac) → ((c : ℕ) → HasColumn shape c → Same (rate c) (rate' c)) → Motions Same (over rate i) (over rate' i)
  over_same i there rate rate' h = same_motion_of same_fractions shape m i rate rate' (λ k l. h (shape.first_column i + k) (fit.there i k there l))

  -- the same rates give the same motions
  pub moves_alike : (rate rate' : ℕ → Frac) (v v' : ℕ → Motion Frac) → ((c : ℕ) → HasColumn shape c → Same (rate c) (rate' c))
      → MovesAt shape m rate v → MovesAt shape m rate' v' → (i : ℕ) → i ≤ shape.bodies → Motions Same (v i) (v' i)
  moves_alike rate rate' v v' same h h' =
      descend shape parents (λ i. Motions Same (v i) (v' i))
      (spatials_trans same_fractions h.world (spatials_sym same_fractions h'.world))
      (λ i there above.
      spatials_trans same_fractions (h.each i there)
      (spatials_trans same_fractions
      (plus_same same_fractions (in_body_same same_fractions (m.place i) above) (over_same i there rate rate' same))
      (spatials_sym same_fractions (h'.each i there))))

  -- ---- two motions of the mechanism, whatever acts from outside
  module _ (outside other : ℕ → Force Frac) (s t : Unknowns Frac) (hs : Moves fracs shape m Same outside s) (ht : Moves fracs shape m Same other t) where
    pub speeds_alike : (i : ℕ) → i ≤ shape.bodies → Motions Same (s.speed i) (t.speed i)
    speeds_alike =
        descend shape parents (λ i. Motions Same (s.speed i) (t.speed i))
        (spatials_trans same_fractions hs.world_speed (spatials_sym same_fractions ht.world_speed))
        (λ i there above.
        spatials_trans same_fractions (hs.speeds i there)
        (spatials_trans same_fractions
        (plus_same same_fractions (in_body_same same_fractions (m.place i) above) (spatials_refl same_fractions (over m.speed i)))
        (spatials_sym same_fractions (ht.speeds i there))))

    pub accelerations_alike : ((c : ℕ) → HasColumn shape c → Same (s.joint_acceleration c) (t.joint_acceleration c)) → (i : ℕ) → i ≤ shape.bodies
        → Motions Same (s.acceleration i) (t.acceleration i)
    accelerations_alike same =
        descend shape parents (λ i. Motions Same (s.acceleration i) (t.acceleration i))
        (spatials_trans same_fractions hs.world_acceleration (spatials_sym same_fractions ht.world_acceleration))
        (λ i there above.
        spatials_trans same_fractions (hs.accelerations i there)
        (spatials_trans same_fractions
        (plus_same same_fractions
        (plus_same same_fractions (in_body_same same_fractions (m.place i) above) (over_same i there s.joint_acceleration t.joint_acceleration same))
        (motion_product_same same_fractions (speeds_alike i there.to) (spatials_refl same_fractions (over m.speed i))))
        (spatials_sym same_fractions (ht.accelerations i there))))

  -- ---- the accelerations that some rates add
  module _ (rate : ℕ → Frac) where
    abbrev driven : Mechanism Frac
    driven = record (at_unit fracs m 0) { acceleration = rate }

    pub added_by : Unknowns Frac
    added_by = (has_one_solution same_fractions shape driven (no_force fracs) parents fit).solution

    solved : InverseDynamics fracs shape driven Same (no_force fracs) added_by
    unfolding added_by
    solved = (has_one_solution same_fractions shape driven (no_force fracs) parents fit).solves

    pub added_adds : Added shape m added_by
    added_adds = unit_adds shape m parents 0 added_by (other_accelerations shape (at_unit fracs m 0) (no_force fracs) rate added_by solved.moves)

    pub added_rates : (c : ℕ) → HasColumn shape c → Same (added_by.joint_acceleration c) (rate c)
    added_rates c there = solved.given c there

  -- what accelerations of the joints add moves at their rates
  pub added_moves : (u : Unknowns Frac) → Added shape m u → MovesAt shape m u.joint_acceleration u.acceleration
  added_moves u h = record { world = h.world; each = h.accelerations }
