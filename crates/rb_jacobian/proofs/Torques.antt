-- The forces of the rows take from the torques what the transpose of the Jacobian makes of them.
use Rattle.std.proofs.Common.{◌≡◌, ℕ, suc, ◌-◌, ◌<◌, ◌≤◌, ◌==◌, Bool, true, false, if◌then◌else◌, [], refl, sym, ◌∙◌, ap, arith}
use mathlib.Core.Path.{ap₂}
use Rattle.rb_frac.specs.Ops.{vneg, vdot, sum as sum_of}
use Rattle.rb_frac.specs.Frac.{Frac, Same, fracs, neg, sub, mul}
use Rattle.rb_frac.specs.Tables.{Table}
use Rattle.rb_frac.specs.Spatial.{Spatial, Force}
use Rattle.rb_frac.specs.Mechanics.{plus, opposite, power_of}
use Rattle.rb_frac.proofs.Ring.{expr, mul_nul, neg_nul}
use Rattle.rb_frac.proofs.Rational.{ℚ, ◌+ℚ◌, ◌*ℚ◌, neg_ℚ, 0ℚ, qo, rats, cls, sound, exact, cls-zero, cls-one, add_nul, mul_comm_ℚ, mul_one}
use Rattle.rb_frac.proofs.Hom.{frac_ring, cls_of_neg, cls_of_mul, cls_of_sub}
use Rattle.rb_frac.proofs.Sums.{sum, sum_ext, sum-add, sum-neg}
use Rattle.rb_frac.proofs.Transfer.{cls-sum}
use Rattle.rb_frac.proofs.Variables.{spatial, of_spatial, at}
use Rattle.rb_flat.specs.Shape.{Shape, HasBody, HasColumn, MimicsFit, ParentsComeFirst, ColumnsFit}
use Rattle.rb_flat.specs.Mechanism.{Mechanism}
use Rattle.rb_flat.specs.Dynamics.{Unknowns, Moves, InverseDynamics, no_force, at_unit}
use Rattle.rb_flat.specs.Contact.{Constraints, HasRow, RowsFit, rows_on}
use Rattle.rb_flat.proofs.Equality.{same_fractions, spatials_sym, spatials_trans, needed_same}
use Rattle.rb_flat.proofs.Powers.{power, power-same, power-plus, power-none, sum_none, sum_one}
use Rattle.rb_flat.proofs.Superposed.{Added, unit_adds, unit_of, unit_of_solves}
use Rattle.rb_flat.proofs.Symmetric.{torque_is_virtual_power}
use Rattle.rb_flat.proofs.Rows.{all_powers}
use Rattle.rb_jacobian.specs.Jacobian.{row_speeds, IsJacobian}
use Rattle.rb_jacobian.specs.Laws.{JacobianGivesTorques}
use Rattle.rb_jacobian.proofs.Descent.{speeds_alike, accelerations_alike, added_moves}
use Rattle.rb_jacobian.proofs.Speeds.{row_speeds_are}

opposed : (v f : Spatial Frac) → power v (opposite fracs f) ≡ neg_ℚ (power v f)
unfolding power power_of opposite vneg vdot
opposed v f =
    sound (power_of fracs v (opposite fracs f)) (neg (power_of fracs v f))
    (frac_ring (at (of_spatial v (of_spatial f []))) (power_of expr (spatial 0) (opposite expr (spatial 6))) (expr.neg (power_of expr (spatial 0) (spatial 6))) refl)
    ∙ cls_of_neg (power_of fracs v f)

module _ (shape : Shape) (m : Mechanism Frac) (parents : ParentsComeFirst shape) (mimics : MimicsFit shape) (fit : ColumnsFit shape) (c : ℕ) (there : HasColumn shape c) where
  abbrev unit : Unknowns Frac
  unit = unit_of shape m parents fit c

  unit_solves : InverseDynamics fracs shape (at_unit fracs m c) Same (no_force fracs) unit
  unit_solves = unit_of_solves shape m parents fit c

  adds : Added shape m unit
  adds = unit_adds shape m parents c unit unit_solves.moves

  -- ---- the torque: what the bodies need, less what acts from outside
  needs : Unknowns Frac → ℚ
  needs s = sum qo shape.bodies (λ i. power (unit.acceleration (suc i)) (s.needed (suc i)))

  given : (ℕ → Force Frac) → ℚ
  given outside = sum qo shape.bodies (λ i. power (unit.acceleration (suc i)) (outside (suc i)))

  torque_parts : (outside : ℕ → Force Frac) (s : Unknowns Frac) → Moves fracs shape m Same outside s → cls (s.torque c) ≡ needs s +ℚ neg_ℚ (given outside)
  unfolding needs given power
  torque_parts outside s hs =
      let net = λ (i : ℕ). plus fracs (s.needed i) (opposite fracs (outside i)) in
      sound (s.torque c) (sum_of fracs shape.bodies (λ i. power_of fracs (unit.acceleration (suc i)) (net (suc i))))
      (torque_is_virtual_power shape m outside s unit c parents mimics fit there hs unit_solves)
      ∙ cls-sum shape.bodies (λ i. power_of fracs (unit.acceleration (suc i)) (net (suc i)))
      ∙ sum_ext qo shape.bodies _ _ (λ i l.
      power-plus (unit.acceleration (suc i)) (s.needed (suc i)) (opposite fracs (outside (suc i)))
      ∙ ap (λ (t : ℚ). power (unit.acceleration (suc i)) (s.needed (suc i)) +ℚ t) (opposed (unit.acceleration (suc i)) (outside (suc i))))
      ∙ sum-add rats shape.bodies (λ i. power (unit.acceleration (suc i)) (s.needed (suc i))) (λ i. neg_ℚ (power (unit.acceleration (suc i)) (outside (suc i))))
      ∙ ap (λ (t : ℚ). sum qo shape.bodies (λ i. power (unit.acceleration (suc i)) (s.needed (suc i))) +ℚ t)
      (sum-neg rats shape.bodies (λ i. power (unit.acceleration (suc i)) (outside (suc i))))

  nothing_given : given (no_force fracs) ≡ 0ℚ
  unfolding given
  nothing_given = sum_none shape.bodies _ (λ i l. power-none (unit.acceleration (suc i)))

  same_needs : (outside other : ℕ → Force Frac) (s t : Unknowns Frac) → Moves fracs shape m Same outside s → Moves fracs shape m Same other t
      → ((d : ℕ) → HasColumn shape d → Same (s.joint_acceleration d) (t.joint_acceleration d)) → needs s ≡ needs t
  unfolding needs
  same_needs outside other s t hs ht same =
      sum_ext qo shape.bodies _ _ (λ i l.
      let body : HasBody shape (suc i) = record { from = omega arith; to = omega arith } in
      power-same (unit.acceleration (suc i))
      (spatials_trans same_fractions (hs.newton_euler (suc i) body)
      (spatials_trans same_fractions
      (needed_same same_fractions (m.mass (suc i)) (m.centre (suc i)) (m.inertia (suc i))
      (speeds_alike shape m parents fit outside other s t hs ht (suc i) body.to)
      (accelerations_alike shape m parents fit outside other s t hs ht same (suc i) body.to))
      (spatials_sym same_fractions (ht.newton_euler (suc i) body)))))

  -- ---- the rows at the unit acceleration
  module _ (k : Constraints Frac) (turn : ℕ → Table Frac) (fits : RowsFit shape k) (J : ℕ → ℕ → Frac) (is : IsJacobian shape m k turn J) where
    rate_at : (e : ℕ) → HasColumn shape e → (b : Bool) → (e == c) ≡ b → cls (unit.joint_acceleration e) ≡ cls (if b then fracs.one else fracs.nul)
    rate_at e own b d =
        sound (unit.joint_acceleration e) (if e == c then fracs.one else fracs.nul) (unit_solves.given e own)
        ∙ ap (λ (b : Bool). cls (if b then fracs.one else fracs.nul)) d

    from : 1 ≤ c
    from = there.from

    to : c ≤ shape.columns
    to = there.to

    at_unit_rate : (r : ℕ) → HasRow k r → cls (row_speeds k turn unit.acceleration r) ≡ cls (J r c)
    at_unit_rate r hr =
        row_speeds_are shape m k turn J parents fit fits is unit.joint_acceleration unit.acceleration (added_moves shape m parents fit unit adds) r hr
        ∙ sum_one shape.columns (c - 1) (λ e. cls (J r (suc e)) *ℚ cls (unit.joint_acceleration (suc e))) (omega (arith, from, to)) other
        ∙ ap (λ (e : ℕ). cls (J r e) *ℚ cls (unit.joint_acceleration e)) own
        ∙ ap (λ (t : ℚ). cls (J r c) *ℚ t) (rate_at c there true itself ∙ cls-one)
        ∙ mul_one (cls (J r c))
      where
        own : suc (c - 1) ≡ c
        own = omega (arith, from)

        itself : (c == c) ≡ true
        itself = grind arith

        other : (e : ℕ) → e < shape.columns → (e == c - 1) ≡ false → cls (J r (suc e)) *ℚ cls (unit.joint_acceleration (suc e)) ≡ 0ℚ
        other e l d =
            let differs : (suc e == c) ≡ false = grind (arith, from, d) in
            ap (λ (t : ℚ). cls (J r (suc e)) *ℚ t) (rate_at (suc e) (record { from = omega arith; to = omega arith }) false differs ∙ cls-zero)
            ∙ mul_nul rats (cls (J r (suc e)))

    rows_given : (lam : ℕ → Frac) → given (rows_on fracs k turn lam) ≡ sum qo k.rows (λ r. cls (mul (J (suc r) c) (lam (suc r))))
    unfolding given
    rows_given lam =
        all_powers unit.acceleration adds.world shape k turn fits lam
        ∙ sum_ext qo k.rows _ _ (λ r l.
        cls_of_mul (lam (suc r)) (row_speeds k turn unit.acceleration (suc r))
        ∙ mul_comm_ℚ (cls (lam (suc r))) (cls (row_speeds k turn unit.acceleration (suc r)))
        ∙ ap (λ (t : ℚ). t *ℚ cls (lam (suc r))) (at_unit_rate (suc r) (record { from = omega arith; to = omega arith }))
        ∙ sym (cls_of_mul (J (suc r) c) (lam (suc r))))

    pub torques_are : (lam : ℕ → Frac) (s t : Unknowns Frac) → Moves fracs shape m Same (rows_on fracs k turn lam) s → Moves fracs shape m Same (no_force fracs) t
        → ((d : ℕ) → HasColumn shape d → Same (s.joint_acceleration d) (t.joint_acceleration d))
        → cls (s.torque c) ≡ cls (t.torque c) +ℚ neg_ℚ (sum qo k.rows (λ r. cls (mul (J (suc r) c) (lam (suc r)))))
    torques_are lam s t hs ht same =
        torque_parts (rows_on fracs k turn lam) s hs
        ∙ ap₂ (λ (x y : ℚ). x +ℚ neg_ℚ y)
        (same_needs (rows_on fracs k turn lam) (no_force fracs) s t hs ht same
        ∙ sym (torque_parts (no_force fracs) t ht
        ∙ ap (λ (x : ℚ). needs t +ℚ neg_ℚ x) nothing_given ∙ ap (λ (x : ℚ). needs t +ℚ x) (neg_nul rats) ∙ add_nul (needs t)))
        (rows_given lam)

pub jacobian_gives_torques : JacobianGivesTorques
jacobian_gives_torques shape m k turn J lam s t parents mimics fit fits is hs ht same c there =
    let x = sum_of fracs k.rows (λ r. mul (J (suc r) c) (lam (suc r))) in
    exact (s.torque c) (sub (t.torque c) x)
    (torques_are shape m parents mimics fit c there k turn fits J is lam s t hs ht same
    ∙ ap (λ (y : ℚ). cls (t.torque c) +ℚ neg_ℚ y) (sym (cls-sum k.rows (λ r. mul (J (suc r) c) (lam (suc r)))))
    ∙ sym (cls_of_sub (t.torque c) x))
