-- D'Alembert's principle, by virtual work: the torque of a column is the power of what the bodies need at the unit acceleration of the column. So
-- the mass table is symmetric.
use Rattle.std.proofs.Common.{◌≡◌, ℕ, zero, suc, ◌-◌, ◌<◌, ◌≤◌, ◌==◌, Bool, true, false, if◌then◌else◌, [], refl, sym, ◌∙◌, ap, arith}
use mathlib.Core.Path.{ap₂}
use Rattle.rb_frac.specs.Ops.{vadd, sum as sum_of}
use Rattle.rb_frac.specs.Frac.{Frac, Same, fracs}
use Rattle.rb_frac.specs.Spatial.{Spatial, Force, Spatials}
use Rattle.rb_frac.specs.Mechanics.{plus, opposite, in_body, in_parent, power_of}
use Rattle.rb_frac.proofs.Ring.{add_cancel, mul_nul, expr}
use Rattle.rb_frac.proofs.Rational.{ℚ, ◌+ℚ◌, ◌*ℚ◌, 0ℚ, 1ℚ, qo, rats, cls, sound, exact, cls-zero, cls-one, add_comm, mul_comm_ℚ, mul_one}
use Rattle.rb_frac.proofs.Sums.{sum, sum_ext, sum-add, sum_swap}
use Rattle.rb_frac.proofs.Transfer.{cls-sum}
use Rattle.rb_frac.proofs.Variables.{spatial, of_spatial, identity}
use Rattle.rb_flat.specs.Shape.{Shape, HasBody, HasColumn, MimicsFit, ParentsComeFirst, ColumnsFit}
use Rattle.rb_flat.specs.Mechanism.{Mechanism}
use Rattle.rb_flat.specs.Dynamics.{Unknowns, none, joint_motion, children_force, torque_of, at_unit, no_force, InverseDynamics}
use Rattle.rb_flat.specs.TreeLaws.{TorqueIsVirtualPower, MassTableIsSymmetric}
use Rattle.rb_flat.proofs.Equality.{same_fractions, spatials_refl, spatials_sym, spatials_trans, plus_same, spatials_more_less}
use Rattle.rb_flat.proofs.Powers.{power, power-swap, power-same, power-plus, power-none, power-sum, power-dual, power-needed, sum_none, sum_one}
use Rattle.rb_flat.proofs.Superposed.{Added, unit_adds, unit_of, unit_of_solves}
use Rattle.rb_flat.proofs.VirtualWork.{if_zero, if_is, work}

plus-last : (a b c : Spatial Frac) → Spatials Same (plus fracs (plus fracs a b) c) (plus fracs (plus fracs a c) b)
unfolding plus vadd
plus-last a b c =
    identity (of_spatial a (of_spatial b (of_spatial c [])))
    (plus expr (plus expr (spatial 0) (spatial 6)) (spatial 12))
    (plus expr (plus expr (spatial 0) (spatial 12)) (spatial 6))
    (refl, refl, refl) (refl, refl, refl)

pub never : (p i : ℕ) → p ≡ 0 → (p == suc i) ≡ false
never p i e = grind arith

pub met : (p j : ℕ) → p ≡ suc j → (p == suc j) ≡ true
met p j e = grind arith

pub unmet : (p i j : ℕ) → p ≡ suc j → (i == j) ≡ false → (p == suc i) ≡ false
unmet p i j e d = grind arith

module _ (shape : Shape) (m : Mechanism Frac) (parents : ParentsComeFirst shape) where
  -- ---- forces f of the joints at the accelerations of s, where net is what each body needs and nothing from outside gives
  module _ (s : Unknowns Frac) (hs : Added shape m s) (f net : ℕ → Force Frac)
      (balance : (i : ℕ) → HasBody shape i → Spatials Same (f i) (plus fracs (net i) (children_force fracs shape m f i))) where
    abbrev carried : ℕ → Force Frac
    carried i = in_parent fracs (m.place i) (f i)

    abbrev at_parent : ℕ → ℚ
    at_parent i = power (s.acceleration (shape.parent i)) (carried i)

    abbrev at_joint : ℕ → ℚ
    at_joint i = power (joint_motion fracs shape m s.joint_acceleration i) (f i)

    abbrev at_body : ℕ → ℚ
    at_body i = power (s.acceleration i) (net i)

    abbrev at_children : ℕ → ℚ
    at_children i = power (s.acceleration i) (children_force fracs shape m f i)

    by_motion : (i : ℕ) → HasBody shape i → power (s.acceleration i) (f i) ≡ at_parent i +ℚ at_joint i
    by_motion i there =
        let moved = in_body fracs (m.place i) (s.acceleration (shape.parent i)) in
        let over = joint_motion fracs shape m s.joint_acceleration i in
        power-swap (s.acceleration i) (f i) ∙ power-same (f i) (hs.accelerations i there) ∙ power-plus (f i) moved over
        ∙ ap₂ ◌+ℚ◌ (power-swap (f i) moved ∙ power-dual (m.place i) (s.acceleration (shape.parent i)) (f i)) (power-swap (f i) over)

    by_force : (i : ℕ) → HasBody shape i → power (s.acceleration i) (f i) ≡ at_body i +ℚ at_children i
    by_force i there =
        power-same (s.acceleration i) (balance i there) ∙ power-plus (s.acceleration i) (net i) (children_force fracs shape m f i)

    -- what the children bear, parent by parent and child by child
    abbrev term : ℕ → ℕ → ℚ
    term i k = if shape.parent (suc k) == suc i then power (s.acceleration (suc i)) (carried (suc k)) else 0ℚ

    power-if : (i k : ℕ) (b : Bool) → power (s.acceleration i) (if b then carried k else none fracs) ≡ (if b then power (s.acceleration i) (carried k) else 0ℚ)
    power-if i k true = refl
    power-if i k false = power-none (s.acceleration i)

    children-terms : (i : ℕ) → at_children (suc i) ≡ sum qo shape.bodies (term i)
    unfolding children_force
    children-terms i =
        power-sum (s.acceleration (suc i)) shape.bodies (λ k. if shape.parent (suc k) == suc i then carried (suc k) else none fracs)
        ∙ sum_ext qo shape.bodies _ _ (λ k l. power-if (suc i) (suc k) (shape.parent (suc k) == suc i))

    parent-terms : (k : ℕ) → HasBody shape (suc k) → (q : ℕ) → shape.parent (suc k) ≡ q → sum qo shape.bodies (λ i. term i k) ≡ at_parent (suc k)
    parent-terms k there zero e =
        sum_none shape.bodies (λ i. term i k) (λ i l. if_zero (shape.parent (suc k) == suc i) _ (never (shape.parent (suc k)) i e))
        ∙ sym (ap (λ (q : ℕ). power (s.acceleration q) (carried (suc k))) e
        ∙ power-swap (s.acceleration 0) (carried (suc k)) ∙ power-same (carried (suc k)) hs.world ∙ power-none (carried (suc k)))
    parent-terms k there (suc j) e =
        let before : shape.parent (suc k) < suc k = parents (suc k) there in
        let to : suc k ≤ shape.bodies = there.to in
        sum_one shape.bodies j (λ i. term i k) (omega (arith, e, before, to)) (λ i l d. if_zero (shape.parent (suc k) == suc i) _ (unmet (shape.parent (suc k)) i j e d))
        ∙ if_is (shape.parent (suc k) == suc j) _ (met (shape.parent (suc k)) j e)
        ∙ ap (λ (q : ℕ). power (s.acceleration q) (carried (suc k))) (sym e)

    children-parents : sum qo shape.bodies (λ i. at_children (suc i)) ≡ sum qo shape.bodies (λ k. at_parent (suc k))
    children-parents =
        sum_ext qo shape.bodies _ _ (λ i l. children-terms i)
        ∙ sum_swap rats shape.bodies shape.bodies term
        ∙ sum_ext qo shape.bodies _ _ (λ k l. parent-terms k (record { from = omega arith; to = omega arith }) (shape.parent (suc k)) refl)

    pub joints-bodies : sum qo shape.bodies (λ i. at_joint (suc i)) ≡ sum qo shape.bodies (λ i. at_body (suc i))
    joints-bodies =
        add_cancel rats (sum qo shape.bodies (λ i. at_parent (suc i))) (sum qo shape.bodies (λ i. at_joint (suc i))) (sum qo shape.bodies (λ i. at_body (suc i)))
        (sym (sum-add rats shape.bodies (λ i. at_parent (suc i)) (λ i. at_joint (suc i)))
        ∙ sum_ext qo shape.bodies _ _ (λ i l. both i (record { from = omega arith; to = omega arith }))
        ∙ sum-add rats shape.bodies (λ i. at_body (suc i)) (λ i. at_children (suc i))
        ∙ add_comm _ _
        ∙ ap (λ (x : ℚ). x +ℚ sum qo shape.bodies (λ i. at_body (suc i))) children-parents)
      where
        both : (i : ℕ) → HasBody shape (suc i) → at_parent (suc i) +ℚ at_joint (suc i) ≡ at_body (suc i) +ℚ at_children (suc i)
        both i there = sym (by_motion (suc i) there) ∙ by_force (suc i) there

  -- ---- the torque of column c, where u has the unit acceleration of column c
  module _ (mimics : MimicsFit shape) (fit : ColumnsFit shape) (c : ℕ) (there : HasColumn shape c)
      (u : Unknowns Frac) (hu : InverseDynamics fracs shape (at_unit fracs m c) Same (no_force fracs) u)
      (t : Unknowns Frac) (net : ℕ → Force Frac)
      (balance : (i : ℕ) → HasBody shape i → Spatials Same (t.joint_force i) (plus fracs (net i) (children_force fracs shape m t.joint_force i)))
      (columns : Same (t.torque c) (torque_of fracs shape m t.joint_force c)) where
    rate : ℕ → ℚ
    rate e = cls (u.joint_acceleration e)

    torque : ℕ → ℚ
    torque e = cls (torque_of fracs shape m t.joint_force e)

    from : 1 ≤ c
    from = there.from

    given : (e : ℕ) → HasColumn shape e → (b : Bool) → (e == c) ≡ b → rate e ≡ cls (if b then fracs.one else fracs.nul)
    unfolding rate
    given e own b d =
        sound (u.joint_acceleration e) (if e == c then fracs.one else fracs.nul) (hu.given e own)
        ∙ ap (λ (b : Bool). cls (if b then fracs.one else fracs.nul)) d

    other : (e : ℕ) → e < shape.columns → (e == c - 1) ≡ false → rate (suc e) *ℚ torque (suc e) ≡ 0ℚ
    other e l d =
        let differs : (suc e == c) ≡ false = grind (arith, from, d) in
        ap (λ (x : ℚ). x *ℚ torque (suc e)) (given (suc e) (record { from = omega arith; to = omega arith }) false differs ∙ cls-zero)
        ∙ mul_comm_ℚ 0ℚ (torque (suc e)) ∙ mul_nul rats (torque (suc e))

    this : rate (suc (c - 1)) *ℚ torque (suc (c - 1)) ≡ cls (t.torque c)
    unfolding torque
    this =
        let own : suc (c - 1) ≡ c = omega (arith, from) in
        let itself : (c == c) ≡ true = grind arith in
        ap (λ (e : ℕ). rate e *ℚ torque e) own
        ∙ ap (λ (x : ℚ). x *ℚ torque c) (given c there true itself ∙ cls-one)
        ∙ mul_comm_ℚ 1ℚ (torque c) ∙ mul_one (torque c)
        ∙ sym (sound (t.torque c) (torque_of fracs shape m t.joint_force c) columns)

    pub torque-work : cls (t.torque c) ≡ sum qo shape.bodies (λ i. power (u.acceleration (suc i)) (net (suc i)))
    unfolding power rate torque
    torque-work =
        sym (sum_one shape.columns (c - 1) (λ e. rate (suc e) *ℚ torque (suc e)) (omega (arith, from, there.to)) other ∙ this)
        ∙ work shape m t.joint_force mimics fit u.joint_acceleration
        ∙ joints-bodies u (unit_adds shape m parents c u hu.moves) t.joint_force net balance

pub torque_is_virtual_power : TorqueIsVirtualPower
unfolding power
torque_is_virtual_power shape m outside s unit c parents mimics fit there hs hu =
    let net = λ (i : ℕ). plus fracs (s.needed i) (opposite fracs (outside i)) in
    exact (s.torque c) (sum_of fracs shape.bodies (λ i. power_of fracs (unit.acceleration (suc i)) (net (suc i))))
    (torque-work shape m parents mimics fit c there unit hu s net
    (λ i body. spatials_trans same_fractions (spatials_sym same_fractions (spatials_more_less same_fractions (s.joint_force i) (outside i)))
    (spatials_trans same_fractions (plus_same same_fractions (hs.balance i body) (spatials_refl same_fractions (opposite fracs (outside i))))
    (plus-last (s.needed i) (children_force fracs shape m s.joint_force i) (opposite fracs (outside i)))))
    (hs.columns c there)
    ∙ sym (cls-sum shape.bodies (λ i. power_of fracs (unit.acceleration (suc i)) (net (suc i)))))

-- ---- two unit accelerations
module _ (shape : Shape) (m : Mechanism Frac) (parents : ParentsComeFirst shape) (mimics : MimicsFit shape) (fit : ColumnsFit shape) where
  abbrev unit : ℕ → Unknowns Frac
  unit d = unit_of shape m parents fit d

  adds : (d : ℕ) → Added shape m (unit d)
  adds d = unit_adds shape m parents d (unit d) (unit_of_solves shape m parents fit d).moves

  unit-work : (c d : ℕ) → HasColumn shape c → cls ((unit d).torque c) ≡ sum qo shape.bodies (λ i. power ((unit c).acceleration (suc i)) ((unit d).needed (suc i)))
  unit-work c d there =
      torque-work shape m parents mimics fit c there (unit c) (unit_of_solves shape m parents fit c) (unit d) (unit d).needed (adds d).balance ((adds d).columns c there)

  body-symmetric : (c d i : ℕ) → HasBody shape i → power ((unit c).acceleration i) ((unit d).needed i) ≡ power ((unit d).acceleration i) ((unit c).needed i)
  body-symmetric c d i there =
      power-same ((unit c).acceleration i) ((adds d).needs i there)
      ∙ power-needed (m.mass i) (m.centre i) (m.inertia i) ((unit c).acceleration i) ((unit d).acceleration i)
      ∙ sym (power-same ((unit d).acceleration i) ((adds c).needs i there))

  pub symmetric : (c d : ℕ) → HasColumn shape c → HasColumn shape d → cls ((unit d).torque c) ≡ cls ((unit c).torque d)
  symmetric c d hc hd =
      unit-work c d hc
      ∙ sum_ext qo shape.bodies _ _ (λ i l. body-symmetric c d (suc i) (record { from = omega arith; to = omega arith }))
      ∙ sym (unit-work d c hd)

pub mass_table_is_symmetric : MassTableIsSymmetric
mass_table_is_symmetric shape m table parents mimics fit is c d hc hd =
    exact (table c d) (table d c)
    (sound (table c d) ((unit_of shape m parents fit d).torque c) (is.entry c d (unit_of shape m parents fit d) hc hd (unit_of_solves shape m parents fit d))
    ∙ symmetric shape m parents mimics fit c d hc hd
    ∙ sym (sound (table d c) ((unit_of shape m parents fit c).torque d) (is.entry d c (unit_of shape m parents fit c) hd hc (unit_of_solves shape m parents fit c))))
