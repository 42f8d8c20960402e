-- Where no joint moves, each body with all that it bears is one rigid body.
use Rattle.std.proofs.Common.{◌≡◌, ℕ, zero, suc, ◌+◌, ◌-◌, ◌<◌, ◌≤◌, ◌==◌, Bool, true, false, if◌then◌else◌, [], refl, sym, ◌∙◌, ap, arith}
use mathlib.Core.Path.{ap₂}
use Rattle.rb_frac.specs.Ops.{Ops, signs, vdot}
use Rattle.rb_frac.specs.Frac.{Frac, Same, fracs}
use Rattle.rb_frac.specs.Spatial.{Motion, Force, Inertia, Spatials}
use Rattle.rb_frac.specs.Mechanics.{plus, in_body, in_parent, power_of}
use Rattle.rb_frac.specs.Tables.{vector, unit}
use Rattle.rb_frac.proofs.Ring.{expr}
use Rattle.rb_frac.proofs.Rational.{◌+ℚ◌, qo, exact}
use Rattle.rb_frac.proofs.Sums.{sum_ext}
use Rattle.rb_frac.proofs.Variables.{spatial, of_spatial, identity}
use Rattle.rb_num.specs.Arith.{fractions}
use Rattle.rb_spatial.specs.Inertias.{times}
use Rattle.rb_spatial.specs.Carrying.{carry}
use Rattle.rb_flat.specs.Shape.{Shape, HasBody, HasColumn, ParentsComeFirst, ColumnsFit}
use Rattle.rb_flat.specs.Joint.{along, around}
use Rattle.rb_flat.specs.Mechanism.{Mechanism}
use Rattle.rb_flat.specs.Dynamics.{Unknowns, none, joint_motion, children_force, Moves, no_force, at_rest}
use Rattle.rb_flat.proofs.Equality.{same_fractions, spatials_refl, spatials_sym, spatials_trans, plus_same, motion_product_same, needed_same}
use Rattle.rb_flat.proofs.OneSolution.{same_motion_of}
use Rattle.rb_flat.proofs.Linear.{plus-none, product-none, joint_motion-still}
use Rattle.rb_flat.proofs.Rest.{still}
use Rattle.rb_flat.proofs.Powers.{power, power-same, power-plus, power-none, power-sum, power-dual}
use Rattle.rb_composite.specs.Composite.{no_inertia, own_inertia, children_inertia, AreComposites}
use Rattle.rb_composite.specs.Laws.{CompositeIsRigid}
use Rattle.rb_composite.proofs.Forms.{form, form_is, form-same_second, form-same_inertia, form-sum_of_two, form-carry, form-no_inertia, form-inertia_sum, power-at_rest}
use Rattle.rb_composite.proofs.Paths.{equal_is}

-- ---- forces that have the same powers
-- a force by its powers at the unit motions
probed : {A : Type 0} → Ops A → Force A → Force A
probed o f =
    let s = signs o in
    let shift = λ (k : ℕ). power_of o (along s (unit s k)) f in
    let turn = λ (k : ℕ). power_of o (around s (unit s k)) f in
    record { lin = vector (shift 0) (shift 1) (shift 2); ang = vector (turn 0) (turn 1) (turn 2) }

probed-is : (f : Force Frac) → Spatials Same (probed fracs f) f
unfolding probed power_of vdot
probed-is f = identity (of_spatial f []) (probed expr (spatial 0)) (spatial 0) (refl, refl, refl) (refl, refl, refl)

probed-same : (f g : Force Frac) → ((a : Motion Frac) → power a f ≡ power a g) → Spatials Same (probed fracs f) (probed fracs g)
unfolding probed power
probed-same f g h =
    let s = signs fracs in
    let shift = λ (k : ℕ). exact (power_of fracs (along s (unit s k)) f) (power_of fracs (along s (unit s k)) g) (h (along s (unit s k))) in
    let turn = λ (k : ℕ). exact (power_of fracs (around s (unit s k)) f) (power_of fracs (around s (unit s k)) g) (h (around s (unit s k))) in
    record { lin = record { x = shift 0; y = shift 1; z = shift 2 }; ang = record { x = turn 0; y = turn 1; z = turn 2 } }

pub by_powers : (f g : Force Frac) → ((a : Motion Frac) → power a f ≡ power a g) → Spatials Same f g
by_powers f g h =
    spatials_trans same_fractions (spatials_sym same_fractions (probed-is f)) (spatials_trans same_fractions (probed-same f g h) (probed-is g))

-- ---- a tree whose joints do not move
module _ (shape : Shape) (m : Mechanism Frac) (inertia : ℕ → Inertia Frac) (s : Unknowns Frac) (parents : ParentsComeFirst shape) (fit : ColumnsFit shape)
    (composites : AreComposites shape m inertia) (hs : Moves fracs shape (at_rest fracs m) Same (no_force fracs) s)
    (given : (c : ℕ) → HasColumn shape c → Same (s.joint_acceleration c) fracs.nul) where
  over_joint : (i : ℕ) → HasBody shape i → Spatials Same (joint_motion fracs shape (at_rest fracs m) s.joint_acceleration i) (none fracs)
  over_joint i there =
      spatials_trans same_fractions
      (same_motion_of same_fractions shape (at_rest fracs m) i s.joint_acceleration (λ c. fracs.nul) (λ k l. given (shape.first_column i + k) (fit.there i k there l)))
      (joint_motion-still shape (at_rest fracs m) i)

  -- a body accelerates as its parent does
  follows_parent : (i : ℕ) → HasBody shape i → Spatials Same (s.acceleration i) (in_body fracs (m.place i) (s.acceleration (shape.parent i)))
  follows_parent i there =
      let taken = in_body fracs (m.place i) (s.acceleration (shape.parent i)) in
      spatials_trans same_fractions (hs.accelerations i there)
      (spatials_trans same_fractions
      (plus_same same_fractions
      (plus_same same_fractions (spatials_refl same_fractions taken) (over_joint i there))
      (spatials_trans same_fractions
      (motion_product_same same_fractions (spatials_refl same_fractions (s.speed i)) (joint_motion-still shape (at_rest fracs m) i))
      (product-none (s.speed i))))
      (spatials_trans same_fractions (plus-none (plus fracs taken (none fracs))) (plus-none taken)))

  own_power : (i : ℕ) → HasBody shape i → (a : Motion Frac) → power a (s.needed i) ≡ form (own_inertia shape m i) a (s.acceleration i)
  own_power i there a =
      power-same a (spatials_trans same_fractions (hs.newton_euler i there)
      (needed_same same_fractions (m.mass i) (m.centre i) (m.inertia i) (still shape m parents (no_force fracs) s hs i there.to) (spatials_refl same_fractions (s.acceleration i))))
      ∙ power-at_rest (m.mass i) (m.centre i) (m.inertia i) a (s.acceleration i)

  -- what a child bears is what its composite needs
  abbrev Bears : ℕ → Type 0
  Bears k = (a : Motion Frac) → power a (s.joint_force k) ≡ form (inertia k) a (s.acceleration k)

  child_power : (i k : ℕ) → HasBody shape k → (shape.parent k ≡ i → Bears k) → (a : Motion Frac) (b : Bool) → (shape.parent k == i) ≡ b
      → power a (if b then in_parent fracs (m.place k) (s.joint_force k) else none fracs) ≡ form (if b then carry fractions (m.place k) (inertia k) else no_inertia) a (s.acceleration i)
  child_power i k there bears a true e =
      let same : shape.parent k ≡ i = equal_is (shape.parent k) i e in
      let x = m.place k in
      sym (power-dual x a (s.joint_force k))
      ∙ bears same (in_body fracs x a)
      ∙ form-same_second (inertia k) (in_body fracs x a) (follows_parent k there)
      ∙ ap (λ (p : ℕ). form (inertia k) (in_body fracs x a) (in_body fracs x (s.acceleration p))) same
      ∙ sym (form-carry x (inertia k) a (s.acceleration i))
  child_power i k there bears a false e = power-none a ∙ sym (form-no_inertia a (s.acceleration i))

  children_power : (i : ℕ) → ((k : ℕ) → HasBody shape k → shape.parent k ≡ i → Bears k) → (a : Motion Frac)
      → power a (children_force fracs shape m s.joint_force i) ≡ form (children_inertia shape m inertia i) a (s.acceleration i)
  unfolding children_force children_inertia
  children_power i bears a =
      power-sum a shape.bodies (λ k. if shape.parent (suc k) == i then in_parent fracs (m.place (suc k)) (s.joint_force (suc k)) else none fracs)
      ∙ sum_ext qo shape.bodies _ _ (λ k l.
      let there : HasBody shape (suc k) = record { from = omega arith; to = omega arith } in
      child_power i (suc k) there (bears (suc k) there) a (shape.parent (suc k) == i) refl)
      ∙ sym (form-inertia_sum shape.bodies (λ k. if shape.parent (suc k) == i then carry fractions (m.place (suc k)) (inertia (suc k)) else no_inertia) a (s.acceleration i))

  balance : (i : ℕ) → HasBody shape i → Spatials Same (s.joint_force i) (plus fracs (s.needed i) (children_force fracs shape m s.joint_force i))
  unfolding children_force
  balance i there = spatials_trans same_fractions (spatials_sym same_fractions (plus-none (s.joint_force i))) (hs.balance i there)

  -- a child comes later
  later : (i k n : ℕ) → HasBody shape k → shape.parent k ≡ i → shape.bodies - i < suc n → shape.bodies - k < n
  later i k n there e l =
      let b : shape.parent k < k = parents k there in
      let h : k ≤ shape.bodies = there.to in
      omega arith

  bears_within : (n i : ℕ) → shape.bodies - i < n → HasBody shape i → Bears i
  bears_within zero i l there a = absurd (omega arith)
  bears_within (suc n) i l there a =
      power-same a (balance i there)
      ∙ power-plus a (s.needed i) (children_force fracs shape m s.joint_force i)
      ∙ ap₂ ◌+ℚ◌ (own_power i there a) (children_power i (λ k child e. bears_within n k (later i k n child e l) child) a)
      ∙ sym (form-same_inertia a (s.acceleration i) (composites.each i there) ∙ form-sum_of_two (own_inertia shape m i) (children_inertia shape m inertia i) a (s.acceleration i))

  pub rigid : (i : ℕ) → HasBody shape i → Spatials Same (s.joint_force i) (times fractions (inertia i) (s.acceleration i))
  rigid i there =
      by_powers (s.joint_force i) (times fractions (inertia i) (s.acceleration i))
      (λ a. bears_within (suc (shape.bodies - i)) i (omega arith) there a ∙ form_is (inertia i) a (s.acceleration i))

pub composite_is_rigid : CompositeIsRigid
composite_is_rigid shape m inertia s parents fit composites hs given i there = rigid shape m inertia s parents fit composites hs given i there
