-- The equations of inverse dynamics have exactly one solution: motions from the world down, forces from the last body up.
use Rattle.std.proofs.Common.{◌≡◌, ℕ, zero, suc, ◌+◌, ◌-◌, ◌<◌, ◌≤◌, ◌==◌, Bool, true, false, if◌then◌else◌, Option, None, Some, refl, ap, subst, arith}
use Rattle.rb_frac.specs.Ops.{Ops, signs, vneg}
use Rattle.rb_frac.specs.Tables.{nothing}
use Rattle.rb_frac.specs.Spatial.{Spatial, Motion, Force, Spatials}
use Rattle.rb_frac.specs.Mechanics.{plus, opposite, in_body, in_parent, motion_product, needed}
use Rattle.rb_flat.specs.Shape.{Shape, HasBody, HasColumn, ParentsComeFirst, ColumnsFit}
use Rattle.rb_flat.specs.Joint.{column_count}
use Rattle.rb_flat.specs.Mechanism.{Mechanism}
use Rattle.rb_flat.specs.Dynamics.{Unknowns, follows, none, followed, joint_motion, children_force, column_power, followers_power, torque_of, Moves, InverseDynamics, SameUnknowns, HasOneSolution}
use Rattle.rb_flat.specs.TreeLaws.{InverseHasOneSolution}
use Rattle.rb_flat.proofs.Equality.{Equality, same_fractions, mul_same, sum_same, spatials_refl, spatials_sym, spatials_trans, plus_same, scaled_same, in_body_same, in_parent_same, motion_product_same, power_same, needed_same, spatial_sum_same, spatials_less_more, spatials_cancel}

-- ---- what goes down a tree
module _ {B : Type 0} (parent : ℕ → ℕ) (top : B) (step : ℕ → B → B) where
  within : ℕ → ℕ → B
  within zero i = top
  within (suc n) zero = top
  within (suc n) (suc j) = step (suc j) (within n (parent (suc j)))

  pub down : ℕ → B
  down i = within (suc i) i

  enough : (bodies : ℕ) → ((i : ℕ) → 1 ≤ i → i ≤ bodies → parent i < i) → (m n i : ℕ) → i ≤ bodies → i < m → i < n → within m i ≡ within n i
  unfolding within
  enough bodies below zero n i h k l = absurd (omega arith)
  enough bodies below (suc m) zero i h k l = absurd (omega arith)
  enough bodies below (suc m) (suc n) zero h k l = refl
  enough bodies below (suc m) (suc n) (suc j) h k l =
      let b : parent (suc j) < suc j = below (suc j) (omega arith) h in
      ap (step (suc j)) (enough bodies below m n (parent (suc j)) (omega arith) (omega arith) (omega arith))

  pub down_top : down zero ≡ top
  unfolding down within
  down_top = refl

  pub down_step : (bodies : ℕ) → ((i : ℕ) → 1 ≤ i → i ≤ bodies → parent i < i) → (i : ℕ) → 1 ≤ i → i ≤ bodies → down i ≡ step i (down (parent i))
  unfolding down within
  down_step bodies below zero g h = absurd (omega arith)
  down_step bodies below (suc j) g h =
      let b : parent (suc j) < suc j = below (suc j) g h in
      ap (step (suc j)) (enough bodies below (suc j) (suc (parent (suc j))) (parent (suc j)) (omega arith) (omega arith) (omega arith))

-- ---- sums over a tree
module _ {A : Type 0} {o : Ops A} (E : Equality o) (shape : Shape) (m : Mechanism A) where
  pub same_motion_of : (i : ℕ) (f g : ℕ → A) → ((k : ℕ) → k < column_count (shape.kind i) → E.rel (f (shape.first_column i + k)) (g (shape.first_column i + k)))
      → Spatials E.rel (joint_motion o shape m f i) (joint_motion o shape m g i)
  unfolding joint_motion
  same_motion_of i f g h = spatial_sum_same E _ _ _ (λ k l. scaled_same E (follow (shape.mimic i) (h k l)) (spatials_refl E _))
    where
      follow : (mimic : Option ℕ) {x y : A} → E.rel x y → E.rel (followed o mimic (m.multiplier i) x) (followed o mimic (m.multiplier i) y)
      follow None e = e
      follow (Some master) e = mul_same E (E.refl _) e

  -- forces that are the same at each child
  same_children : (i : ℕ) (f g : ℕ → Force A) → ((k : ℕ) → HasBody shape k → shape.parent k ≡ i → Spatials E.rel (f k) (g k))
      → Spatials E.rel (children_force o shape m f i) (children_force o shape m g i)
  unfolding children_force
  same_children i f g h = spatial_sum_same E _ _ _ (λ k l. child k l (shape.parent (suc k) == i) refl)
    where
      child : (k : ℕ) → k < shape.bodies → (b : Bool) → (shape.parent (suc k) == i) ≡ b
          → Spatials E.rel (if b then in_parent o (m.place (suc k)) (f (suc k)) else none o) (if b then in_parent o (m.place (suc k)) (g (suc k)) else none o)
      child k l true e =
          let same : shape.parent (suc k) ≡ i = grind arith in
          in_parent_same E _ (h (suc k) (record { from = omega arith; to = omega arith }) same)
      child k l false e = spatials_refl E _

  same_torque_of : ColumnsFit shape → (c : ℕ) → HasColumn shape c → (f g : ℕ → Force A) → ((k : ℕ) → HasBody shape k → Spatials E.rel (f k) (g k))
      → E.rel (torque_of o shape m f c) (torque_of o shape m g c)
  unfolding torque_of followers_power
  same_torque_of fit c there f g h =
      E.add _ _ _ _ (power_same E _ (h (shape.owner c) (fit.owner c there).there))
      (sum_same E _ _ _ (λ j l. follower j l (follows (shape.mimic (suc j)) (shape.owner c))))
    where
      follower : (j : ℕ) → j < shape.bodies → (b : Bool) → E.rel
          (if b then o.mul (m.multiplier (suc j)) (column_power o shape m f (suc j) (c - shape.first_column (shape.owner c))) else o.nul)
          (if b then o.mul (m.multiplier (suc j)) (column_power o shape m g (suc j) (c - shape.first_column (shape.owner c))) else o.nul)
      follower j l true = mul_same E (E.refl _) (power_same E _ (h (suc j) (record { from = omega arith; to = omega arith })))
      follower j l false = E.refl _

-- ---- the equations
module _ {A : Type 0} {o : Ops A} (E : Equality o) (shape : Shape) (m : Mechanism A) (outside : ℕ → Force A) (parents : ParentsComeFirst shape) where
  below : (i : ℕ) → 1 ≤ i → i ≤ shape.bodies → shape.parent i < i
  below i g h = parents i (record { from = g; to = h })

  -- a child comes later
  later : (i j n : ℕ) → HasBody shape j → shape.parent j ≡ i → shape.bodies - i < suc n → shape.bodies - j < n
  later i j n there e l =
      let b : shape.parent j < j = parents j there in
      let h : j ≤ shape.bodies = there.to in
      omega arith

  equal : {a b : Spatial A} → a ≡ b → Spatials E.rel a b
  equal {a} {b} e = subst (λ (x : Spatial A). Spatials E.rel a x) e (spatials_refl E a)

  -- ---- a solution
  speed_step : ℕ → Motion A → Motion A
  speed_step i v = plus o (in_body o (m.place i) v) (joint_motion o shape m m.speed i)

  speed_of : ℕ → Motion A
  speed_of = down shape.parent (none o) speed_step

  abbrev against_gravity : Motion A
  against_gravity = record { lin = vneg o m.gravity; ang = nothing (signs o) }

  acceleration_step : ℕ → Motion A → Motion A
  acceleration_step i a =
      plus o (plus o (in_body o (m.place i) a) (joint_motion o shape m m.acceleration i))
      (motion_product o (speed_of i) (joint_motion o shape m m.speed i))

  acceleration_of : ℕ → Motion A
  acceleration_of = down shape.parent against_gravity acceleration_step

  need_of : ℕ → Force A
  need_of i = needed o (m.mass i) (m.centre i) (m.inertia i) (speed_of i) (acceleration_of i)

  -- what the joint of a body bears, which at most so many others bear with it
  borne : ℕ → ℕ → Force A
  borne zero i = none o
  borne (suc n) i = plus o (plus o (need_of i) (children_force o shape m (borne n) i)) (opposite o (outside i))

  force_of : ℕ → Force A
  force_of = borne (suc shape.bodies)

  borne_enough : (n k i : ℕ) → HasBody shape i → shape.bodies - i < n → shape.bodies - i < k → Spatials E.rel (borne n i) (borne k i)
  unfolding borne
  borne_enough zero k i h l r = absurd (omega arith)
  borne_enough (suc n) zero i h l r = absurd (omega arith)
  borne_enough (suc n) (suc k) i h l r =
      plus_same E
      (plus_same E (spatials_refl E _)
      (same_children E shape m i (borne n) (borne k) (λ j there e. borne_enough n k j there (later i j n there e l) (later i j k there e r))))
      (spatials_refl E _)

  solution_of : Unknowns A
  solution_of = record {
    speed = speed_of;
    acceleration = acceleration_of;
    needed = need_of;
    joint_force = force_of;
    joint_acceleration = m.acceleration;
    torque = torque_of o shape m force_of;
  }

  balanced : (i : ℕ) → HasBody shape i → Spatials E.rel (plus o (force_of i) (outside i)) (plus o (need_of i) (children_force o shape m force_of i))
  unfolding force_of borne
  balanced i h =
      spatials_trans E (spatials_less_more E _ (outside i))
      (plus_same E (spatials_refl E _)
      (same_children E shape m i (borne shape.bodies) (borne (suc shape.bodies)) (λ j there e. borne_enough _ _ j there (from j there) (from' j there))))
    where
      from : (j : ℕ) → HasBody shape j → shape.bodies - j < shape.bodies
      from j there = omega arith

      from' : (j : ℕ) → HasBody shape j → shape.bodies - j < suc shape.bodies
      from' j there = omega arith

  solution_solves : InverseDynamics o shape m E.rel outside solution_of
  unfolding solution_of speed_of acceleration_of speed_step acceleration_step need_of
  solution_solves = record {
    moves = record {
      world_speed = equal (down_top shape.parent (none o) speed_step);
      world_acceleration = equal (down_top shape.parent against_gravity acceleration_step);
      speeds = λ i h. equal (down_step shape.parent (none o) speed_step shape.bodies below i h.from h.to);
      accelerations = λ i h. equal (down_step shape.parent against_gravity acceleration_step shape.bodies below i h.from h.to);
      newton_euler = λ i h. spatials_refl E _;
      balance = balanced;
      columns = λ c h. E.refl _;
    };
    given = λ c h. E.refl _;
  }

  -- ---- two that move with the same accelerations of the joints agree
  module _ (fit : ColumnsFit shape) (s t : Unknowns A) (hs : Moves o shape m E.rel outside s) (ht : Moves o shape m E.rel outside t)
      (same_given : (c : ℕ) → HasColumn shape c → E.rel (s.joint_acceleration c) (t.joint_acceleration c)) where
    same_speed : (n i : ℕ) → i < n → i ≤ shape.bodies → Spatials E.rel (s.speed i) (t.speed i)
    same_speed zero i l h = absurd (omega arith)
    same_speed (suc n) zero l h = spatials_trans E hs.world_speed (spatials_sym E ht.world_speed)
    same_speed (suc n) (suc j) l h =
        let there : HasBody shape (suc j) = record { from = omega arith; to = h } in
        let b : shape.parent (suc j) < suc j = parents (suc j) there in
        spatials_trans E (hs.speeds (suc j) there)
        (spatials_trans E
        (plus_same E (in_body_same E _ (same_speed n (shape.parent (suc j)) (omega arith) (omega arith))) (spatials_refl E _))
        (spatials_sym E (ht.speeds (suc j) there)))

    speeds_agree : (i : ℕ) → i ≤ shape.bodies → Spatials E.rel (s.speed i) (t.speed i)
    speeds_agree i h = same_speed (suc i) i (omega arith) h

    same_acceleration : (n i : ℕ) → i < n → i ≤ shape.bodies → Spatials E.rel (s.acceleration i) (t.acceleration i)
    same_acceleration zero i l h = absurd (omega arith)
    same_acceleration (suc n) zero l h = spatials_trans E hs.world_acceleration (spatials_sym E ht.world_acceleration)
    same_acceleration (suc n) (suc j) l h =
        let there : HasBody shape (suc j) = record { from = omega arith; to = h } in
        let b : shape.parent (suc j) < suc j = parents (suc j) there in
        spatials_trans E (hs.accelerations (suc j) there)
        (spatials_trans E
        (plus_same E
        (plus_same E (in_body_same E _ (same_acceleration n (shape.parent (suc j)) (omega arith) (omega arith)))
        (same_motion_of E shape m (suc j) s.joint_acceleration t.joint_acceleration (λ k r. same_given _ (fit.there (suc j) k there r))))
        (motion_product_same E (speeds_agree (suc j) h) (spatials_refl E _)))
        (spatials_sym E (ht.accelerations (suc j) there)))

    accelerations_agree : (i : ℕ) → i ≤ shape.bodies → Spatials E.rel (s.acceleration i) (t.acceleration i)
    accelerations_agree i h = same_acceleration (suc i) i (omega arith) h

    same_need : (i : ℕ) → HasBody shape i → Spatials E.rel (s.needed i) (t.needed i)
    same_need i h =
        spatials_trans E (hs.newton_euler i h)
        (spatials_trans E (needed_same E _ _ _ (speeds_agree i h.to) (accelerations_agree i h.to)) (spatials_sym E (ht.newton_euler i h)))

    -- from the last body up
    same_force : (n i : ℕ) → shape.bodies - i < n → HasBody shape i → Spatials E.rel (s.joint_force i) (t.joint_force i)
    same_force zero i l h = absurd (omega arith)
    same_force (suc n) i l h =
        spatials_cancel E (outside i)
        (spatials_trans E (hs.balance i h)
        (spatials_trans E
        (plus_same E (same_need i h)
        (same_children E shape m i s.joint_force t.joint_force (λ j there e. same_force n j (later i j n there e l) there)))
        (spatials_sym E (ht.balance i h))))

    forces_agree : (i : ℕ) → HasBody shape i → Spatials E.rel (s.joint_force i) (t.joint_force i)
    forces_agree i h = same_force (suc (shape.bodies - i)) i (omega arith) h

    same_torque : (c : ℕ) → HasColumn shape c → E.rel (s.torque c) (t.torque c)
    same_torque c h =
        E.trans _ _ _ (hs.columns c h)
        (E.trans _ _ _ (same_torque_of E shape m fit c h s.joint_force t.joint_force forces_agree) (E.sym _ _ (ht.columns c h)))

    pub moves_agree : SameUnknowns E.rel shape s t
    moves_agree = record {
      speed = speeds_agree;
      acceleration = accelerations_agree;
      needed = same_need;
      joint_force = forces_agree;
      joint_acceleration = same_given;
      torque = same_torque;
    }

  pub has_one_solution : ColumnsFit shape → HasOneSolution (SameUnknowns E.rel shape) (InverseDynamics o shape m E.rel outside)
  unfolding solution_of
  has_one_solution fit = record {
    solution = solution_of;
    solves = solution_solves;
    only = λ other h. moves_agree fit other solution_of h.moves solution_solves.moves (λ c there. h.given c there);
  }

pub inverse_has_one_solution : InverseHasOneSolution
inverse_has_one_solution shape m outside parents fit = has_one_solution same_fractions shape m outside parents fit
