-- Every tree has articulated inertias and biases, and the accelerations that they give.
use Rattle.std.proofs.Common.{◌≡◌, ℕ, zero, suc, ◌+◌, ◌-◌, ◌<◌, ◌≤◌, ◌==◌, Bool, true, false, if◌then◌else◌, refl, sym, ◌∙◌, ap, subst, arith}
use mathlib.Core.Path.{ap₂}
use Rattle.rb_frac.specs.Ops.{signs, vneg}
use Rattle.rb_frac.specs.Frac.{Frac, Same, fracs}
use Rattle.rb_frac.specs.Tables.{nothing}
use Rattle.rb_frac.specs.Spatial.{Spatial, Motion, Force, Inertia, Spatials, Inertias}
use Rattle.rb_frac.specs.Mechanics.{plus, in_parent}
use Rattle.rb_frac.proofs.Reduce.{same_refl}
use Rattle.rb_num.specs.Arith.{fractions, fraction_field}
use Rattle.rb_spatial.specs.Motions.{apply, cross, cross_dual, power}
use Rattle.rb_spatial.specs.Inertias.{times, sum as sum_of_two, less_outer}
use Rattle.rb_flat.specs.Shape.{Shape, HasBody, ParentsComeFirst}
use Rattle.rb_flat.specs.Mechanism.{Mechanism}
use Rattle.rb_flat.specs.Dynamics.{none, spatial_sum, children_force}
use Rattle.rb_flat.proofs.Equality.{same_fractions, spatials_refl}
use Rattle.rb_flat.proofs.OneSolution.{down, down_top, down_step}
use Rattle.rb_composite.specs.Composite.{HasJointColumn, no_inertia, own_inertia, children_inertia}
use Rattle.rb_composite.proofs.Exists.{inertias_same, same_children}
use Rattle.rb_articulated.specs.Rules.{and_multiple, less_power, over}
use Rattle.rb_articulated.specs.Articulated.{Articulated, Accelerated, columns, speed_over, GivesWay, AreArticulated, AreAccelerated}
use Rattle.rb_articulated.specs.Laws.{HasArticulated, HasFound}

equal_spatials : {a b : Spatial Frac} → a ≡ b → Spatials Same a b
equal_spatials {a} {b} e = subst (λ (x : Spatial Frac). Spatials Same a x) e (spatials_refl same_fractions a)

equal_inertias : {a b : Inertia Frac} → a ≡ b → Inertias Same a b
equal_inertias {a} {b} e = subst (λ (x : Inertia Frac). Inertias Same a x) e (inertias_same a)

spatial_sum_ext : (n : ℕ) (f g : ℕ → Spatial Frac) → ((k : ℕ) → k < n → f k ≡ g k) → spatial_sum fracs n f ≡ spatial_sum fracs n g
unfolding spatial_sum
spatial_sum_ext zero f g h = refl
spatial_sum_ext (suc n) f g h = ap₂ (plus fracs) (spatial_sum_ext n f g (λ k l. h k (omega arith))) (h n (omega arith))

-- what is left of a body: its inertia and its bias
record Rest : Type 0 where
  inertia : Inertia Frac
  bias : Force Frac

module _ (shape : Shape) (m : Mechanism Frac) (parents : ParentsComeFirst shape) where
  below : (i : ℕ) → 1 ≤ i → i ≤ shape.bodies → shape.parent i < i
  below i g h = parents i (record { from = g; to = h })

  -- ---- velocities
  speed_step : ℕ → Motion Frac → Motion Frac
  speed_step i up = plus fracs (apply fractions (m.place i) up) (speed_over shape m i)

  v_of : ℕ → Motion Frac
  v_of = down shape.parent (none fracs) speed_step

  c_of : ℕ → Motion Frac
  c_of i = cross fractions (v_of i) (speed_over shape m i)

  -- ---- one body
  abbrev U_by : ℕ → ℕ → Rest → Force Frac
  U_by i k r = times fractions r.inertia (m.column i k)

  abbrev D_by : ℕ → ℕ → Rest → Frac
  D_by i k r = power fractions (m.column i k) (U_by i k r)

  abbrev W_by : ℕ → ℕ → Rest → Force Frac
  W_by i k r = over fraction_field (U_by i k r) (D_by i k r)

  abbrev u_by : ℕ → ℕ → Rest → Frac
  u_by i k r = less_power fractions (m.torque (shape.first_column i + k)) (m.column i k) r.bias

  -- column k gives way
  eliminate : ℕ → ℕ → Rest → Rest
  eliminate i k r = record {
    inertia = less_outer fractions r.inertia (U_by i k r) (W_by i k r);
    bias = and_multiple fractions r.bias (u_by i k r) (W_by i k r);
  }

  -- so many columns give way, from the last on
  without : ℕ → Rest → ℕ → Rest
  without i r zero = r
  without i r (suc j) = eliminate i (columns shape m i - suc j) (without i r j)

  handed_by : ℕ → Rest → Force Frac
  handed_by i r = plus fracs r.bias (times fractions r.inertia (c_of i))

  abbrev own_bias : ℕ → Force Frac
  own_bias i = cross_dual fractions (v_of i) (times fractions (own_inertia shape m i) (v_of i))

  -- before a column gives way
  with_children : (ℕ → Rest) → ℕ → Rest
  with_children f i = record {
    inertia = sum_of_two fractions (own_inertia shape m i) (children_inertia shape m (λ j. (f j).inertia) i);
    bias = plus fracs (own_bias i) (children_force fracs shape m (λ j. handed_by j (f j)) i);
  }

  -- ---- from the last body up
  -- of a body with at most so many generations below it
  bearing : ℕ → ℕ → Rest
  bearing zero i = record { inertia = no_inertia; bias = none fracs }
  bearing (suc n) i = without i (with_children (bearing n) i) (columns shape m i)

  same_forces : (i : ℕ) (f g : ℕ → Force Frac) → ((k : ℕ) → HasBody shape k → shape.parent k ≡ i → f k ≡ g k) → children_force fracs shape m f i ≡ children_force fracs shape m g i
  unfolding children_force
  same_forces i f g h = spatial_sum_ext shape.bodies _ _ (λ k l. child k l (shape.parent (suc k) == i) refl)
    where
      child : (k : ℕ) → k < shape.bodies → (b : Bool) → (shape.parent (suc k) == i) ≡ b
          → (if b then in_parent fracs (m.place (suc k)) (f (suc k)) else none fracs) ≡ (if b then in_parent fracs (m.place (suc k)) (g (suc k)) else none fracs)
      child k l true e =
          let same : shape.parent (suc k) ≡ i = grind arith in
          ap (in_parent fracs (m.place (suc k))) (h (suc k) (record { from = omega arith; to = omega arith }) same)
      child k l false e = refl

  same_rest : (i : ℕ) (f g : ℕ → Rest) → ((k : ℕ) → HasBody shape k → shape.parent k ≡ i → f k ≡ g k) → with_children f i ≡ with_children g i
  unfolding with_children
  same_rest i f g h =
      ap₂ (λ (x : Inertia Frac) (y : Force Frac). record { inertia = sum_of_two fractions (own_inertia shape m i) x; bias = plus fracs (own_bias i) y })
      (same_children shape m parents i (λ j. (f j).inertia) (λ j. (g j).inertia) (λ k there e. ap (λ (r : Rest). r.inertia) (h k there e)))
      (same_forces i (λ j. handed_by j (f j)) (λ j. handed_by j (g j)) (λ k there e. ap (handed_by k) (h k there e)))

  -- a child comes later
  later : (i j n : ℕ) → HasBody shape j → shape.parent j ≡ i → shape.bodies - i < suc n → shape.bodies - j < n
  later i j n there e l =
      let b : shape.parent j < j = parents j there in
      let h : j ≤ shape.bodies = there.to in
      omega arith

  enough : (n k i : ℕ) → HasBody shape i → shape.bodies - i < n → shape.bodies - i < k → bearing n i ≡ bearing k i
  unfolding bearing
  enough zero k i h l r = absurd (omega arith)
  enough (suc n) zero i h l r = absurd (omega arith)
  enough (suc n) (suc k) i h l r =
      ap (λ (x : Rest). without i x (columns shape m i))
      (same_rest i (bearing n) (bearing k) (λ j there e. enough n k j there (later i j n there e l) (later i j k there e r)))

  rest_of : ℕ → Rest
  rest_of = bearing (suc shape.bodies)

  rest-is : (i : ℕ) → HasBody shape i → rest_of i ≡ without i (with_children rest_of i) (columns shape m i)
  unfolding rest_of bearing
  rest-is i there =
      ap (λ (x : Rest). without i x (columns shape m i))
      (same_rest i (bearing shape.bodies) (bearing (suc shape.bodies)) (λ j at e. enough shape.bodies (suc shape.bodies) j at (before j at) (before' j at)))
    where
      before : (j : ℕ) → HasBody shape j → shape.bodies - j < shape.bodies
      before j at = omega (arith, at.from, at.to)

      before' : (j : ℕ) → HasBody shape j → shape.bodies - j < suc shape.bodies
      before' j at = omega arith

  -- ---- once the columns from k on have given way
  from : ℕ → ℕ → Rest
  from i k = without i (with_children rest_of i) (columns shape m i - k)

  from-all : (i : ℕ) → from i (columns shape m i) ≡ with_children rest_of i
  unfolding from without
  from-all i = let e : columns shape m i - columns shape m i ≡ 0 = omega arith in ap (without i (with_children rest_of i)) e

  from-none : (i : ℕ) → HasBody shape i → from i 0 ≡ rest_of i
  unfolding from
  from-none i there =
      let e : columns shape m i - 0 ≡ columns shape m i = omega arith in
      ap (without i (with_children rest_of i)) e ∙ sym (rest-is i there)

  from-next : (i k : ℕ) → k < columns shape m i → from i k ≡ eliminate i k (from i (suc k))
  unfolding from without
  from-next i k l =
      let n = columns shape m i in
      let e : n - k ≡ suc (n - suc k) = omega arith in
      let e' : n - suc (n - suc k) ≡ k = omega arith in
      ap (without i (with_children rest_of i)) e
      ∙ ap (λ (c : ℕ). eliminate i c (without i (with_children rest_of i) (n - suc k))) e'

  t_of : Articulated Frac
  t_of = record {
    v = v_of;
    c = c_of;
    IA = λ i k. (from i k).inertia;
    p = λ i k. (from i k).bias;
    U = λ i k. U_by i k (from i (suc k));
    D = λ i k. D_by i k (from i (suc k));
    W = λ i k. W_by i k (from i (suc k));
    u = λ i k. u_by i k (from i (suc k));
    pa = λ i. handed_by i (from i 0);
  }

  first_inertia : (i : ℕ) → (from i (columns shape m i)).inertia ≡ sum_of_two fractions (own_inertia shape m i) (children_inertia shape m (λ j. (from j 0).inertia) i)
  unfolding with_children
  first_inertia i =
      ap (λ (r : Rest). r.inertia) (from-all i)
      ∙ ap (sum_of_two fractions (own_inertia shape m i))
      (same_children shape m parents i (λ j. (rest_of j).inertia) (λ j. (from j 0).inertia) (λ j there e. ap (λ (r : Rest). r.inertia) (sym (from-none j there))))

  first_bias : (i : ℕ) → (from i (columns shape m i)).bias ≡ plus fracs (own_bias i) (children_force fracs shape m (λ j. handed_by j (from j 0)) i)
  unfolding with_children
  first_bias i =
      ap (λ (r : Rest). r.bias) (from-all i)
      ∙ ap (plus fracs (own_bias i))
      (same_forces i (λ j. handed_by j (rest_of j)) (λ j. handed_by j (from j 0)) (λ j there e. ap (handed_by j) (sym (from-none j there))))

  gives_way : (i k : ℕ) → HasJointColumn shape i k → GivesWay shape m t_of i k
  unfolding t_of eliminate
  gives_way i k col = record {
    U = spatials_refl same_fractions (U_by i k (from i (suc k)));
    D = same_refl (D_by i k (from i (suc k)));
    W = spatials_refl same_fractions (W_by i k (from i (suc k)));
    u = same_refl (u_by i k (from i (suc k)));
    IA = equal_inertias (ap (λ (r : Rest). r.inertia) (from-next i k col.below));
    p = equal_spatials (ap (λ (r : Rest). r.bias) (from-next i k col.below));
  }

  are_articulated : AreArticulated shape m t_of
  unfolding t_of v_of c_of speed_step handed_by
  are_articulated = record {
    world = equal_spatials (down_top shape.parent (none fracs) speed_step);
    speeds = λ i there. equal_spatials (down_step shape.parent (none fracs) speed_step shape.bodies below i there.from there.to);
    turnings = λ i there. spatials_refl same_fractions (c_of i);
    inertias = λ i there. equal_inertias (first_inertia i);
    biases = λ i there. equal_spatials (first_bias i);
    eliminated = gives_way;
    handed = λ i there. spatials_refl same_fractions (handed_by i (from i 0));
  }

  pub articulated : (t : Articulated Frac) × AreArticulated shape m t
  articulated = (t_of, are_articulated)

  -- ---- from the root on
  module _ (t : Articulated Frac) where
    start_by : ℕ → Motion Frac → Motion Frac
    start_by i up = plus fracs (apply fractions (m.place i) up) (t.c i)

    x_by : ℕ → ℕ → Motion Frac → Frac
    x_by i k y = fraction_field.div (less_power fractions (t.u i k) y (t.U i k)) (t.D i k)

    -- column after column
    partly : ℕ → Motion Frac → ℕ → Motion Frac
    partly i y zero = y
    partly i y (suc k) = and_multiple fractions (partly i y k) (x_by i k (partly i y k)) (m.column i k)

    acceleration_step : ℕ → Motion Frac → Motion Frac
    acceleration_step i up = partly i (start_by i up) (columns shape m i)

    abbrev against_gravity : Motion Frac
    against_gravity = record { lin = vneg fracs m.gravity; ang = nothing (signs fracs) }

    a_of : ℕ → Motion Frac
    a_of = down shape.parent against_gravity acceleration_step

    y_of : ℕ → ℕ → Motion Frac
    y_of i k = partly i (start_by i (a_of (shape.parent i))) k

    d_of : Accelerated Frac
    d_of = record { y = y_of; x = λ i k. x_by i k (y_of i k); a = a_of }

    are_accelerated : AreAccelerated shape m t d_of
    unfolding d_of y_of a_of x_by partly start_by acceleration_step
    are_accelerated = record {
      world = equal_spatials (down_top shape.parent against_gravity acceleration_step);
      starts = λ i there. spatials_refl same_fractions (start_by i (a_of (shape.parent i)));
      rates = λ i k col. same_refl (x_by i k (y_of i k));
      parts = λ i k col. spatials_refl same_fractions (y_of i (suc k));
      ends = λ i there. equal_spatials (down_step shape.parent against_gravity acceleration_step shape.bodies below i there.from there.to);
    }

    pub accelerated : (d : Accelerated Frac) × AreAccelerated shape m t d
    accelerated = (d_of, are_accelerated)

pub has_articulated : HasArticulated
has_articulated shape m parents = articulated shape m parents

pub has_found : HasFound
has_found shape m t parents = accelerated shape m parents t
