-- A solution of the equations of motion, and a multiple of what a unit acceleration adds, is a solution. So the torques are the bias and the mass
-- table times the accelerations.
use Rattle.std.proofs.Common.{◌≡◌, ℕ, zero, suc, ◌<◌, ◌≤◌, ◌==◌, Bool, true, false, if◌then◌else◌, [], ◌∷◌, refl, sym, arith, subst}
use Rattle.rb_frac.specs.Ops.{signs, sum, vneg}
use Rattle.rb_frac.specs.Frac.{Frac, Same, fracs, add, mul}
use Rattle.rb_frac.specs.Tables.{nothing}
use Rattle.rb_frac.specs.Spatial.{Spatial, Force, Spatials}
use Rattle.rb_frac.specs.Mechanics.{plus, combined, in_body, needed, motion_product}
use Rattle.rb_frac.proofs.Ring.{expr, var}
use Rattle.rb_frac.proofs.Hom.{frac_ring}
use Rattle.rb_frac.proofs.Reduce.{same_refl, same_sym, same_trans}
use Rattle.rb_frac.proofs.Rational.{add_same, mul_same}
use Rattle.rb_frac.proofs.Variables.{at, identity}
use Rattle.rb_flat.specs.Shape.{Shape, HasBody, HasColumn, ParentsComeFirst, ColumnsFit}
use Rattle.rb_flat.specs.Mechanism.{Mechanism}
use Rattle.rb_flat.specs.Dynamics.{Unknowns, none, joint_motion, children_force, followers_power, torque_of, Moves, InverseDynamics, no_force, at_unit, unaccelerated, IsMassTable}
use Rattle.rb_flat.specs.TreeLaws.{HasMassTable, TorqueIsLinear}
use Rattle.rb_flat.proofs.Equality.{same_fractions, spatials_refl, spatials_sym, spatials_trans, plus_same, scaled_same, motion_product_same, needed_same}
use Rattle.rb_flat.proofs.OneSolution.{has_one_solution, moves_agree}
use Rattle.rb_flat.proofs.Rest.{still}
use Rattle.rb_flat.proofs.Linear.{blend, in_body-linear, needed-linear, plus-linear, plus-beside, combined-none, plus-none, product-none, joint_motion-linear, joint_motion-still, children-linear, torque-linear}

combined_same : (k : Frac) {a a' b b' : Spatial Frac} → Spatials Same a a' → Spatials Same b b' → Spatials Same (combined fracs k a b) (combined fracs k a' b')
combined_same k h l = plus_same same_fractions (scaled_same same_fractions {k = k} {k' = k} (same_refl k) h) l

module _ (shape : Shape) (m : Mechanism Frac) where
  -- what accelerations of the joints add: no gravity, no speeds, and no force from outside
  pub record Added (u : Unknowns Frac) : Type 0 where
    pub world : Spatials Same (u.acceleration 0) (none fracs)
    pub accelerations : (i : ℕ) → HasBody shape i → Spatials Same (u.acceleration i)
        (plus fracs (in_body fracs (m.place i) (u.acceleration (shape.parent i))) (joint_motion fracs shape m u.joint_acceleration i))
    pub needs : (i : ℕ) → HasBody shape i → Spatials Same (u.needed i) (needed fracs (m.mass i) (m.centre i) (m.inertia i) (none fracs) (u.acceleration i))
    pub balance : (i : ℕ) → HasBody shape i → Spatials Same (u.joint_force i) (plus fracs (u.needed i) (children_force fracs shape m u.joint_force i))
    pub columns : (c : ℕ) → HasColumn shape c → Same (u.torque c) (torque_of fracs shape m u.joint_force c)

  module _ (parents : ParentsComeFirst shape) (d : ℕ) (u : Unknowns Frac) (h : Moves fracs shape (at_unit fracs m d) Same (no_force fracs) u) where
    no_gravity : Spatials Same (record { lin = vneg fracs (nothing (signs fracs)); ang = nothing (signs fracs) }) (none fracs)
    unfolding vneg
    no_gravity =
        identity [] (record { lin = vneg expr (nothing (signs expr)); ang = nothing (signs expr) }) (none expr) (refl, refl, refl) (refl, refl, refl)

    pub unit_adds : Added u
    unfolding joint_motion children_force torque_of followers_power
    unit_adds = record {
      world = spatials_trans same_fractions h.world_acceleration no_gravity;
      accelerations = λ i there.
          spatials_trans same_fractions (h.accelerations i there)
          (spatials_trans same_fractions
          (plus_same same_fractions (spatials_refl same_fractions _)
          (spatials_trans same_fractions
          (motion_product_same same_fractions (spatials_refl same_fractions (u.speed i)) (joint_motion-still shape (at_unit fracs m d) i))
          (product-none (u.speed i))))
          (plus-none _));
      needs = λ i there.
          spatials_trans same_fractions (h.newton_euler i there) (needed_same same_fractions _ _ _ (still shape (at_unit fracs m d) parents (no_force fracs) u h i there.to) (spatials_refl same_fractions _));
      balance = λ i there. spatials_trans same_fractions (spatials_sym same_fractions (plus-none (u.joint_force i))) (h.balance i there);
      columns = h.columns;
    }

  -- ---- one solution more
  abbrev pub superposed : Frac → Unknowns Frac → Unknowns Frac → Unknowns Frac
  superposed k u s = record {
    speed = s.speed;
    acceleration = λ i. combined fracs k (u.acceleration i) (s.acceleration i);
    needed = λ i. combined fracs k (u.needed i) (s.needed i);
    joint_force = λ i. combined fracs k (u.joint_force i) (s.joint_force i);
    joint_acceleration = λ c. blend k (u.joint_acceleration c) (s.joint_acceleration c);
    torque = λ c. blend k (u.torque c) (s.torque c);
  }

  module _ (outside : ℕ → Force Frac) (k : Frac) (u s : Unknowns Frac) (hu : Added u) (hs : Moves fracs shape m Same outside s) where
    superposed_accelerations : (i : ℕ) → HasBody shape i → Spatials Same (combined fracs k (u.acceleration i) (s.acceleration i))
        (plus fracs
        (plus fracs (in_body fracs (m.place i) (combined fracs k (u.acceleration (shape.parent i)) (s.acceleration (shape.parent i))))
        (joint_motion fracs shape m (λ c. blend k (u.joint_acceleration c) (s.joint_acceleration c)) i))
        (motion_product fracs (s.speed i) (joint_motion fracs shape m m.speed i)))
    superposed_accelerations i there =
        let x = m.place i in
        let more = u.acceleration (shape.parent i) in
        let own = s.acceleration (shape.parent i) in
        let ju = joint_motion fracs shape m u.joint_acceleration i in
        let js = joint_motion fracs shape m s.joint_acceleration i in
        spatials_trans same_fractions (combined_same k (hu.accelerations i there) (hs.accelerations i there))
        (spatials_trans same_fractions (spatials_sym same_fractions (plus-beside k _ _ _))
        (plus_same same_fractions
        (spatials_trans same_fractions (spatials_sym same_fractions (plus-linear k (in_body fracs x more) (in_body fracs x own) ju js))
        (plus_same same_fractions (spatials_sym same_fractions (in_body-linear x k more own))
        (spatials_sym same_fractions (joint_motion-linear shape m i k u.joint_acceleration s.joint_acceleration))))
        (spatials_refl same_fractions _)))

    superposed_balance : (i : ℕ) → HasBody shape i → Spatials Same (plus fracs (combined fracs k (u.joint_force i) (s.joint_force i)) (outside i))
        (plus fracs (combined fracs k (u.needed i) (s.needed i)) (children_force fracs shape m (λ j. combined fracs k (u.joint_force j) (s.joint_force j)) i))
    superposed_balance i there =
        let cu = children_force fracs shape m u.joint_force i in
        let cs = children_force fracs shape m s.joint_force i in
        spatials_trans same_fractions (plus-beside k (u.joint_force i) (s.joint_force i) (outside i))
        (spatials_trans same_fractions (combined_same k (hu.balance i there) (hs.balance i there))
        (spatials_trans same_fractions (spatials_sym same_fractions (plus-linear k (u.needed i) (s.needed i) cu cs))
        (plus_same same_fractions (spatials_refl same_fractions _) (spatials_sym same_fractions (children-linear shape m i k u.joint_force s.joint_force)))))

    superposed_torque : (c : ℕ) → HasColumn shape c → Same (blend k (u.torque c) (s.torque c)) (torque_of fracs shape m (λ j. combined fracs k (u.joint_force j) (s.joint_force j)) c)
    superposed_torque c there =
        let tu = torque_of fracs shape m u.joint_force c in
        let ts = torque_of fracs shape m s.joint_force c in
        same_trans (blend k (u.torque c) (s.torque c)) (blend k tu ts) (torque_of fracs shape m (λ j. combined fracs k (u.joint_force j) (s.joint_force j)) c)
        (add_same (mul k (u.torque c)) (mul k tu) (s.torque c) ts (mul_same k k (u.torque c) tu (same_refl k) (hu.columns c there)) (hs.columns c there))
        (same_sym (torque_of fracs shape m (λ j. combined fracs k (u.joint_force j) (s.joint_force j)) c) (blend k tu ts) (torque-linear shape m c k u.joint_force s.joint_force))

    pub superposed_moves : Moves fracs shape m Same outside (superposed k u s)
    superposed_moves = record {
      world_speed = hs.world_speed;
      world_acceleration = spatials_trans same_fractions (combined_same k hu.world hs.world_acceleration) (combined-none k _);
      speeds = hs.speeds;
      accelerations = superposed_accelerations;
      newton_euler = λ i there. spatials_trans same_fractions (combined_same k (hu.needs i there) (hs.newton_euler i there))
          (spatials_sym same_fractions (needed-linear (m.mass i) (m.centre i) (m.inertia i) (s.speed i) k (u.acceleration i) (s.acceleration i)));
      balance = superposed_balance;
      columns = superposed_torque;
    }

-- ---- unit accelerations
module _ (shape : Shape) (m : Mechanism Frac) (parents : ParentsComeFirst shape) (fit : ColumnsFit shape) where
  pub unit_of : ℕ → Unknowns Frac
  unit_of d = (has_one_solution same_fractions shape (at_unit fracs m d) (no_force fracs) parents fit).solution

  pub unit_of_solves : (d : ℕ) → InverseDynamics fracs shape (at_unit fracs m d) Same (no_force fracs) (unit_of d)
  unfolding unit_of
  unit_of_solves d = (has_one_solution same_fractions shape (at_unit fracs m d) (no_force fracs) parents fit).solves

  pub is_mass_table : IsMassTable shape m (λ c d. (unit_of d).torque c)
  is_mass_table = record {
    entry = λ c d s there there' h. same_sym (s.torque c) ((unit_of d).torque c)
        ((moves_agree same_fractions shape (at_unit fracs m d) (no_force fracs) parents fit s (unit_of d) h.moves (unit_of_solves d).moves
        (λ e own. same_trans (s.joint_acceleration e) (if e == d then fracs.one else fracs.nul) ((unit_of d).joint_acceleration e) (h.given e own)
        (same_sym ((unit_of d).joint_acceleration e) (if e == d then fracs.one else fracs.nul) ((unit_of_solves d).given e own)))).torque c there);
  }

pub has_mass_table : HasMassTable
has_mass_table shape m parents fit = (λ c d. (unit_of shape m parents fit d).torque c, is_mass_table shape m parents fit)

-- the equations do not ask which accelerations are given
pub other_accelerations : (shape : Shape) (m : Mechanism Frac) (outside : ℕ → Force Frac) (given : ℕ → Frac) (s : Unknowns Frac)
    → Moves fracs shape (record m { acceleration = given }) Same outside s → Moves fracs shape m Same outside s
unfolding joint_motion children_force torque_of followers_power
other_accelerations shape m outside given s h = record {
  world_speed = h.world_speed;
  world_acceleration = h.world_acceleration;
  speeds = h.speeds;
  accelerations = h.accelerations;
  newton_euler = h.newton_euler;
  balance = h.balance;
  columns = h.columns;
}

-- ---- the sum over the columns
module _ (shape : Shape) (m : Mechanism Frac) (outside : ℕ → Force Frac) (table : ℕ → ℕ → Frac) (s bias : Unknowns Frac) (parents : ParentsComeFirst shape) (fit : ColumnsFit shape)
    (is : IsMassTable shape m table) (hs : Moves fracs shape m Same outside s) (hb : InverseDynamics fracs shape (unaccelerated fracs m) Same outside bias) where
  abbrev rate : ℕ → Frac
  rate = s.joint_acceleration

  abbrev unit : ℕ → Unknowns Frac
  unit d = unit_of shape m parents fit d

  unit_solves : (d : ℕ) → InverseDynamics fracs shape (at_unit fracs m d) Same (no_force fracs) (unit d)
  unit_solves d = unit_of_solves shape m parents fit d

  -- the bias, and what the accelerations of the first n columns add
  abbrev partly : ℕ → Unknowns Frac
  partly zero = bias
  partly (suc n) = superposed shape m (rate (suc n)) (unit (suc n)) (partly n)

  bias_moves : Moves fracs shape m Same outside bias
  bias_moves = other_accelerations shape m outside (λ c. fracs.nul) bias hb.moves

  partly_moves : (n : ℕ) → Moves fracs shape m Same outside (partly n)
  partly_moves zero = bias_moves
  partly_moves (suc n) =
      superposed_moves shape m outside (rate (suc n)) (unit (suc n)) (partly n)
      (unit_adds shape m parents (suc n) (unit (suc n)) (unit_solves (suc n)).moves) (partly_moves n)

  -- ---- the accelerations of the joints
  blended : (k x x' y y' : Frac) → Same x x' → Same y y' → Same (blend k x y) (blend k x' y')
  blended k x x' y y' h l = add_same (mul k x) (mul k x') y y' (mul_same k k x x' (same_refl k) h) l

  without : (k y : Frac) → Same (blend k fracs.nul y) y
  without k y = frac_ring (at (k ∷ y ∷ [])) (expr.add (expr.mul (var 0) expr.nul) (var 1)) (var 1) refl

  alone : (k : Frac) → Same (blend k fracs.one fracs.nul) k
  alone k = frac_ring (at (k ∷ [])) (expr.add (expr.mul (var 0) expr.one) expr.nul) (var 0) refl

  unit_other : (d c : ℕ) → HasColumn shape c → (c == d) ≡ false → Same ((unit d).joint_acceleration c) fracs.nul
  unit_other d c there e = subst (λ (b : Bool). Same ((unit d).joint_acceleration c) (if b then fracs.one else fracs.nul)) e ((unit_solves d).given c there)

  unit_own : (d c : ℕ) → HasColumn shape c → (c == d) ≡ true → Same ((unit d).joint_acceleration c) fracs.one
  unit_own d c there e = subst (λ (b : Bool). Same ((unit d).joint_acceleration c) (if b then fracs.one else fracs.nul)) e ((unit_solves d).given c there)

  not_yet : (n c : ℕ) → HasColumn shape c → n < c → Same ((partly n).joint_acceleration c) fracs.nul
  not_yet zero c there l = hb.given c there
  not_yet (suc n) c there l =
      let e : (c == suc n) ≡ false = grind arith in
      let u = (unit (suc n)).joint_acceleration c in
      let p = (partly n).joint_acceleration c in
      same_trans (blend (rate (suc n)) u p) (blend (rate (suc n)) fracs.nul fracs.nul) fracs.nul
      (blended (rate (suc n)) u fracs.nul p fracs.nul (unit_other (suc n) c there e) (not_yet n c there (omega arith)))
      (without (rate (suc n)) fracs.nul)

  reached : (n c : ℕ) → HasColumn shape c → c ≤ n → Same ((partly n).joint_acceleration c) (rate c)
  reached zero c there l = absurd (omega arith)
  reached (suc n) c there l = go (c == suc n) refl (λ k. reached n c there k)
    where
      u : Frac
      u = (unit (suc n)).joint_acceleration c

      p : Frac
      p = (partly n).joint_acceleration c

      go : (b : Bool) → (c == suc n) ≡ b → (c ≤ n → Same p (rate c)) → Same (blend (rate (suc n)) u p) (rate c)
      go true e before =
          let last : c ≡ suc n = grind arith in
          subst (λ (d : ℕ). Same (blend (rate (suc n)) u p) (rate d)) (sym last)
          (same_trans (blend (rate (suc n)) u p) (blend (rate (suc n)) fracs.one fracs.nul) (rate (suc n))
          (blended (rate (suc n)) u fracs.one p fracs.nul (unit_own (suc n) c there e) (not_yet n c there (omega arith)))
          (alone (rate (suc n))))
      go false e before =
          let less : c ≤ n = grind arith in
          same_trans (blend (rate (suc n)) u p) (blend (rate (suc n)) fracs.nul (rate c)) (rate c)
          (blended (rate (suc n)) u fracs.nul p (rate c) (unit_other (suc n) c there e) (before less))
          (without (rate (suc n)) (rate c))

  -- ---- the torques
  abbrev added : ℕ → ℕ → Frac
  added c d = mul (table c (suc d)) (rate (suc d))

  no_more : (x : Frac) → Same x (add x fracs.nul)
  no_more x = frac_ring (at (x ∷ [])) (var 0) (expr.add (var 0) expr.nul) refl

  one_more : (k t b w : Frac) → Same (add (mul k t) (add b w)) (add b (add w (mul t k)))
  one_more k t b w =
      frac_ring (at (k ∷ t ∷ b ∷ w ∷ []))
      (expr.add (expr.mul (var 0) (var 1)) (expr.add (var 2) (var 3)))
      (expr.add (var 2) (expr.add (var 3) (expr.mul (var 1) (var 0))))
      refl

  torque_partly : (n c : ℕ) → HasColumn shape c → n ≤ shape.columns → Same ((partly n).torque c) (add (bias.torque c) (sum fracs n (added c)))
  unfolding sum
  torque_partly zero c there l = no_more (bias.torque c)
  torque_partly (suc n) c there l =
      let k = rate (suc n) in
      let u = (unit (suc n)).torque c in
      let t = table c (suc n) in
      let b = bias.torque c in
      let w = sum fracs n (added c) in
      let last : HasColumn shape (suc n) = record { from = omega arith; to = l } in
      same_trans (blend k u ((partly n).torque c)) (blend k t (add b w)) (add b (add w (mul t k)))
      (blended k u t ((partly n).torque c) (add b w)
      (same_sym t u (is.entry c (suc n) (unit (suc n)) there last (unit_solves (suc n))))
      (torque_partly n c there (omega arith)))
      (one_more k t b w)

  pub torque_sums : (c : ℕ) → HasColumn shape c → Same (s.torque c) (add (bias.torque c) (sum fracs shape.columns (added c)))
  torque_sums c there =
      let all = partly shape.columns in
      let agree = moves_agree same_fractions shape m outside parents fit s all hs (partly_moves shape.columns)
      (λ d h. same_sym (all.joint_acceleration d) (rate d) (reached shape.columns d h h.to)) in
      same_trans (s.torque c) (all.torque c) (add (bias.torque c) (sum fracs shape.columns (added c))) (agree.torque c there) (torque_partly shape.columns c there (omega arith))

pub torque_is_linear : TorqueIsLinear
torque_is_linear shape m outside table s bias parents fit is hs hb c there =
    torque_sums shape m outside table s bias parents fit is hs hb c there
