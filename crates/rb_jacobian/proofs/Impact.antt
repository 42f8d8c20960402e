-- The changes of speeds and the impulses of an impact solve the bordered equations, and each solution of these comes from an impact.
use Rattle.std.proofs.Common.{ℕ, suc, ◌+◌, ◌≤◌, [], ◌∷◌, refl}
use Rattle.rb_frac.specs.Ops.{signs, minus, vneg, sum as sum_of}
use Rattle.rb_frac.specs.Frac.{Frac, Same, fracs, add, neg, mul}
use Rattle.rb_frac.specs.Tables.{Table, Tables, nothing}
use Rattle.rb_frac.specs.Spatial.{Force, Spatials}
use Rattle.rb_frac.specs.Mechanics.{plus, in_body}
use Rattle.rb_frac.proofs.Ring.{expr, var}
use Rattle.rb_frac.proofs.Reduce.{same_refl, same_sym, same_trans}
use Rattle.rb_frac.proofs.Rational.{add_same, mul_same, neg_same}
use Rattle.rb_frac.proofs.Hom.{frac_ring}
use Rattle.rb_frac.proofs.Variables.{at, identity}
use Rattle.rb_flat.specs.Shape.{Shape, HasBody, HasColumn, MimicsFit, ParentsComeFirst, ColumnsFit}
use Rattle.rb_flat.specs.Mechanism.{Mechanism}
use Rattle.rb_flat.specs.Dynamics.{Unknowns, none, joint_motion, children_force, followers_power, torque_of, Moves, InverseDynamics, no_force, IsMassTable, SameUnknowns}
use Rattle.rb_flat.specs.Contact.{Constraints, HasRow, RowsFit, rows_on, AreTurns}
use Rattle.rb_flat.specs.Impact.{Impulses, needed_impulse, ImpactDynamics, SameImpulses}
use Rattle.rb_flat.proofs.Equality.{same_fractions, spatials_refl, spatials_sym, spatials_trans, plus_same, motion_product_same, needed_same}
use Rattle.rb_flat.proofs.OneSolution.{has_one_solution, moves_agree, same_motion_of}
use Rattle.rb_flat.proofs.Superposed.{other_accelerations}
use Rattle.rb_flat.proofs.Rest.{still}
use Rattle.rb_flat.proofs.Linear.{plus-none, in_body-none, product-none, joint_motion-still}
use Rattle.rb_flat.proofs.Rows.{impulse_is_force_at_rest}
use Rattle.rb_jacobian.specs.Jacobian.{row_speeds, MovesAt, IsJacobian}
use Rattle.rb_jacobian.specs.Impact.{changes_of, rebound, IsBorderedImpact, IsOneBorderedImpact, ImpactIsBordered, StrikesWith, ImpactFromBordered, ImpactHasOneSolution}
use Rattle.rb_jacobian.proofs.Descent.{moves_alike}
use Rattle.rb_jacobian.proofs.Contact.{sums_same}
use Rattle.rb_jacobian.proofs.Turns.{tables_refl, tables_sym, turns_are_one, rows_on_same, row_speeds_same, other_outside}
use Rattle.rb_jacobian.proofs.AtRest.{stopped, torques_at_rest}
use Rattle.rb_jacobian.proofs.Rebound.{held, row_holds, row_turns}

-- ---- numbers
over : (p q : Frac) → Same p (add (add p (neg q)) q)
over p q = frac_ring (at (p ∷ q ∷ [])) (var 0) (expr.add (expr.add (var 0) (expr.neg (var 1))) (var 1)) refl

balanced : (q : Frac) → Same (add (add fracs.nul q) (neg q)) fracs.nul
balanced q = frac_ring (at (q ∷ [])) (expr.add (expr.add expr.nul (var 0)) (expr.neg (var 0))) expr.nul refl

risen : (v x : Frac) → Same (minus fracs (add v x) v) x
risen v x = frac_ring (at (v ∷ x ∷ [])) (minus expr (expr.add (var 0) (var 1)) (var 0)) (var 1) refl

reached : (v w : Frac) → Same w (add v (minus fracs w v))
reached v w = frac_ring (at (v ∷ w ∷ [])) (var 1) (expr.add (var 0) (minus expr (var 1) (var 0))) refl

no_gravity : Spatials Same (none fracs) (record { lin = vneg fracs (nothing (signs fracs)); ang = nothing (signs fracs) })
unfolding vneg
no_gravity = identity [] (none expr) (record { lin = vneg expr (nothing (signs expr)); ang = nothing (signs expr) }) (refl, refl, refl) (refl, refl, refl)

module _ (shape : Shape) (m : Mechanism Frac) (k : Constraints Frac) where
  -- ---- the changes of an impact are accelerations from rest
  abbrev pub from_rest : Impulses Frac → Unknowns Frac
  from_rest s = record {
    speed = λ i. none fracs;
    acceleration = s.change;
    needed = s.needed;
    joint_force = s.joint_impulse;
    joint_acceleration = changes_of m s;
    torque = λ c. fracs.nul;
  }

  at_rest_over : (i : ℕ) → Spatials Same (joint_motion fracs shape (stopped m) (λ c. fracs.nul) i) (none fracs)
  at_rest_over i = joint_motion-still shape (stopped m) i

  pub rest_moves : (s : Impulses Frac) → ImpactDynamics fracs shape m Same k s → Moves fracs shape (stopped m) Same (rows_on fracs k s.turn s.row_impulse) (from_rest s)
  unfolding joint_motion children_force torque_of followers_power
  rest_moves s h = record {
    world_speed = spatials_refl same_fractions (none fracs);
    world_acceleration = spatials_trans same_fractions h.world_change no_gravity;
    speeds = λ i there.
        spatials_sym same_fractions
        (spatials_trans same_fractions (plus_same same_fractions (in_body-none (m.place i)) (at_rest_over i)) (plus-none (none fracs)));
    accelerations = λ i there.
        spatials_trans same_fractions (h.changes i there)
        (spatials_sym same_fractions
        (spatials_trans same_fractions
        (plus_same same_fractions (spatials_refl same_fractions _)
        (spatials_trans same_fractions (motion_product_same same_fractions (spatials_refl same_fractions (none fracs)) (at_rest_over i)) (product-none (none fracs))))
        (plus-none _)));
    newton_euler = λ i there.
        spatials_trans same_fractions (h.momentum i there) (impulse_is_force_at_rest (m.mass i) (m.centre i) (m.inertia i) (s.change i));
    balance = h.balance;
    columns = h.columns;
  }

  pub speeds_move : (s : Impulses Frac) → ImpactDynamics fracs shape m Same k s → MovesAt shape m m.speed s.speed
  speeds_move s h = record { world = h.world_speed; each = h.speeds }

  pub changes_move : (s : Impulses Frac) → ImpactDynamics fracs shape m Same k s → MovesAt shape m (changes_of m s) s.change
  changes_move s h = record { world = h.world_change; each = h.changes }

  -- the turns may be written otherwise
  pub turned_alike : RowsFit shape k → (turn : ℕ → Table Frac) (s : Impulses Frac) → AreTurns fracs shape m Same turn → ((i : ℕ) → i ≤ shape.bodies → Tables Same (turn i) (s.turn i))
      → ImpactDynamics fracs shape m Same k s → ImpactDynamics fracs shape m Same k (record s { turn = turn })
  turned_alike fits turn s turned same h = record {
    turns = turned;
    world_speed = h.world_speed;
    speeds = h.speeds;
    world_change = h.world_change;
    changes = h.changes;
    momentum = h.momentum;
    balance = λ i there.
        spatials_trans same_fractions
        (plus_same same_fractions (spatials_refl same_fractions (s.joint_impulse i))
        (rows_on_same shape k fits turn s.turn same s.row_impulse s.row_impulse (λ r hr. same_refl (s.row_impulse r)) i))
        (h.balance i there);
    columns = h.columns;
    turned = λ r hr.
        let e = (k.numbers r).restitution in
        let both = λ (i : ℕ). plus fracs (s.speed i) (s.change i) in
        let mine = row_speeds k turn s.speed r in
        let own = row_speeds k s.turn s.speed r in
        same_trans (row_speeds k turn both r) (row_speeds k s.turn both r) (neg (mul e mine)) (row_speeds_same shape k fits turn s.turn same both r hr)
        (same_trans (row_speeds k s.turn both r) (neg (mul e own)) (neg (mul e mine)) (h.turned r hr)
        (same_sym (neg (mul e mine)) (neg (mul e own))
        (neg_same (mul e mine) (mul e own) (mul_same e e mine own (same_refl e) (row_speeds_same shape k fits turn s.turn same s.speed r hr)))));
  }

  module _ (table J : ℕ → ℕ → Frac) (parents : ParentsComeFirst shape) (mimics : MimicsFit shape) (fit : ColumnsFit shape) (fits : RowsFit shape k)
      (mass : IsMassTable shape m table) where
    abbrev product : (ℕ → Frac) → ℕ → Frac
    product x c = sum_of fracs shape.columns (λ d. mul (table c (suc d)) (x (suc d)))

    abbrev along : (ℕ → Frac) → ℕ → Frac
    along x r = sum_of fracs shape.columns (λ c. mul (J r (suc c)) (x (suc c)))

    abbrev across : (ℕ → Frac) → ℕ → Frac
    across lam c = sum_of fracs k.rows (λ r. mul (J (suc r) c) (lam (suc r)))

    -- ---- an impact solves the bordered equations
    module _ (s : Impulses Frac) (is : IsJacobian shape m k s.turn J) (h : ImpactDynamics fracs shape m Same k s) where
      column_solves : (c : ℕ) → HasColumn shape c → Same (product (changes_of m s) c) (add fracs.nul (across s.row_impulse c))
      column_solves c there =
          let p = product (changes_of m s) c in
          let q = across s.row_impulse c in
          let t = add p (neg q) in
          same_trans p (add t q) (add fracs.nul q) (over p q)
          (add_same t fracs.nul q q
          (same_sym fracs.nul t (torques_at_rest shape m parents fit mimics k s.turn table J fits mass is s.row_impulse (from_rest s) (rest_moves s h) c there))
          (same_refl q))

      pub solves_bordered : IsBorderedImpact shape m k table J (changes_of m s) s.row_impulse
      solves_bordered = record {
        columns = λ c l. column_solves c (record { from = l.from; to = l.to });
        rows = λ r l.
            let hr : HasRow k r = record { from = l.from; to = l.to } in
            row_holds k s.turn s.speed s.change shape m J parents fit fits is (changes_of m s) (speeds_move s h) (changes_move s h)
            (k.numbers r).restitution (s.row_impulse r) r hr (h.turned r hr);
      }

    -- ---- from a solution of the bordered equations
    module _ (turn : ℕ → Table Frac) (is : IsJacobian shape m k turn J) (turned : AreTurns fracs shape m Same turn) (x lam : ℕ → Frac)
        (solves : IsBorderedImpact shape m k table J x lam) where
      abbrev after : ℕ → Frac
      after c = add (m.speed c) (x c)

      abbrev rate : ℕ → Frac
      rate c = minus fracs (after c) (m.speed c)

      abbrev outside : ℕ → Force Frac
      outside = rows_on fracs k turn lam

      abbrev driven : Mechanism Frac
      driven = record (stopped m) { acceleration = rate }

      tree : Unknowns Frac
      tree = (has_one_solution same_fractions shape driven outside parents fit).solution

      tree_solves : InverseDynamics fracs shape driven Same outside tree
      unfolding tree
      tree_solves = (has_one_solution same_fractions shape driven outside parents fit).solves

      tree_moves : Moves fracs shape (stopped m) Same outside tree
      tree_moves = other_accelerations shape (stopped m) outside rate tree tree_solves.moves

      before : Unknowns Frac
      before = (has_one_solution same_fractions shape m (no_force fracs) parents fit).solution

      before_solves : InverseDynamics fracs shape m Same (no_force fracs) before
      unfolding before
      before_solves = (has_one_solution same_fractions shape m (no_force fracs) parents fit).solves

      before_moves : MovesAt shape m m.speed before.speed
      before_moves = record { world = before_solves.moves.world_speed; each = before_solves.moves.speeds }

      tree_rate : (c : ℕ) → HasColumn shape c → Same (tree.joint_acceleration c) (x c)
      tree_rate c there = same_trans (tree.joint_acceleration c) (rate c) (x c) (tree_solves.given c there) (risen (m.speed c) (x c))

      no_torque : (c : ℕ) → HasColumn shape c → Same (tree.torque c) fracs.nul
      no_torque c there =
          let p = product tree.joint_acceleration c in
          let q = across lam c in
          same_trans (tree.torque c) (add p (neg q)) fracs.nul (torques_at_rest shape m parents fit mimics k turn table J fits mass is lam tree tree_moves c there)
          (same_trans (add p (neg q)) (add (add fracs.nul q) (neg q)) fracs.nul
          (add_same p (add fracs.nul q) (neg q) (neg q)
          (same_trans p (product x c) (add fracs.nul q) (sums_same shape tree.joint_acceleration x tree_rate (table c)) (solves.columns c (record { from = there.from; to = there.to })))
          (same_refl (neg q)))
          (balanced q))

      change_each : (i : ℕ) → HasBody shape i → Spatials Same (tree.acceleration i)
          (plus fracs (in_body fracs (m.place i) (tree.acceleration (shape.parent i))) (joint_motion fracs shape m rate i))
      unfolding joint_motion
      change_each i there =
          spatials_trans same_fractions (tree_moves.accelerations i there)
          (spatials_trans same_fractions
          (plus_same same_fractions
          (plus_same same_fractions (spatials_refl same_fractions _)
          (same_motion_of same_fractions shape (stopped m) i tree.joint_acceleration rate (λ j l. tree_solves.given (shape.first_column i + j) (fit.there i j there l))))
          (spatials_trans same_fractions (motion_product_same same_fractions (spatials_refl same_fractions (tree.speed i)) (at_rest_over i)) (product-none (tree.speed i))))
          (plus-none _))

      changed : MovesAt shape m rate tree.acceleration
      changed = record {
        world = spatials_trans same_fractions tree_moves.world_acceleration (spatials_sym same_fractions no_gravity);
        each = change_each;
      }

      momentum : (i : ℕ) → HasBody shape i → Spatials Same (tree.needed i) (needed_impulse fracs (m.mass i) (m.centre i) (m.inertia i) (tree.acceleration i))
      momentum i there =
          spatials_trans same_fractions (tree_moves.newton_euler i there)
          (spatials_trans same_fractions
          (needed_same same_fractions (m.mass i) (m.centre i) (m.inertia i) (still shape (stopped m) parents outside tree tree_moves i there.to) (spatials_refl same_fractions (tree.acceleration i)))
          (spatials_sym same_fractions (impulse_is_force_at_rest (m.mass i) (m.centre i) (m.inertia i) (tree.acceleration i))))

      row_held : (r : ℕ) → HasRow k r → Same (held (along m.speed r) (along rate r) (k.numbers r).restitution (lam r)) fracs.nul
      row_held r hr =
          let g = rebound shape m k J r in
          let l = mul fracs.nul (lam r) in
          let a = along rate r in
          let b = along x r in
          same_trans (add (add a g) l) (add (add b g) l) fracs.nul
          (add_same (add a g) (add b g) l l (add_same a b g g (sums_same shape rate x (λ c there. risen (m.speed c) (x c)) (J r)) (same_refl g)) (same_refl l))
          (solves.rows r (record { from = hr.from; to = hr.to }))

      impact : Impulses Frac
      impact = record {
        turn = turn;
        speed = before.speed;
        change = tree.acceleration;
        needed = tree.needed;
        joint_impulse = tree.joint_force;
        speed_after = after;
        row_impulse = lam;
      }

      impact_solves : ImpactDynamics fracs shape m Same k impact
      unfolding impact joint_motion children_force torque_of followers_power
      impact_solves = record {
        turns = turned;
        world_speed = before_moves.world;
        speeds = before_moves.each;
        world_change = changed.world;
        changes = changed.each;
        momentum = momentum;
        balance = tree_moves.balance;
        columns = λ c there.
            let t = torque_of fracs shape m tree.joint_force c in
            same_trans fracs.nul (tree.torque c) t (same_sym (tree.torque c) fracs.nul (no_torque c there)) (tree_moves.columns c there);
        turned = λ r hr.
            row_turns k turn before.speed tree.acceleration shape m J parents fit fits is rate before_moves changed (k.numbers r).restitution (lam r) r hr (row_held r hr);
      }

      pub strikes_with : StrikesWith shape m k turn x lam
      unfolding impact
      strikes_with = record {
        unknowns = impact;
        solves = impact_solves;
        turns = λ i h. tables_refl (turn i);
        speeds = λ c there. same_refl (after c);
        impulses = λ r hr. same_refl (lam r);
      }

      -- ---- any other impact, where the bordered equations have no other solution
      module _ (one : IsOneBorderedImpact shape m k table J x lam) (other : Impulses Frac) (h : ImpactDynamics fracs shape m Same k other) where
        turn_same : (i : ℕ) → i ≤ shape.bodies → Tables Same (other.turn i) (turn i)
        turn_same = turns_are_one shape m other.turn turn parents h.turns turned

        turn_back : (i : ℕ) → i ≤ shape.bodies → Tables Same (turn i) (other.turn i)
        turn_back i l = tables_sym (turn_same i l)

        own_bordered : IsBorderedImpact shape m k table J (changes_of m other) other.row_impulse
        own_bordered = solves_bordered (record other { turn = turn }) is (turned_alike fits turn other turned turn_back h)

        same_impulse : (r : ℕ) → HasRow k r → Same (other.row_impulse r) (lam r)
        same_impulse r hr = (one.only (changes_of m other) other.row_impulse own_bordered).rows r (record { from = hr.from; to = hr.to })

        same_change : (c : ℕ) → HasColumn shape c → Same (changes_of m other c) (x c)
        same_change c there = (one.only (changes_of m other) other.row_impulse own_bordered).columns c (record { from = there.from; to = there.to })

        same_after : (c : ℕ) → HasColumn shape c → Same (other.speed_after c) (after c)
        same_after c there =
            let v = m.speed c in
            let y = changes_of m other c in
            same_trans (other.speed_after c) (add v y) (after c) (reached v (other.speed_after c)) (add_same v v y (x c) (same_refl v) (same_change c there))

        same_rate : (c : ℕ) → HasColumn shape c → Same (changes_of m other c) (tree.joint_acceleration c)
        same_rate c there =
            same_trans (changes_of m other c) (x c) (tree.joint_acceleration c) (same_change c there)
            (same_sym (tree.joint_acceleration c) (x c) (tree_rate c there))

        same_outside : Moves fracs shape (stopped m) Same outside (from_rest other)
        same_outside =
            other_outside shape (stopped m) (rows_on fracs k other.turn other.row_impulse) outside (from_rest other)
            (rows_on_same shape k fits turn other.turn turn_back lam other.row_impulse (λ r hr. same_sym (other.row_impulse r) (lam r) (same_impulse r hr))) (rest_moves other h)

        same_tree : SameUnknowns Same shape (from_rest other) tree
        same_tree = moves_agree same_fractions shape (stopped m) outside parents fit (from_rest other) tree same_outside tree_moves same_rate

        pub same_impact : SameImpulses Same shape k other strikes_with.unknowns
        unfolding strikes_with impact
        same_impact = record {
          turn = turn_same;
          speed = moves_alike shape m parents fit m.speed m.speed other.speed before.speed (λ c there. same_refl (m.speed c)) (speeds_move other h) before_moves;
          change = same_tree.acceleration;
          needed = same_tree.needed;
          joint_impulse = same_tree.joint_force;
          speed_after = same_after;
          row_impulse = same_impulse;
        }

pub impact_is_bordered : ImpactIsBordered
impact_is_bordered shape m k table J s parents mimics fit fits mass is h = solves_bordered shape m k table J parents mimics fit fits mass s is h

pub impact_from_bordered : ImpactFromBordered
impact_from_bordered shape m k turn table J x lam parents mimics fit fits turned mass is solves =
    strikes_with shape m k table J parents mimics fit fits mass turn is turned x lam solves

pub impact_has_one_solution : ImpactHasOneSolution
impact_has_one_solution shape m k turn table J x lam parents mimics fit fits turned mass is one =
    let strikes = strikes_with shape m k table J parents mimics fit fits mass turn is turned x lam one.solves in
    record {
      one = record {
        solution = strikes.unknowns;
        solves = strikes.solves;
        only = λ other h. same_impact shape m k table J parents mimics fit fits mass turn is turned x lam one.solves one other h;
      };
      speeds = strikes.speeds;
      impulses = strikes.impulses;
    }
