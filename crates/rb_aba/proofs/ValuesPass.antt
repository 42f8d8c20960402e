-- The values of a row make passes over numbered premises.
use Rattle.std.proofs.Common.{◌≡◌, ℕ, suc, ◌+◌, ◌<◌, if◌then◌else◌, Bool, true, false, length, Result, Ok, Err, refl, sym, ap, ◌∙◌, subst, arith}
use Rattle.rb_result.specs.Steps.{◌>>=◌}
use Rattle.rb_result.proofs.Results.{then-ok, told-ok, same_ok, grouped}
use Rattle.rb_sweep.specs.Sweep.{sweep, upward, downward}
use Rattle.rb_sweep.proofs.Climbing.{downward_same}
use Rattle.rb_num.specs.declared.interval.NumFault.{NumFault}
use Rattle.rb_num.specs.Interval.{Interval}
use Rattle.rb_num.specs.Refusing.{has_zero}
use Rattle.rb_num.specs.Arith.{intervals, interval_field}
use Rattle.rb_frac.specs.Spatial.{Motion, Force}
use Rattle.rb_spatial.specs.Motions.{cross_dual, power, sum_spatial}
use Rattle.rb_spatial.specs.Inertias.{table, times}
use Rattle.rb_flat.specs.Joint as Kinds
use Rattle.rb_flat.specs.Joint.{Kind}
use Rattle.rb_composite.specs.Composite as Composite
use Rattle.rb_work.specs.declared.names.RowFault.{RowFault}
use Rattle.rb_work.specs.declared.names.NameKind.TheVariants as K
use Rattle.rb_work.specs.Names.{one, named_as, pivot_as}
use Rattle.rb_work.specs.declared.names.RowFault.TheVariants.{Pivot}
use Rattle.rb_work.specs.declared.names.Name.{Name}
use Rattle.rb_work.specs.View.{View, X_at, s_at, v_at, c_at, a_at, IA_at, p_at, U_at, D_at, u_at, Ia_at, pa_at, x_at}
use Rattle.rb_work.specs.Zeros.{zero_motion, zero_force}
use Rattle.rb_tree.specs.Numbers.{inertia_at}
use Rattle.rb_tree.specs.Robot.{Tree, HasBody}
use Rattle.rb_tree.specs.Shape.{kind_at, shape_of}
use Rattle.rb_tree.specs.State.{Row}
use Rattle.rb_tree.proofs.PlaceEncloses.{kind_same}
use Rattle.rb_rnea.specs.Rates.{joint_columns, motion_of}
use Rattle.rb_rnea.specs.Speeds.{velocity_by, v_rule, AreSpeeds}
use Rattle.rb_rnea.specs.Accelerations.{turning_by, c_rule}
use Rattle.rb_articulated.specs.Rules.{and_multiple, less_power, over}
use Rattle.rb_articulated.specs.Articulated.{Articulated, Accelerated}
use Rattle.rb_aba.specs.Articulated as Up
use Rattle.rb_aba.specs.Articulated.{HasJointColumn, column_of, axis_at, torque_at, Rest, give_way, passed_at, rest_from, join_inertia, join_bias, IA_rule, own_bias, bias_by, p_rule, U_rule, D_rule, checked_rest, u_rule, Ia_rule, handed_with, pa_rule, AreArticulated}
use Rattle.rb_aba.specs.Accelerations.{carried_to, moved_by, checked_rate, x_rule, a_rule, AreAccelerated}
use Rattle.rb_aba.proofs.Pass.{Given, IsElimination, IsPass, IsReturn, add_inertia, add_bias}
use Rattle.rb_aba.proofs.Bridge.{sweep_down_last, sweep_down_none, sweep_up_last, sweep_up_none, found_or, found_is, GaveWay, gave_way}

abbrev pub given : Tree → Row → View → Given
given tree row w = record {
  gravity = row.gravity;
  place = X_at w;
  column = axis_at tree.bodies;
  inertia = inertia_at tree.bodies;
  velocity_over = λ i. motion_of tree.bodies i (s_at w i);
  torque = torque_at row;
}

-- what is left of body i once its columns from k on have given way
pub rest_at : Tree → View → ℕ → ℕ → Rest
rest_at tree w i k = found_or (rest_from tree.bodies i k w) (IA_at w i, p_at w i)

pub W_at : Tree → View → ℕ → ℕ → Force Interval
W_at tree w i k = let c = column_of tree.bodies i k in found_or (over interval_field (U_at w c) (D_at w c)) zero_force

-- the acceleration of body i with the columns of its joint before k
pub motion_at : Tree → View → ℕ → ℕ → Motion Interval
motion_at tree w i k = found_or (carried_to tree.bodies i w >>= λ start. sweep (moved_by tree.bodies w i) (upward 0 k) start) zero_motion

abbrev pub articulated : Tree → View → Articulated Interval
articulated tree w = record {
  v = v_at w;
  c = c_at w;
  IA = λ i k. (rest_at tree w i k).0;
  p = λ i k. (rest_at tree w i k).1;
  U = λ i k. U_at w (column_of tree.bodies i k);
  D = λ i k. D_at w (column_of tree.bodies i k);
  W = W_at tree w;
  u = λ i k. u_at w (column_of tree.bodies i k);
  pa = pa_at w;
}

abbrev pub accelerated : Tree → View → Accelerated Interval
accelerated tree w = record { y = motion_at tree w; x = λ i k. x_at w (column_of tree.bodies i k); a = a_at w }

pivot_is : (name : Name) (v : Interval) (x : Interval) → pivot_as name v ≡ Ok x → v ≡ x
pivot_is name v x e = go (has_zero v) e
  where
    go : (b : Bool) → (if b then (let r : Result Interval RowFault = Err (Pivot name v) in r) else Ok v) ≡ Ok x → v ≡ x
    go true e = absurd cc
    go false e = same_ok {E = RowFault} v x e

module _ (tree : Tree) (row : Row) (w : View) (are : AreArticulated tree row w) where
  -- ---- columns
  column : (i k : ℕ) → Composite.HasJointColumn (shape_of tree) i k → HasJointColumn tree i k
  column i k col = record {
    there = record { from = col.there.from; to = col.there.to };
    below = subst (λ (n : Kind). k < Kinds.column_count n) (kind_same tree.bodies i) col.below;
  }

  all_columns : (i : ℕ) → Kinds.column_count (kind_at tree.bodies i) ≡ joint_columns tree.bodies i
  all_columns i = ap Kinds.column_count (kind_same tree.bodies i)

  -- what stands behind u[c]
  record Behind (i k : ℕ) : Type 0 where
    rest : Rest
    next : Rest
    before : rest_from tree.bodies i (suc k) w ≡ Ok rest
    left : less_power intervals (torque_at row (column_of tree.bodies i k)) (axis_at tree.bodies i k) rest.1 ≡ Ok (u_at w (column_of tree.bodies i k))
    gives : give_way (U_at w (column_of tree.bodies i k)) (D_at w (column_of tree.bodies i k)) (u_at w (column_of tree.bodies i k)) rest ≡ Ok next

  behind : (i k : ℕ) → HasJointColumn tree i k → Behind i k
  unfolding u_rule checked_rest
  behind i k col =
      let c = column_of tree.bodies i k in
      let u = u_at w c in
      let e : k + 1 ≡ suc k = omega arith in
      let first = then-ok (rest_from tree.bodies i (k + 1) w) _ u (told-ok _ _ _ (are.each_u i k col)) in
      let second = then-ok (less_power intervals (torque_at row c) (axis_at tree.bodies i k) first.0.1) _ u first.2 in
      let third = then-ok (give_way (U_at w c) (D_at w c) second.0 first.0) _ u second.2 in
      let same : second.0 ≡ u = same_ok {E = NumFault} second.0 u third.2 in
      let wrap : Interval → Result Interval NumFault = λ x. Ok x in
      record {
        rest = first.0;
        next = third.0;
        before = subst (λ (n : ℕ). rest_from tree.bodies i n w ≡ Ok first.0) e first.1;
        left = second.1 ∙ ap wrap same;
        gives = subst (λ (x : Interval). give_way (U_at w c) (D_at w c) x first.0 ≡ Ok third.0) same third.1;
      }

  -- what is left before and after a column
  rest_next : (i k : ℕ) (col : HasJointColumn tree i k) → rest_from tree.bodies i k w ≡ Ok (behind i k col).next
  unfolding rest_from passed_at
  rest_next i k col =
      let b = behind i k col in
      sweep_down_last (passed_at tree.bodies w i) k (joint_columns tree.bodies i) (IA_at w i, p_at w i) b.rest b.next col.below b.before b.gives

  rest_first : (i : ℕ) → rest_from tree.bodies i (joint_columns tree.bodies i) w ≡ Ok (IA_at w i, p_at w i)
  unfolding rest_from
  rest_first i = sweep_down_none (passed_at tree.bodies w i) (joint_columns tree.bodies i) (IA_at w i, p_at w i)

  rest_is : (i k : ℕ) (r : Rest) → rest_from tree.bodies i k w ≡ Ok r → rest_at tree w i k ≡ r
  unfolding rest_at
  rest_is i k r e = found_is (rest_from tree.bodies i k w) r (IA_at w i, p_at w i) e

  pub rest_all : (i : ℕ) → rest_at tree w i (Kinds.column_count (kind_at tree.bodies i)) ≡ (IA_at w i, p_at w i)
  rest_all i = ap (rest_at tree w i) (all_columns i) ∙ rest_is i (joint_columns tree.bodies i) (IA_at w i, p_at w i) (rest_first i)

  W_is : (i k : ℕ) (W : Force Interval) → over interval_field (U_at w (column_of tree.bodies i k)) (D_at w (column_of tree.bodies i k)) ≡ Ok W → W_at tree w i k ≡ W
  unfolding W_at
  W_is i k W e = found_is (over interval_field (U_at w (column_of tree.bodies i k)) (D_at w (column_of tree.bodies i k))) W zero_force e

  U_found : (i k : ℕ) → HasJointColumn tree i k → times intervals (rest_at tree w i (suc k)).0 (axis_at tree.bodies i k) ≡ Ok (U_at w (column_of tree.bodies i k))
  unfolding U_rule
  U_found i k col =
      let e : k + 1 ≡ suc k = omega arith in
      let h = then-ok (rest_from tree.bodies i (k + 1) w) _ (U_at w (column_of tree.bodies i k)) (told-ok _ _ _ (are.each_U i k col)) in
      let is : rest_at tree w i (suc k) ≡ h.0 = rest_is i (suc k) h.0 (subst (λ (n : ℕ). rest_from tree.bodies i n w ≡ Ok h.0) e h.1) in
      rw is h.2

  D_found : (i k : ℕ) → HasJointColumn tree i k → power intervals (axis_at tree.bodies i k) (U_at w (column_of tree.bodies i k)) ≡ Ok (D_at w (column_of tree.bodies i k))
  unfolding D_rule
  D_found i k col =
      let c = column_of tree.bodies i k in
      let h = then-ok (named_as (one K.D c) (power intervals (axis_at tree.bodies i k) (U_at w c))) _ (D_at w c) (are.each_D i k col) in
      let wrap : Interval → Result Interval NumFault = λ x. Ok x in
      told-ok _ _ _ h.1 ∙ ap wrap (pivot_is (one K.D c) h.0 (D_at w c) h.2)

  elimination : (i k : ℕ) → Composite.HasJointColumn (shape_of tree) i k → IsElimination (shape_of tree) (given tree row w) (articulated tree w) i k
  elimination i k has =
      let col = column i k has in
      let b = behind i k col in
      let c = column_of tree.bodies i k in
      let gave : GaveWay (U_at w c) (D_at w c) (u_at w c) b.rest b.next = gave_way (U_at w c) (D_at w c) (u_at w c) b.rest b.next b.gives in
      let before : rest_at tree w i (suc k) ≡ b.rest = rest_is i (suc k) b.rest b.before in
      let after : rest_at tree w i k ≡ b.next = rest_is i k b.next (rest_next i k col) in
      let W : W_at tree w i k ≡ gave.W = W_is i k gave.W gave.divided in
      record {
        U = U_found i k col;
        D = D_found i k col;
        u = rw before b.left;
        W = rw W gave.divided;
        IA = rw (before, W, after) gave.inertia;
        p = rw (before, W, after) gave.bias;
      }

  -- ---- a body
  Ia_is : (j : ℕ) → HasBody tree j → (rest_at tree w j 0).0 ≡ Ia_at w j
  unfolding Ia_rule
  Ia_is j there =
      let h = then-ok (rest_from tree.bodies j 0 w) _ (Ia_at w j) (told-ok _ _ _ (are.each_Ia j there)) in
      let is : rest_at tree w j 0 ≡ h.0 = rest_is j 0 h.0 h.1 in
      rw is (same_ok {E = NumFault} h.0.0 (Ia_at w j) h.2)

  first_inertia : (i : ℕ) → HasBody tree i →
      sweep (add_inertia (shape_of tree) (given tree row w) (articulated tree w) i) (downward (i + 1) (length tree.bodies + 1)) (table intervals (inertia_at tree.bodies i)) ≡ Ok (IA_at w i)
  unfolding IA_rule Up.add_inertia join_inertia
  first_inertia i there =
      downward_same (add_inertia (shape_of tree) (given tree row w) (articulated tree w) i) (Up.add_inertia tree.bodies w i) (i + 1) (length tree.bodies + 1)
      (λ j sum low high. let is : (rest_at tree w j 0).0 ≡ Ia_at w j = Ia_is j (record { from = omega arith; to = omega arith }) in rw is refl)
      (table intervals (inertia_at tree.bodies i))
      ∙ told-ok _ _ _ (are.each_IA i there)

  first_bias : (i : ℕ) → HasBody tree i →
      (times intervals (table intervals (inertia_at tree.bodies i)) (v_at w i) >>= λ h.
      cross_dual intervals (v_at w i) h >>= λ b.
      sweep (add_bias (shape_of tree) (given tree row w) (articulated tree w) i) (downward (i + 1) (length tree.bodies + 1)) b)
      ≡ Ok (p_at w i)
  unfolding p_rule bias_by own_bias Up.add_bias join_bias
  first_bias i there =
      sym (grouped (times intervals (table intervals (inertia_at tree.bodies i)) (v_at w i)) (λ h. cross_dual intervals (v_at w i) h)
      (λ b. sweep (add_bias (shape_of tree) (given tree row w) (articulated tree w) i) (downward (i + 1) (length tree.bodies + 1)) b))
      ∙ told-ok _ _ _ (are.each_p i there)

  handed : (i : ℕ) → HasBody tree i → (times intervals (rest_at tree w i 0).0 (c_at w i) >>= λ f. sum_spatial intervals (rest_at tree w i 0).1 f) ≡ Ok (pa_at w i)
  unfolding pa_rule handed_with
  handed i there =
      let h = then-ok (rest_from tree.bodies i 0 w) _ (pa_at w i) (told-ok _ _ _ (are.each_pa i there)) in
      let is : rest_at tree w i 0 ≡ h.0 = rest_is i 0 h.0 h.1 in
      rw is h.2

  pub a_pass : AreSpeeds tree row w → IsPass (shape_of tree) (given tree row w) (articulated tree w)
  unfolding zero_motion v_rule velocity_by c_rule turning_by
  a_pass speeds = record {
    world = speeds.at_world;
    each_v = λ i has. told-ok _ _ _ (speeds.each_v i (record { from = has.from; to = has.to }));
    each_c = λ i has. told-ok _ _ _ (are.each_c i (record { from = has.from; to = has.to }));
    each_IA = λ i has. rw (rest_all i) (first_inertia i (record { from = has.from; to = has.to }));
    each_p = λ i has. rw (rest_all i) (first_bias i (record { from = has.from; to = has.to }));
    each_column = elimination;
    each_pa = λ i has. handed i (record { from = has.from; to = has.to });
  }

-- ---- from the root on
module _ (tree : Tree) (row : Row) (w : View) (are : AreAccelerated tree row w) where
  -- what stands behind x[c]
  record Rate (i k : ℕ) : Type 0 where
    start : Motion Interval
    y : Motion Interval
    next : Motion Interval
    carried : carried_to tree.bodies i w ≡ Ok start
    before : sweep (moved_by tree.bodies w i) (upward 0 k) start ≡ Ok y
    rate : (less_power intervals (u_at w (column_of tree.bodies i k)) y (U_at w (column_of tree.bodies i k)) >>= λ r. interval_field.div r (D_at w (column_of tree.bodies i k)))
        ≡ Ok (x_at w (column_of tree.bodies i k))
    moved : and_multiple intervals y (x_at w (column_of tree.bodies i k)) (axis_at tree.bodies i k) ≡ Ok next

  rate_of : (i k : ℕ) → HasJointColumn tree i k → Rate i k
  unfolding x_rule checked_rate
  rate_of i k col =
      let c = column_of tree.bodies i k in
      let x = x_at w c in
      let axis = axis_at tree.bodies i k in
      let first = then-ok (named_as (one K.a i) (carried_to tree.bodies i w)) _ x (are.each_x i k col) in
      let second = then-ok (sweep (moved_by tree.bodies w i) (upward 0 k) first.0) _ x (told-ok _ _ _ first.2) in
      let third = then-ok (less_power intervals (u_at w c) second.0 (U_at w c)) _ x second.2 in
      let fourth = then-ok (interval_field.div third.0 (D_at w c)) _ x third.2 in
      let fifth = then-ok (and_multiple intervals second.0 fourth.0 axis) _ x fourth.2 in
      let same : fourth.0 ≡ x = same_ok {E = NumFault} fourth.0 x fifth.2 in
      let wrap : Interval → Result Interval NumFault = λ v. Ok v in
      record {
        start = first.0;
        y = second.0;
        next = fifth.0;
        carried = told-ok _ _ _ first.1;
        before = second.1;
        rate = ap (λ (q : Result Interval NumFault). q >>= λ r. interval_field.div r (D_at w c)) third.1 ∙ fourth.1 ∙ ap wrap same;
        moved = subst (λ (v : Interval). and_multiple intervals second.0 v axis ≡ Ok fifth.0) same fifth.1;
      }

  motion_is : (i k : ℕ) (start y : Motion Interval) → carried_to tree.bodies i w ≡ Ok start → sweep (moved_by tree.bodies w i) (upward 0 k) start ≡ Ok y → motion_at tree w i k ≡ y
  unfolding motion_at
  motion_is i k start y e f =
      found_is (carried_to tree.bodies i w >>= λ s. sweep (moved_by tree.bodies w i) (upward 0 k) s) y zero_motion
      (ap (λ (q : Result (Motion Interval) NumFault). q >>= λ s. sweep (moved_by tree.bodies w i) (upward 0 k) s) e ∙ f)

  motion_next : (i k : ℕ) (col : HasJointColumn tree i k) → motion_at tree w i (suc k) ≡ (rate_of i k col).next
  unfolding moved_by
  motion_next i k col =
      let r = rate_of i k col in
      motion_is i (suc k) r.start r.next r.carried (sweep_up_last (moved_by tree.bodies w i) k r.start r.y r.next r.before r.moved)

  column_again : (i k : ℕ) → Composite.HasJointColumn (shape_of tree) i k → HasJointColumn tree i k
  column_again i k col = record {
    there = record { from = col.there.from; to = col.there.to };
    below = subst (λ (n : Kind). k < Kinds.column_count n) (kind_same tree.bodies i) col.below;
  }

  starts : (i : ℕ) → HasBody tree i → carried_to tree.bodies i w ≡ Ok (motion_at tree w i 0)
  unfolding a_rule
  starts i there =
      let h = then-ok (carried_to tree.bodies i w) _ (a_at w i) (told-ok _ _ _ (are.each_a i there)) in
      let wrap : Motion Interval → Result (Motion Interval) NumFault = λ v. Ok v in
      h.1 ∙ ap wrap (sym (motion_is i 0 h.0 h.0 h.1 (sweep_up_none (moved_by tree.bodies w i) h.0)))

  ends : (i : ℕ) → HasBody tree i → motion_at tree w i (joint_columns tree.bodies i) ≡ a_at w i
  unfolding a_rule motion_at
  ends i there =
      found_is (carried_to tree.bodies i w >>= λ s. sweep (moved_by tree.bodies w i) (upward 0 (joint_columns tree.bodies i)) s) (a_at w i) zero_motion
      (told-ok _ _ _ (are.each_a i there))

  rates_found : (i k : ℕ) → HasJointColumn tree i k →
      (less_power intervals (u_at w (column_of tree.bodies i k)) (motion_at tree w i k) (U_at w (column_of tree.bodies i k)) >>= λ r. interval_field.div r (D_at w (column_of tree.bodies i k)))
      ≡ Ok (x_at w (column_of tree.bodies i k))
  rates_found i k col =
      let r = rate_of i k col in
      let is : motion_at tree w i k ≡ r.y = motion_is i k r.start r.y r.carried r.before in
      rw is r.rate

  parts_found : (i k : ℕ) → HasJointColumn tree i k →
      and_multiple intervals (motion_at tree w i k) (x_at w (column_of tree.bodies i k)) (axis_at tree.bodies i k) ≡ Ok (motion_at tree w i (suc k))
  parts_found i k col =
      let r = rate_of i k col in
      let is : motion_at tree w i k ≡ r.y = motion_is i k r.start r.y r.carried r.before in
      let next : motion_at tree w i (suc k) ≡ r.next = motion_next i k col in
      rw (is, next) r.moved

  pub a_return : IsReturn (shape_of tree) (given tree row w) (articulated tree w) (accelerated tree w)
  unfolding carried_to
  a_return = record {
    world = are.at_world;
    each_start = λ i has. starts i (record { from = has.from; to = has.to });
    each_x = λ i k has. rates_found i k (column_again i k has);
    each_y = λ i k has. parts_found i k (column_again i k has);
    each_a = λ i has.
        let n : Kinds.column_count (kind_at tree.bodies i) ≡ joint_columns tree.bodies i = ap Kinds.column_count (kind_same tree.bodies i) in
        rw n (sym (ends i (record { from = has.from; to = has.to })));
  }
