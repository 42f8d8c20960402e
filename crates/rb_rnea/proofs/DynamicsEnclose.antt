-- The one solution of the equations of motion of each choice lies in the values of a row.
use Rattle.std.proofs.Common.{◌≡◌, ℕ, ◌+◌, ◌-◌, ◌<◌, List, [], ◌∷◌, length, replicate, Option, None, Some, if◌then◌else◌, Result, Ok, refl, sym, ap, ◌∙◌, subst}
use Rattle.std.proofs.Math.Path.{fun_ext}
use Rattle.std.proofs.lemmas.List.{length-replicate}
use Rattle.std.specs.Option.{option_map_or}
use Rattle.rb_result.specs.Steps.{◌>>=◌}
use Rattle.rb_result.proofs.Results.{then-ok, told-ok}
use Rattle.rb_sweep.specs.Sweep.{sweep, upward}
use Rattle.rb_frac.specs.Frac.{Frac, fracs}
use Rattle.rb_frac.specs.Spatial.{Motions}
use Rattle.rb_num.specs.declared.interval.NumFault.{NumFault}
use Rattle.rb_num.specs.Interval.{Interval, zero_interval}
use Rattle.rb_num.specs.Dot.{iv_dot}
use Rattle.rb_num.specs.Refusing.{iv_add}
use Rattle.rb_num.specs.Fraction.{LiesIn}
use Rattle.rb_num.proofs.Bridges.{ok_met}
use Rattle.rb_flat.specs.Joint as Kinds
use Rattle.rb_flat.specs.Joint.{Kind, chosen_column}
use Rattle.rb_flat.specs.Body.{chosen_inertia}
use Rattle.rb_flat.specs.Shape as Flat
use Rattle.rb_flat.specs.Choice.{Choice, IsChoice, items_from}
use Rattle.rb_flat.specs.Mechanism.{mechanism_of}
use Rattle.rb_flat.specs.Dynamics.{follows, no_force}
use Rattle.rb_flat.proofs.OneSolution.{inverse_has_one_solution}
use Rattle.rb_joint.specs.Any.{kind_of, any_column}
use Rattle.rb_joint.specs.Columns.{joint_power}
use Rattle.rb_joint.proofs.JointMotionLies.{column_lies}
use Rattle.rb_work.specs.View.{View, X_at, s_at, v_at, c_at, a_at, b_at, f_at, t_at, T_at}
use Rattle.rb_work.specs.Zeros.{zero_motion}
use Rattle.rb_tree.specs.declared.robot.Body.{Body}
use Rattle.rb_tree.specs.declared.robot.Mimic.{Mimic}
use Rattle.rb_tree.specs.Columns.{first_column, body_of_column}
use Rattle.rb_tree.specs.Numbers.{joint_at, inertia_at, mimic_at}
use Rattle.rb_tree.specs.Robot.{Tree, HasBody, AreBodies}
use Rattle.rb_tree.specs.Robot.{mimic_brackets}
use Rattle.rb_tree.specs.Shape.{kind_at, master_of, shape_of, no_mimic, following_at, brackets_of}
use Rattle.rb_tree.specs.State.{Row, at_place, state_brackets}
use Rattle.rb_tree.specs.Places.{padded}
use Rattle.rb_tree.proofs.Shapes.{mimics_fit}
use Rattle.rb_tree.proofs.NumbersLie.{multiplier_lies, model_of, inertia_lies}
use Rattle.rb_tree.proofs.ColumnLaws.{few_columns}
use Rattle.rb_tree.proofs.ColumnsFit.{columns_fit, parents_first}
use Rattle.rb_tree.proofs.PlaceEncloses.{kind_same, master_same, places_enclose}
use Rattle.rb_rnea.specs.Rates.{motion_by, joint_columns, rates_by, rates_of, motion_of}
use Rattle.rb_rnea.specs.Speeds.{checked_rates, s_rule, velocity_by, v_rule, AreSpeeds}
use Rattle.rb_rnea.specs.Accelerations.{turning_by, c_rule, acceleration_by, a_rule, need_by, b_rule}
use Rattle.rb_rnea.specs.Forces as Forces
use Rattle.rb_rnea.specs.Forces.{f_rule}
use Rattle.rb_rnea.specs.Torques as Torques
use Rattle.rb_rnea.specs.Torques.{t_rule, T_rule}
use Rattle.rb_rnea.specs.Dynamics.{AreDynamics, DynamicsLie, EnclosesDynamics}
use Rattle.rb_rnea.proofs.Enclosed.{then_lies}
use Rattle.rb_rnea.proofs.Pass.{Given, Found, BodyWithin, IsWithin, IsPass}
use Rattle.rb_rnea.proofs.Listed.{filled}
use Rattle.rb_rnea.proofs.RatesLie.{RatesWithin, rates_lie, rate_of, motion_within}
use Rattle.rb_rnea.proofs.Lies.{dynamics_lie}

-- ---- the values
abbrev given : Tree → Row → View → Given
given tree row w = record {
  gravity = row.gravity;
  place = X_at w;
  column = λ i k. any_column (joint_at tree.bodies i) k;
  inertia = inertia_at tree.bodies;
  multiplier = λ i. (following_at tree.bodies i).multiplier;
  velocity_over = λ i. motion_of tree.bodies i (s_at w i);
  acceleration_over = λ i. rates_of tree.bodies row.a i >>= λ rates. motion_of tree.bodies i rates;
}

abbrev found : View → Found
found w = record {
  v = v_at w;
  c = c_at w;
  a = a_at w;
  b = b_at w;
  f = f_at w;
  t = λ i k. at_place (t_at w i) k;
  T = T_at w;
}

-- one more body, by the masters of the bodies
abbrev add_share : Tree → View → ℕ → ℕ → (ℕ → Option ℕ) → ℕ → Interval → Result Interval NumFault
add_share tree w i k masters j sum =
    if follows (masters j) i
    then (iv_dot (((following_at tree.bodies j).multiplier, at_place (t_at w j) k) ∷ []) >>= λ x. iv_add sum x)
    else Ok sum

a_pass : (tree : Tree) (row : Row) (w : View) → AreDynamics tree row w → IsPass (shape_of tree) (given tree row w) (found w)
unfolding zero_motion v_rule velocity_by c_rule turning_by a_rule acceleration_by motion_by b_rule need_by f_rule Forces.add_child Forces.join_child t_rule Torques.add_power T_rule Torques.add_follower
a_pass tree row w are = record {
  world_v = are.speeds.at_world;
  world_a = are.accelerations.at_world;
  each_v = λ i has. told-ok _ _ _ (are.speeds.each_v i (record { from = has.from; to = has.to }));
  each_c = λ i has. told-ok _ _ _ (are.accelerations.each_c i (record { from = has.from; to = has.to }));
  each_a = λ i has. told-ok _ _ _ (are.accelerations.each_a i (record { from = has.from; to = has.to }));
  each_b = λ i has. told-ok _ _ _ (are.accelerations.each_b i (record { from = has.from; to = has.to }));
  each_f = λ i has. told-ok _ _ _ (are.forces.each_f i (record { from = has.from; to = has.to }));
  each_t = λ i k has l.
      filled (λ k. joint_power (joint_at tree.bodies i) k (f_at w i)) zero_interval 6 (joint_columns tree.bodies i) (replicate 6 zero_interval) (t_at w i)
      (few_columns (kind_of (joint_at tree.bodies i))) (length-replicate 6 zero_interval)
      (told-ok _ _ _ (are.torques.each_t i (record { from = has.from; to = has.to })))
      k (subst (λ (n : Kind). k < Kinds.column_count n) (kind_same tree.bodies i) l);
  each_T = λ c has.
      let i = body_of_column tree.bodies c in
      let k = c - first_column tree.bodies i in
      subst (λ (masters : ℕ → Option ℕ). sweep (add_share tree w i k masters) (upward 1 (length tree.bodies + 1)) (at_place (t_at w i) k) ≡ Ok (T_at w c))
      (fun_ext (λ j. sym (master_same tree.bodies j)))
      (told-ok _ _ _ (are.torques.each_T c (record { from = has.from; to = has.to })));
}

-- ---- the rates
own_rates : (bodies : List Body) (numbers : List Interval) (i : ℕ) (m : Option Mimic) → master_of m ≡ None
    → rates_by bodies numbers i m ≡ Ok (padded 6 (items_from (at_place numbers) (first_column bodies i - 1) (joint_columns bodies i)))
own_rates bodies numbers i None h = refl
own_rates bodies numbers i (Some mimic) h = absurd cc

masters_rates : (bodies : List Body) (numbers : List Interval) (i master : ℕ) (m : Option Mimic) → master_of m ≡ Some master
    → rates_by bodies numbers i m ≡ (iv_dot (((option_map_or mimic_brackets m no_mimic).multiplier, at_place numbers (first_column bodies i - 1)) ∷ []) >>= λ x. Ok (padded 6 (x ∷ [])))
masters_rates bodies numbers i master None h = absurd cc
masters_rates bodies numbers i master (Some mimic) h = refl

pub s_is : (tree : Tree) (row : Row) (w : View) → AreSpeeds tree row w → (i : ℕ) → HasBody tree i → rates_of tree.bodies row.v i ≡ Ok (s_at w i)
unfolding s_rule checked_rates
s_is tree row w are i has =
    let first = then-ok (rates_of tree.bodies row.v i) (λ rates. motion_of tree.bodies i rates >>= λ m. Ok rates) (s_at w i) (told-ok _ _ _ (are.each_s i has)) in
    let second = then-ok (motion_of tree.bodies i first.0) (λ m. Ok first.0) (s_at w i) first.2 in
    first.1 ∙ second.2

module _ (tree : Tree) (row : Row) (kept : AreBodies tree.bodies) (c : Choice) (chosen : IsChoice (brackets_of tree) (state_brackets row) c) where
  pub rates_within : (i : ℕ) (rate : ℕ → Frac) (numbers : List Interval) → HasBody tree i
      → ((k : ℕ) → Flat.HasColumn (shape_of tree) k → LiesIn (rate k) (at_place numbers (k - 1)))
      → RatesWithin (Kinds.column_count (kind_at tree.bodies i)) (rate_of (shape_of tree) c rate i) (rates_of tree.bodies numbers i)
  unfolding rates_of
  rates_within i rate numbers has lies =
      rates_lie (shape_of tree) i (c.joint i).multiplier rate (following_at tree.bodies i).multiplier (at_place numbers) (λ xs. replicate (6 - length xs) zero_interval)
      (rates_by tree.bodies numbers i (mimic_at tree.bodies i)) (columns_fit tree kept) (mimics_fit tree kept) (record { from = has.from; to = has.to }) lies
      (λ master e. multiplier_lies tree row c chosen i master has e)
      (λ e. own_rates tree.bodies numbers i (mimic_at tree.bodies i) (sym (master_same tree.bodies i) ∙ e)
      ∙ ap (λ (k : Kind). Ok (padded 6 (items_from (at_place numbers) (first_column tree.bodies i - 1) (Kinds.column_count k)))) (sym (kind_same tree.bodies i)))
      (λ master e. masters_rates tree.bodies numbers i master (mimic_at tree.bodies i) (sym (master_same tree.bodies i) ∙ e))

  module _ (w : View) (are : AreDynamics tree row w) where
    body_within : (i : ℕ) → HasBody tree i → BodyWithin (shape_of tree) (mechanism_of (shape_of tree) c) (given tree row w) i
    unfolding mechanism_of state_brackets chosen_inertia motion_of
    body_within i has =
        let joint = joint_at tree.bodies i in
        let kind = sym (kind_same tree.bodies i) in
        let model = model_of tree row kept c chosen i has in
        record {
          place = (places_enclose tree row w kept are.places).at c i chosen has;
          column = λ k l. subst (λ (n : Kind). Motions LiesIn (chosen_column n (c.joint i) k) (any_column joint k)) kind (column_lies joint (c.joint i) k model);
          inertia = inertia_lies tree row kept c chosen i has;
          multiplier = λ master e. multiplier_lies tree row c chosen i master has e;
          velocity_over = motion_within (shape_of tree) c i joint c.speed (s_at w i) kind model
              (ok_met (s_is tree row w are.speeds i has) (rates_within i c.speed row.v has (λ k col. (chosen.columns k col).speed)));
          acceleration_over = then_lies (rates_within i c.acceleration row.a has (λ k col. (chosen.columns k col).acceleration))
              (λ rates lie. motion_within (shape_of tree) c i joint c.acceleration rates kind model lie);
        }

    within : IsWithin (shape_of tree) (mechanism_of (shape_of tree) c) (given tree row w)
    unfolding mechanism_of state_brackets
    within = record { gravity = chosen.gravity; each = λ i has. body_within i (record { from = has.from; to = has.to }) }

    dynamics_within : DynamicsLie tree row w c
    dynamics_within =
        let shape = shape_of tree in
        let m = mechanism_of shape c in
        let one = inverse_has_one_solution shape m (no_force fracs) (parents_first tree kept) (columns_fit tree kept) in
        let lies = dynamics_lie shape m (given tree row w) (found w) one.solution (parents_first tree kept) (columns_fit tree kept) (mimics_fit tree kept) within (a_pass tree row w are) one.solves in
        record {
          one = one;
          lies = record {
            velocity = lies.speed;
            acceleration = lies.acceleration;
            joint_force = λ i has. lies.joint_force i (record { from = has.from; to = has.to });
            torque = λ k has. lies.torque k (record { from = has.from; to = has.to });
          };
        }

pub dynamics_enclose : (tree : Tree) (row : Row) (w : View) → AreBodies tree.bodies → AreDynamics tree row w → EnclosesDynamics tree row w
dynamics_enclose tree row w kept are = record { at = λ c chosen. dynamics_within tree row kept c chosen w are }
