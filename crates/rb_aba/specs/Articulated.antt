-- Articulated inertias and biases, from the leaves to the root, where no joint follows another. Featherstone, Rigid Body Dynamics Algorithms,
-- chapter 7.
use Rattle.std.specs.Prelude.{◌≡◌, ℕ, ◌+◌, ◌-◌, ◌<◌, ◌==◌, if◌then◌else◌, List, [], ◌∷◌, ◌++◌, length, flat_map, Result, Ok}
use Rattle.rb_num.specs.Interval.{Interval}
use Rattle.rb_num.specs.Arith.{intervals, interval_field}
use Rattle.rb_num.specs.declared.interval.NumFault.{NumFault}
use Rattle.rb_frac.specs.Spatial.{Motion, Force, Inertia}
use Rattle.rb_result.specs.Steps.{◌>>=◌}
use Rattle.rb_sweep.specs.Sweep.{sweep, downward}
use Rattle.rb_spatial.specs.Motions.{apply_dual, cross_dual, power, sum_spatial}
use Rattle.rb_spatial.specs.Inertias.{table, times, less_outer, sum as sum_of_two}
use Rattle.rb_spatial.specs.Carrying.{carry}
use Rattle.rb_joint.specs.Any.{any_column}
use Rattle.rb_work.specs.declared.names.NameKind.TheVariants as K
use Rattle.rb_work.specs.declared.names.RowFault.{RowFault}
use Rattle.rb_work.specs.Names.{one, named_as, pivot_as}
use Rattle.rb_work.specs.View.{View, X_at, v_at, c_at, IA_at, p_at, U_at, D_at, u_at, Ia_at, pa_at}
use Rattle.rb_work.specs.Place.{Place, c_of, IA_of, p_of, U_of, packed_of, u_of, Ia_of, pa_of}
use Rattle.rb_tree.specs.declared.robot.Body.{Body}
use Rattle.rb_tree.specs.Columns.{parent_at, first_column}
use Rattle.rb_tree.specs.Numbers.{joint_at, inertia_at}
use Rattle.rb_tree.specs.Robot.{Tree, HasBody}
use Rattle.rb_tree.specs.State.{Row, at_place}
use Rattle.rb_rnea.specs.Rates.{joint_columns}
use Rattle.rb_rnea.specs.Accelerations.{c_rule}
use Rattle.rb_articulated.specs.Rules.{and_multiple, less_power, over}

-- ---- the columns of a joint
-- column k of the joint of body i, from 0, is there
pub record HasJointColumn (tree : Tree) (i k : ℕ) : Type 0 where
  pub there : HasBody tree i
  pub below : k < joint_columns tree.bodies i

-- its number among the columns of the robot
abbrev pub column_of : List Body → ℕ → ℕ → ℕ
column_of bodies i k = first_column bodies i + k

abbrev pub axis_at : List Body → ℕ → ℕ → Motion Interval
axis_at bodies i k = any_column (joint_at bodies i) k

-- the torque of column c, which stands at place c - 1
abbrev pub torque_at : Row → ℕ → Interval
torque_at row c = at_place row.tau (c - 1)

-- ---- a body with all that it bears, before its own columns give way
-- what body j is once its columns have given way, seen from its parent, is added
unfoldable pub join_inertia : View → ℕ → Inertia Interval → Result (Inertia Interval) NumFault
join_inertia w j sum = carry intervals (X_at w j) (Ia_at w j) >>= λ x. sum_of_two intervals sum x

unfoldable pub join_bias : View → ℕ → Force Interval → Result (Force Interval) NumFault
join_bias w j sum = apply_dual intervals (X_at w j) (pa_at w j) >>= λ x. sum_spatial intervals sum x

-- one more body: that of a child of body i is
unfoldable pub add_inertia : List Body → View → ℕ → ℕ → Inertia Interval → Result (Inertia Interval) NumFault
add_inertia bodies w i j sum = if parent_at bodies j == i then join_inertia w j sum else Ok sum

unfoldable pub add_bias : List Body → View → ℕ → ℕ → Force Interval → Result (Force Interval) NumFault
add_bias bodies w i j sum = if parent_at bodies j == i then join_bias w j sum else Ok sum

-- IA[i]: the body's own inertia, and what its children add, descending
unfoldable pub IA_rule : Tree → ℕ → View → Result (Inertia Interval) RowFault
IA_rule tree i w =
    named_as (one K.IA i)
    (sweep (add_inertia tree.bodies w i) (downward (i + 1) (length tree.bodies + 1)) (table intervals (inertia_at tree.bodies i)))

-- v x* (I v)
unfoldable pub own_bias : List Body → ℕ → View → Result (Force Interval) NumFault
own_bias bodies i w = times intervals (table intervals (inertia_at bodies i)) (v_at w i) >>= λ h. cross_dual intervals (v_at w i) h

-- and what its children add, descending
unfoldable pub bias_by : List Body → ℕ → View → Result (Force Interval) NumFault
bias_by bodies i w = own_bias bodies i w >>= λ b. sweep (add_bias bodies w i) (downward (i + 1) (length bodies + 1)) b

-- p[i]: what moves the body at its velocity, and what its children add
unfoldable pub p_rule : Tree → ℕ → View → Result (Force Interval) RowFault
p_rule tree i w = named_as (one K.p i) (bias_by tree.bodies i w)

-- ---- its columns give way, from the last on
-- an inertia and a bias
abbrev pub Rest : Type 0
Rest = Inertia Interval × Force Interval

-- what a column with the force U, the pivot D and the remaining torque u leaves of them: IA - U (U / D)^T and p + (U / D) u
unfoldable pub give_way : Force Interval → Interval → Interval → Rest → Result Rest NumFault
give_way U D u rest =
    over interval_field U D >>= λ W.
    less_outer intervals rest.0 U W >>= λ inertia.
    and_multiple intervals rest.1 u W >>= λ bias.
    Ok (inertia, bias)

-- column k has given way as its values say
unfoldable pub passed_at : List Body → View → ℕ → ℕ → Rest → Result Rest NumFault
passed_at bodies w i k rest =
    let c = column_of bodies i k in
    give_way (U_at w c) (D_at w c) (u_at w c) rest

-- what is left of body i once its columns from k on have given way
unfoldable pub rest_from : List Body → ℕ → ℕ → View → Result Rest NumFault
rest_from bodies i k w = sweep (passed_at bodies w i) (downward k (joint_columns bodies i)) (IA_at w i, p_at w i)

-- U[c]: what the inertia needs for the column
unfoldable pub U_rule : Tree → ℕ → ℕ → View → Result (Force Interval) RowFault
U_rule tree i k w =
    named_as (one K.U (column_of tree.bodies i k)) (rest_from tree.bodies i (k + 1) w >>= λ rest. times intervals rest.0 (axis_at tree.bodies i k))

-- D[c]: its power along the column, in which zero must not lie
unfoldable pub D_rule : Tree → ℕ → ℕ → View → Result Interval RowFault
D_rule tree i k w =
    let c = column_of tree.bodies i k in
    named_as (one K.D c) (power intervals (axis_at tree.bodies i k) (U_at w c)) >>= λ D.
    pivot_as (one K.D c) D

-- what the bias leaves of the torque, with which the column has to give way
unfoldable pub checked_rest : Tree → Row → ℕ → ℕ → View → Result Interval NumFault
checked_rest tree row i k w =
    let c = column_of tree.bodies i k in
    rest_from tree.bodies i (k + 1) w >>= λ rest.
    less_power intervals (torque_at row c) (axis_at tree.bodies i k) rest.1 >>= λ u.
    give_way (U_at w c) (D_at w c) u rest >>= λ next.
    Ok u

-- u[c]: what the bias leaves of the torque
unfoldable pub u_rule : Tree → Row → ℕ → ℕ → View → Result Interval RowFault
u_rule tree row i k w = named_as (one K.u (column_of tree.bodies i k)) (checked_rest tree row i k w)

-- ---- what its parent gets
-- Ia[i]: the inertia once all columns have given way
unfoldable pub Ia_rule : Tree → ℕ → View → Result (Inertia Interval) RowFault
Ia_rule tree i w = named_as (one K.Ia i) (rest_from tree.bodies i 0 w >>= λ rest. Ok rest.0)

-- the bias, and what the inertia needs for this motion
unfoldable pub handed_with : Rest → Motion Interval → Result (Force Interval) NumFault
handed_with rest c = times intervals rest.0 c >>= λ f. sum_spatial intervals rest.1 f

-- pa[i]: the bias then, and what the inertia needs for c[i]
unfoldable pub pa_rule : Tree → ℕ → View → Result (Force Interval) RowFault
pa_rule tree i w = named_as (one K.pa i) (rest_from tree.bodies i 0 w >>= λ rest. handed_with rest (c_at w i))

-- each value is what its rule gives
pub record AreArticulated (tree : Tree) (row : Row) (w : View) : Type 0 where
  pub each_c : (i : ℕ) → HasBody tree i → c_rule tree i w ≡ Ok (c_at w i)
  pub each_IA : (i : ℕ) → HasBody tree i → IA_rule tree i w ≡ Ok (IA_at w i)
  pub each_p : (i : ℕ) → HasBody tree i → p_rule tree i w ≡ Ok (p_at w i)
  pub each_U : (i k : ℕ) → HasJointColumn tree i k → U_rule tree i k w ≡ Ok (U_at w (column_of tree.bodies i k))
  pub each_D : (i k : ℕ) → HasJointColumn tree i k → D_rule tree i k w ≡ Ok (D_at w (column_of tree.bodies i k))
  pub each_u : (i k : ℕ) → HasJointColumn tree i k → u_rule tree row i k w ≡ Ok (u_at w (column_of tree.bodies i k))
  pub each_Ia : (i : ℕ) → HasBody tree i → Ia_rule tree i w ≡ Ok (Ia_at w i)
  pub each_pa : (i : ℕ) → HasBody tree i → pa_rule tree i w ≡ Ok (pa_at w i)

-- the names of a column, and those of a body
abbrev pub column_names : Tree → ℕ → ℕ → List Place
column_names tree i k =
    let c = column_of tree.bodies i k in
    U_of c ∷ packed_of c c ∷ u_of c ∷ []

abbrev pub body_names : Tree → ℕ → List Place
body_names tree i =
    c_of i ∷ IA_of i ∷ p_of i ∷ (flat_map (column_names tree i) (downward 0 (joint_columns tree.bodies i)) ++ (Ia_of i ∷ pa_of i ∷ []))

abbrev pub order : Tree → List Place
order tree = flat_map (body_names tree) (downward 1 (length tree.bodies + 1))
