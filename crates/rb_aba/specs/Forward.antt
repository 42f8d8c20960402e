-- Forward dynamics of a row by articulated bodies: the values that a work holds, the first name that is refused, the answer, and what the values
-- enclose. Featherstone, Rigid Body Dynamics Algorithms, chapter 7.
use Rattle.std.specs.Prelude.{◌≡◌, ◌↔◌, ℕ, zero, suc, ◌+◌, ◌-◌, ◌≤◌, false, List, ◌++◌, length, map, Result, Ok, Err}
use Rattle.rb_num.specs.Interval.{Interval}
use Rattle.rb_num.specs.Fraction.{LiesIn}
use Rattle.rb_num.specs.Arith.{fractions}
use Rattle.rb_frac.specs.Frac.{Frac, Same, fracs}
use Rattle.rb_frac.specs.Spatial.{Force, Inertia, Motions, Forces, Inertias}
use Rattle.rb_frac.specs.Mechanics.{plus}
use Rattle.rb_result.specs.Steps.{◌>>=◌}
use Rattle.rb_sweep.specs.Sweep.{upward}
use Rattle.rb_sweep.specs.Naming.{run, IsRefusedFirst}
use Rattle.rb_spatial.specs.Inertias.{times}
use Rattle.rb_flat.specs.Choice.{Choice, IsChoice}
use Rattle.rb_flat.specs.Dynamics.{Unknowns, HasOneSolution, SameUnknowns, SolvesForward, no_force}
use Rattle.rb_work.specs.declared.names.RowFault.{RowFault}
use Rattle.rb_work.specs.View.{View, blank_of, v_at, a_at, IA_at, p_at, x_at}
use Rattle.rb_work.specs.Zeros.{zero_motion}
use Rattle.rb_work.specs.Place.{Place, q_of, X_of, s_of, v_of, c_of, IA_of, p_of, U_of, packed_of, u_of, Ia_of, pa_of, x_of, a_of, ValueOf, look, names}
use Rattle.rb_tree.specs.declared.robot.Body.{Body}
use Rattle.rb_tree.specs.Columns.{column_count, first_column, body_of_column, has_mimic}
use Rattle.rb_tree.specs.Robot.{Tree, HasBody, HasColumn}
use Rattle.rb_tree.specs.Shape.{shape_of, brackets_of}
use Rattle.rb_tree.specs.State.{Row, state_brackets}
use Rattle.rb_tree.specs.Places.{q_rule, X_rule, ArePlaces, order as place_order}
use Rattle.rb_rnea.specs.Speeds.{s_rule, v_rule, AreSpeeds, order as speed_order}
use Rattle.rb_rnea.specs.Accelerations.{world_acceleration, c_rule}
use Rattle.rb_rnea.specs.Dynamics.{extent_for}
use Rattle.rb_aba.specs.Articulated.{rest_from, IA_rule, p_rule, U_rule, D_rule, u_rule, Ia_rule, pa_rule, AreArticulated, order as inertia_order}
use Rattle.rb_aba.specs.Accelerations.{x_rule, a_rule, AreAccelerated, order as acceleration_order}

-- no joint of the robot follows another
abbrev pub AllLead : Tree → Type 0
AllLead tree = has_mimic tree.bodies ≡ false

-- each value is what its rule gives from these values: IA and p are those of a body before its columns give way
pub record AreFirst (tree : Tree) (row : Row) (w : View) : Type 0 where
  pub places : ArePlaces tree row w
  pub speeds : AreSpeeds tree row w
  pub articulated : AreArticulated tree row w
  pub accelerated : AreAccelerated tree row w

-- the work holds values as they are first found, but in IA and p what is left of a body once all its columns have given way
pub record AreForward (tree : Tree) (row : Row) (w : View) : Type 0 where
  pub first : View
  pub found : AreFirst tree row first
  pub rest : w ≡ record first { IA = w.IA; p = w.p }
  pub last : (i : ℕ) → HasBody tree i → rest_from tree.bodies i 0 first ≡ Ok (IA_at w i, p_at w i)

-- ---- the names, in the order in which they are found
-- the place of a column in its joint, from 0
abbrev pub place_in : List Body → ℕ → ℕ
place_in bodies c = c - first_column bodies (body_of_column bodies c)

abbrev pub rule : Tree → Row → (n : Place) → View → Result (ValueOf n) RowFault
rule tree row (q_of i) w = q_rule tree row i
rule tree row (X_of i) w = X_rule tree i w
rule tree row (s_of i) w = s_rule tree row i
rule tree row (v_of zero) w = Ok zero_motion
rule tree row (v_of (suc i)) w = v_rule tree (suc i) w
rule tree row (c_of i) w = c_rule tree i w
rule tree row (IA_of i) w = IA_rule tree i w
rule tree row (p_of i) w = p_rule tree i w
rule tree row (U_of c) w = U_rule tree (body_of_column tree.bodies c) (place_in tree.bodies c) w
rule tree row (packed_of c d) w = D_rule tree (body_of_column tree.bodies c) (place_in tree.bodies c) w
rule tree row (u_of c) w = u_rule tree row (body_of_column tree.bodies c) (place_in tree.bodies c) w
rule tree row (Ia_of i) w = Ia_rule tree i w
rule tree row (pa_of i) w = pa_rule tree i w
rule tree row (x_of c) w = x_rule tree (body_of_column tree.bodies c) (place_in tree.bodies c) w
rule tree row (a_of zero) w = Ok (world_acceleration row)
rule tree row (a_of (suc i)) w = a_rule tree (suc i) w
rule tree row n w = Ok (look n w)

abbrev pub order : Tree → List Place
order tree = place_order tree ++ (speed_order tree ++ (inertia_order tree ++ acceleration_order tree))

-- there are values in which the names before one are what their rules give, and the rule of that one refuses
pub record IsRefused (tree : Tree) (row : Row) (e : RowFault) : Type 0 where
  pub values : View
  pub first : IsRefusedFirst (names (rule tree row) (order tree)) values e

-- ---- answers
-- the accelerations of the columns
abbrev pub accelerations_in : Tree → View → List Interval
accelerations_in tree w = map (x_at w) (upward 1 (column_count tree.bodies + 1))

-- from zeros each name in turn gets the value that its rule gives, up to the first that is refused
unfoldable pub answer_of : Tree → Row → Result (List Interval) RowFault
answer_of tree row =
    run (names (rule tree row) (order tree)) (order tree) (blank_of (extent_for tree)) >>= λ w. Ok (accelerations_in tree w)

-- ---- what they enclose
-- an inertia and a bias with which the joint of body i bears it, and all that it bears, lie in the first IA and p
pub record JointBears (s : Unknowns Frac) (first : View) (i : ℕ) : Type 0 where
  pub inertia : Inertia Frac
  pub bias : Force Frac
  pub inertia_lies : Inertias LiesIn inertia (IA_at first i)
  pub bias_lies : Forces LiesIn bias (p_at first i)
  pub bears : Forces Same (s.joint_force i) (plus fracs (times fractions inertia (s.acceleration i)) bias)

-- the velocities and the accelerations of the bodies lie in v and a, and the accelerations of the columns in x; the joint forces lie by the first IA and p
pub record SolutionLies (tree : Tree) (s : Unknowns Frac) (first w : View) : Type 0 where
  pub velocity : (i : ℕ) → i ≤ length tree.bodies → Motions LiesIn (s.speed i) (v_at w i)
  pub acceleration : (i : ℕ) → i ≤ length tree.bodies → Motions LiesIn (s.acceleration i) (a_at w i)
  pub joint_acceleration : (c : ℕ) → HasColumn tree c → LiesIn (s.joint_acceleration c) (x_at w c)
  pub joint_force : (i : ℕ) → HasBody tree i → JointBears s first i

-- for each choice within the brackets of the robot and of the row the equations of motion have exactly one solution with its torques, and it lies in
-- the values
pub record ForwardLies (tree : Tree) (row : Row) (first w : View) (c : Choice) : Type 0 where
  pub one : HasOneSolution (SameUnknowns Same (shape_of tree)) (SolvesForward (shape_of tree) c (no_force fracs))
  pub lies : SolutionLies tree one.solution first w

pub record EnclosesForward (tree : Tree) (row : Row) (w : View) : Type 0 where
  pub values : AreForward tree row w
  pub at : (c : Choice) → IsChoice (brackets_of tree) (state_brackets row) c → ForwardLies tree row values.first w c

-- ---- laws
-- there is one answer, whatever a work held: the same accelerations, or one refusal, and not both
pub record HasOneAnswer (tree : Tree) (row : Row) : Type 0 where
  pub values : (u w : View) → AreForward tree row u → AreForward tree row w → accelerations_in tree u ≡ accelerations_in tree w
  pub either : (w : View) (e : RowFault) → AreForward tree row w → IsRefused tree row e → ⊥
  pub refusal : (d e : RowFault) → IsRefused tree row d → IsRefused tree row e → d ≡ e

-- what the answer means: accelerations of such values, or a refusal of such a name
pub record AnswerMeans (tree : Tree) (row : Row) : Type 0 where
  pub values : (numbers : List Interval) → (answer_of tree row ≡ Ok numbers) ↔ ((w : View) × AreForward tree row w × (accelerations_in tree w ≡ numbers))
  pub refused : (e : RowFault) → (answer_of tree row ≡ Err e) ↔ IsRefused tree row e

-- all such values enclose the one solution of each choice
pub record AnswerEncloses (tree : Tree) (row : Row) : Type 0 where
  pub values : (w : View) → AreForward tree row w → EnclosesForward tree row w
