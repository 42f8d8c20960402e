-- Inverse dynamics of a row: the values that a work holds, the first name that is refused, the answer, and what the values enclose.
-- Featherstone, Rigid Body Dynamics Algorithms, chapter 5.
use Rattle.std.specs.Prelude.{◌≡◌, ◌↔◌, ℕ, zero, suc, ◌+◌, ◌≤◌, List, ◌++◌, length, map, replicate, Result, Ok, Err}
use Rattle.rb_num.specs.Interval.{Interval, zero_interval}
use Rattle.rb_num.specs.Fraction.{LiesIn}
use Rattle.rb_frac.specs.Frac.{Frac, Same, fracs}
use Rattle.rb_frac.specs.Spatial.{Motions, Forces}
use Rattle.rb_result.specs.Steps.{◌>>=◌}
use Rattle.rb_sweep.specs.Sweep.{upward}
use Rattle.rb_sweep.specs.Naming.{run, IsRefusedFirst}
use Rattle.rb_flat.specs.Choice.{Choice, IsChoice}
use Rattle.rb_flat.specs.Dynamics.{Unknowns, HasOneSolution, SameUnknowns, SolvesInverse, no_force}
use Rattle.rb_work.specs.declared.names.RowFault.{RowFault}
use Rattle.rb_work.specs.View.{View, Extent, blank_of, v_at, a_at, f_at, T_at}
use Rattle.rb_work.specs.Zeros.{zero_motion}
use Rattle.rb_work.specs.Place.{Place, q_of, X_of, s_of, v_of, c_of, a_of, b_of, f_of, t_of, T_of, ValueOf, look, names}
use Rattle.rb_tree.specs.Columns.{column_count, full_count, up_of}
use Rattle.rb_tree.specs.Robot.{Tree, HasBody, HasColumn}
use Rattle.rb_tree.specs.Shape.{shape_of, brackets_of}
use Rattle.rb_tree.specs.State.{Row, state_brackets}
use Rattle.rb_tree.specs.Places.{q_rule, X_rule, ArePlaces, order as place_order}
use Rattle.rb_rnea.specs.Speeds.{s_rule, v_rule, AreSpeeds, order as speed_order}
use Rattle.rb_rnea.specs.Accelerations.{world_acceleration, c_rule, a_rule, b_rule, AreAccelerations, order as acceleration_order}
use Rattle.rb_rnea.specs.Forces.{f_rule, AreForces, order as force_order}
use Rattle.rb_rnea.specs.Torques.{t_rule, T_rule, AreTorques, body_order, column_order}

-- each value that the work holds is what its rule gives from the values that the work holds
pub record AreDynamics (tree : Tree) (row : Row) (w : View) : Type 0 where
  pub places : ArePlaces tree row w
  pub speeds : AreSpeeds tree row w
  pub accelerations : AreAccelerations tree row w
  pub forces : AreForces tree w
  pub torques : AreTorques tree w

-- ---- the names, in the order in which they are found
abbrev pub rule : Tree → Row → (n : Place) → View → Result (ValueOf n) RowFault
rule tree row (q_of i) w = q_rule tree row i
rule tree row (X_of i) w = X_rule tree i w
rule tree row (s_of i) w = s_rule tree row i
rule tree row (v_of zero) w = Ok zero_motion
rule tree row (v_of (suc i)) w = v_rule tree (suc i) w
rule tree row (c_of i) w = c_rule tree i w
rule tree row (a_of zero) w = Ok (world_acceleration row)
rule tree row (a_of (suc i)) w = a_rule tree row (suc i) w
rule tree row (b_of i) w = b_rule tree i w
rule tree row (f_of i) w = f_rule tree i w
rule tree row (t_of i) w = t_rule tree i w
rule tree row (T_of c) w = T_rule tree c w
rule tree row n w = Ok (look n w)

abbrev pub order : Tree → List Place
order tree = place_order tree ++ (speed_order tree ++ (acceleration_order tree ++ (force_order tree ++ (body_order tree ++ column_order tree))))

-- there are values in which the names before one are what their rules give, and the rule of that one refuses
pub record IsRefused (tree : Tree) (row : Row) (e : RowFault) : Type 0 where
  pub values : View
  pub first : IsRefusedFirst (names (rule tree row) (order tree)) values e

-- ---- answers
-- the torques of the columns
abbrev pub torques_in : Tree → View → List Interval
torques_in tree w = map (T_at w) (upward 1 (column_count tree.bodies + 1))

-- a work for the robot
abbrev pub extent_for : Tree → Extent
extent_for tree =
    record { bodies = length tree.bodies; full = full_count tree.bodies; up = map (up_of tree.bodies) (upward 1 (column_count tree.bodies + 1)); rows = 0 }

-- from zeros each name in turn gets the value that its rule gives, up to the first that is refused
unfoldable pub answer_of : Tree → Row → Result (List Interval) RowFault
answer_of tree row = run (names (rule tree row) (order tree)) (order tree) (blank_of (extent_for tree)) >>= λ w. Ok (torques_in tree w)

-- a row without accelerations
abbrev pub unaccelerated : Row → Row
unaccelerated row = record row { a = replicate (length row.a) zero_interval }

-- ---- what they enclose
-- the velocities, the accelerations and the joint forces of the bodies lie in v, a and f, and the torques of the columns in T
pub record SolutionLies (tree : Tree) (s : Unknowns Frac) (w : View) : Type 0 where
  pub velocity : (i : ℕ) → i ≤ length tree.bodies → Motions LiesIn (s.speed i) (v_at w i)
  pub acceleration : (i : ℕ) → i ≤ length tree.bodies → Motions LiesIn (s.acceleration i) (a_at w i)
  pub joint_force : (i : ℕ) → HasBody tree i → Forces LiesIn (s.joint_force i) (f_at w i)
  pub torque : (k : ℕ) → HasColumn tree k → LiesIn (s.torque k) (T_at w k)

-- for each choice within the brackets of the robot and of the row the equations of motion have exactly one solution, and it lies in the values
pub record DynamicsLie (tree : Tree) (row : Row) (w : View) (c : Choice) : Type 0 where
  pub one : HasOneSolution (SameUnknowns Same (shape_of tree)) (SolvesInverse (shape_of tree) c (no_force fracs))
  pub lies : SolutionLies tree one.solution w

pub record EnclosesDynamics (tree : Tree) (row : Row) (w : View) : Type 0 where
  pub at : (c : Choice) → IsChoice (brackets_of tree) (state_brackets row) c → DynamicsLie tree row w c

-- ---- laws
-- there is one answer, whatever a work held: the same torques, or one refusal, and not both
pub record HasOneAnswer (tree : Tree) (row : Row) : Type 0 where
  pub values : (u w : View) → AreDynamics tree row u → AreDynamics tree row w → torques_in tree u ≡ torques_in tree w
  pub either : (w : View) (e : RowFault) → AreDynamics tree row w → IsRefused tree row e → ⊥
  pub refusal : (d e : RowFault) → IsRefused tree row d → IsRefused tree row e → d ≡ e

-- what the answer means: torques of such values, or a refusal of such a name
pub record AnswerMeans (tree : Tree) (row : Row) : Type 0 where
  pub values : (torques : List Interval) → (answer_of tree row ≡ Ok torques) ↔ ((w : View) × AreDynamics tree row w × (torques_in tree w ≡ torques))
  pub refused : (e : RowFault) → (answer_of tree row ≡ Err e) ↔ IsRefused tree row e

-- all values that are what their rules give enclose the one solution of each choice
pub record AnswerEncloses (tree : Tree) (row : Row) : Type 0 where
  pub values : (w : View) → AreDynamics tree row w → EnclosesDynamics tree row w
