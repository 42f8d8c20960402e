-- What the answer of a row means.
use Rattle.std.specs.Prelude.{◌≡◌, ◌+◌, ◌<◌, ℕ, List, length, slice_get, Some}
use Rattle.rb_frac.specs.Frac.{Frac, Same, fracs}
use Rattle.rb_num.specs.Interval.{Interval}
use Rattle.rb_num.specs.Fraction.{LiesIn}
use Rattle.rb_flat.specs.Choice.{Choice, IsChoice}
use Rattle.rb_flat.specs.Dynamics.{Unknowns, InverseDynamics, HasOneSolution, SameUnknowns, SolvesInverse, SolvesForward, at_unit, no_force}
use Rattle.rb_flat.specs.Contact.{Constraints, SameContact, SolvesContact}
use Rattle.rb_flat.specs.Impact.{SameImpulses, SolvesImpact}
use Rattle.rb_flat.specs.Mechanism.{mechanism_of}
use Rattle.rb_flat.specs.Shape.{Shape}
use Rattle.rb_tree.specs.Columns.{column_count}
use Rattle.rb_tree.specs.Robot.{Tree, HasColumn}
use Rattle.rb_tree.specs.Shape.{shape_of, brackets_of}
use Rattle.rb_tree.specs.State.{Row, state_brackets}
use Rattle.rb_work.specs.declared.names.RowFault.{RowFault}
use Rattle.rb_constraint.specs.declared.constraints.Constraint.{Constraint}
use Rattle.rb_constraint.specs.Constraints.{constraints_of, IsConstraintChoice}
use Rattle.rb_rnea.specs.Dynamics as Inverse
use Rattle.rb_mass.specs.Mass as Mass
use Rattle.rb_contact.specs.Forward as Forward
use Rattle.rb_contact.specs.Contact as Contact
use Rattle.rb_impact.specs.Impact as Impact
use Rattle.rb_aba.specs.Forward as Articulated
use Rattle.rb_rows.specs.declared.task.Task.{Task}
use Rattle.rb_rows.specs.declared.task.Task.TheVariants as task
use Rattle.rb_rows.specs.Head.{pairs_of}
use Rattle.rb_run.specs.Slots.{value_count}

-- ---- values
-- inverse dynamics: the equations of motion have exactly one solution, and its torques lie in these
pub record HasTorquesWithin (tree : Tree) (choice : Choice) (torques : List Interval) : Type 0 where
  pub one : HasOneSolution (SameUnknowns Same (shape_of tree)) (SolvesInverse (shape_of tree) choice (no_force fracs))
  pub within : (k : ℕ) (torque : Interval) → slice_get torques k ≡ Some torque → LiesIn (one.solution.torque (k + 1)) torque

-- the equations without gravity and speeds, at the acceleration 1 of column d and 0 of the others
abbrev pub SolvesAtUnit : Shape → Choice → ℕ → Unknowns Frac → Type 0
SolvesAtUnit shape choice d s = InverseDynamics fracs shape (at_unit fracs (mechanism_of shape choice) d) Same (no_force fracs) s

-- column d of the mass table: these have exactly one solution, and its torque of column c lies in the entry of c and d
pub record HasMassesWithin (tree : Tree) (choice : Choice) (masses : List Interval) (d : ℕ) : Type 0 where
  pub one : HasOneSolution (SameUnknowns Same (shape_of tree)) (SolvesAtUnit (shape_of tree) choice d)
  pub within : (k c : ℕ) (mass : Interval) → slice_get (pairs_of (column_count tree.bodies)) k ≡ Some (c, d) → slice_get masses k ≡ Some mass → LiesIn (one.solution.torque c) mass

-- forward dynamics: the equations of motion have exactly one solution, and its accelerations of the joints lie in these
pub record HasAccelerationsWithin (tree : Tree) (choice : Choice) (accelerations : List Interval) : Type 0 where
  pub one : HasOneSolution (SameUnknowns Same (shape_of tree)) (SolvesForward (shape_of tree) choice (no_force fracs))
  pub within : (k : ℕ) (acceleration : Interval) → slice_get accelerations k ≡ Some acceleration → LiesIn (one.solution.joint_acceleration (k + 1)) acceleration

-- forward dynamics under constraints with these numbers: the equations of motion with those of the rows have exactly one solution. Its accelerations of
-- the joints lie in the first of these, and the forces of its rows in those behind them.
pub record HasContactWithin (tree : Tree) (choice : Choice) (numbers : Constraints Frac) (values : List Interval) : Type 0 where
  pub one : HasOneSolution (SameContact Same (shape_of tree) numbers) (SolvesContact (shape_of tree) choice numbers)
  pub accelerations : (k : ℕ) (acceleration : Interval) → k < column_count tree.bodies → slice_get values k ≡ Some acceleration →
      LiesIn (one.solution.tree.joint_acceleration (k + 1)) acceleration
  pub forces : (k : ℕ) (force : Interval) → slice_get values (column_count tree.bodies + k) ≡ Some force → LiesIn (one.solution.row_force (k + 1)) force

-- an impact on rows with these numbers: its equations have exactly one solution. Its speeds of the columns after lie in the first of these, and the
-- impulses of its rows in those behind them.
pub record HasImpulsesWithin (tree : Tree) (choice : Choice) (numbers : Constraints Frac) (values : List Interval) : Type 0 where
  pub one : HasOneSolution (SameImpulses Same (shape_of tree) numbers) (SolvesImpact (shape_of tree) choice numbers)
  pub speeds : (k : ℕ) (speed : Interval) → k < column_count tree.bodies → slice_get values k ≡ Some speed → LiesIn (one.solution.speed_after (k + 1)) speed
  pub impulses : (k : ℕ) (impulse : Interval) → slice_get values (column_count tree.bodies + k) ≡ Some impulse → LiesIn (one.solution.row_impulse (k + 1)) impulse

-- what the values of a task are for a choice; under constraints, for each choice of their numbers
abbrev pub HasOneWithin : Task → Tree → List Constraint → Choice → List Interval → Type 0
HasOneWithin task.Rnea tree cons choice values = HasTorquesWithin tree choice values
HasOneWithin task.Crba tree cons choice values = (d : ℕ) → HasColumn tree d → HasMassesWithin tree choice values d
HasOneWithin task.Fd tree cons choice values = HasAccelerationsWithin tree choice values
HasOneWithin task.Aba tree cons choice values = HasAccelerationsWithin tree choice values
HasOneWithin task.Contact tree cons choice values =
    (numbers : Constraints Frac) → IsConstraintChoice (constraints_of cons) numbers → HasContactWithin tree choice numbers values
HasOneWithin task.Impulse tree cons choice values =
    (numbers : Constraints Frac) → IsConstraintChoice (constraints_of cons) numbers → HasImpulsesWithin tree choice numbers values

-- so it is for each choice within the brackets of the robot and the row, and there are as many values as the task has
pub record Encloses (asked : Task) (tree : Tree) (cons : List Constraint) (row : Row) (values : List Interval) : Type 0 where
  pub count : length values ≡ value_count tree cons asked
  pub each : (choice : Choice) → IsChoice (brackets_of tree) (state_brackets row) choice → HasOneWithin asked tree cons choice values

-- ---- refusals
-- there are values in which each name before one, in the order of the task, is what its rule gives, and the rule of that one refuses so
abbrev pub IsRefusedFor : Task → Tree → List Constraint → Row → RowFault → Type 0
IsRefusedFor task.Rnea tree cons row fault = Inverse.IsRefused tree row fault
IsRefusedFor task.Crba tree cons row fault = Mass.IsRefused tree row fault
IsRefusedFor task.Fd tree cons row fault = Forward.IsForwardRefused tree row fault
IsRefusedFor task.Aba tree cons row fault = Articulated.IsRefused tree row fault
IsRefusedFor task.Contact tree cons row fault = Contact.IsContactRefused tree row (constraints_of cons) fault
IsRefusedFor task.Impulse tree cons row fault = Impact.IsImpactRefused tree row (constraints_of cons) fault
