-- A row with its answer.
use Rattle.std.specs.Prelude.{◌≡◌, ℕ, ◌+◌, ◌*◌, ◌/◌, List, length, replicate}
use Rattle.rb_num.specs.Interval.{zero_interval}
use Rattle.rb_tree.specs.Columns.{column_count}
use Rattle.rb_tree.specs.Robot.{Tree}
use Rattle.rb_tree.specs.State.{Fits, neutral_under, standard_gravity}
use Rattle.rb_constraint.specs.declared.constraints.Constraint.{Constraint}
use Rattle.rb_constraint.specs.Constraints.{constraints_of}
use Rattle.rb_run.specs.declared.job.Job.{Job}
use Rattle.rb_run.specs.declared.slot.Answer.TheVariants as Answer
use Rattle.rb_run.specs.declared.slot.Slot.{Slot}
use Rattle.rb_run.specs.declared.slot.SlotInput.TheVariants as Input
use Rattle.rb_rows.specs.declared.task.Task.{Task}
use Rattle.rb_rows.specs.declared.task.Task.TheVariants as task

-- one value for each column, and under constraints one for each row; of the mass table, one for each pair of columns, each pair once
abbrev pub count_by : Task → ℕ → ℕ → ℕ
count_by task.Rnea columns rows = columns
count_by task.Crba columns rows = columns * (columns + 1) / 2
count_by task.Fd columns rows = columns
count_by task.Aba columns rows = columns
count_by task.Contact columns rows = columns + rows
count_by task.Impulse columns rows = columns + rows

abbrev pub value_count : Tree → List Constraint → Task → ℕ
value_count tree cons task = count_by task (column_count tree.bodies) (constraints_of cons).rows

-- the state is one of the robot, and there are as many values as are asked for
pub record IsSlotOf (job : Job) (slot : Slot) : Type 0 where
  pub state : Fits job.robot slot.state
  pub values : length slot.values ≡ value_count job.robot job.cons job.task

-- of no row yet
abbrev pub new_slot : Job → Slot
new_slot job = record {
  row = 0;
  input = Input.Idle;
  state = neutral_under standard_gravity job.robot;
  values = replicate (value_count job.robot job.cons job.task) zero_interval;
  answer = Answer.Idle;
}
