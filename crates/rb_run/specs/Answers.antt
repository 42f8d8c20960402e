-- What is answered to a row.
use Rattle.std.specs.Prelude.{◌≡◌, ◌↔◌, ℕ, ◌+◌, ◌-◌, List, [], ◌∷◌, ◌++◌, map, slice_index_or, Bool, not, replicate, Result, Ok, Err}
use Rattle.rb_num.specs.Interval.{Interval, zero_interval}
use Rattle.rb_result.specs.Steps.{◌>>=◌}
use Rattle.rb_tree.specs.Columns.{column_count}
use Rattle.rb_tree.specs.Robot.{Tree}
use Rattle.rb_tree.specs.State.{Row}
use Rattle.rb_work.specs.declared.names.RowFault.{RowFault}
use Rattle.rb_work.specs.View.{View, mass_at}
use Rattle.rb_constraint.specs.declared.constraints.Constraint.{Constraint}
use Rattle.rb_constraint.specs.Constraints.{constraints_of}
use Rattle.rb_rnea.specs.Dynamics as Inverse
use Rattle.rb_mass.specs.Mass as Mass
use Rattle.rb_contact.specs.Forward as Forward
use Rattle.rb_contact.specs.Contact as Contact
use Rattle.rb_impact.specs.Impact as Impact
use Rattle.rb_aba.specs.Forward as Articulated
use Rattle.rb_rows.specs.declared.faults.FieldFault.{FieldFault}
use Rattle.rb_rows.specs.declared.task.Task.{Task}
use Rattle.rb_rows.specs.declared.task.Task.TheVariants as task
use Rattle.rb_rows.specs.Head.{pairs_of}
use Rattle.rb_run.specs.declared.job.Job.{Job}
use Rattle.rb_run.specs.declared.slot.Answer.TheVariants as Answer
use Rattle.rb_run.specs.declared.slot.Slot.{Slot}
use Rattle.rb_run.specs.declared.slot.SlotInput.{SlotInput}
use Rattle.rb_run.specs.declared.slot.SlotInput.TheVariants as Input
use Rattle.rb_run.specs.Line.{is_done}
use Rattle.rb_run.specs.Meaning.{Encloses, IsRefusedFor}
use Rattle.rb_run.specs.Slots.{value_count, new_slot}

-- ---- values
-- the entry of a table at a pair of columns, which are numbered from 1
abbrev pub entry_of : List (List Interval) → ℕ × ℕ → Interval
entry_of table pair = slice_index_or (slice_index_or table (pair.0 - 1) []) (pair.1 - 1) zero_interval

-- the entries on and above the diagonal, by rows
abbrev pub upper_of : ℕ → List (List Interval) → List Interval
upper_of count table = map (entry_of table) (pairs_of count)

-- the one answer to a row: the torques, the upper entries of the mass table, the accelerations, those under constraints with the forces of the rows
-- behind them, the speeds after an impact with the impulses of the rows behind them, or the first refusal on the way to them
abbrev pub answer_for : Task → Tree → List Constraint → Row → Result (List Interval) RowFault
answer_for task.Rnea tree cons row = Inverse.answer_of tree row
answer_for task.Crba tree cons row = Mass.answer_of tree row >>= λ table. Ok (upper_of (column_count tree.bodies) table)
answer_for task.Fd tree cons row = Forward.forward_of tree row
answer_for task.Aba tree cons row = Articulated.answer_of tree row
answer_for task.Contact tree cons row = Contact.contact_of tree row (constraints_of cons) >>= λ found. Ok (found.0 ++ found.1)
answer_for task.Impulse tree cons row = Impact.impact_of tree row (constraints_of cons) >>= λ found. Ok (found.0 ++ found.1)

-- what a work holds for a pair of columns, and for all of them
abbrev pub mass_of_pair : View → ℕ × ℕ → Interval
mass_of_pair w pair = mass_at w pair.0 pair.1

abbrev pub masses_in : Tree → View → List Interval
masses_in tree w = map (mass_of_pair w) (pairs_of (column_count tree.bodies))

-- what a work holds for these values
abbrev pub values_in : Task → Tree → List Constraint → View → List Interval
values_in task.Rnea tree cons w = Inverse.torques_in tree w
values_in task.Crba tree cons w = masses_in tree w
values_in task.Fd tree cons w = Forward.accelerations_in tree w
values_in task.Aba tree cons w = Articulated.accelerations_in tree w
values_in task.Contact tree cons w = Forward.accelerations_in tree w ++ Contact.forces_in (constraints_of cons) w
values_in task.Impulse tree cons w = Impact.speeds_in tree w ++ Impact.impulses_in (constraints_of cons) w

-- what the one answer means: values that enclose, or a refusal
pub record AnswerMeans (asked : Task) (tree : Tree) (cons : List Constraint) (row : Row) : Type 0 where
  pub values : (values : List Interval) → answer_for asked tree cons row ≡ Ok values → Encloses asked tree cons row values
  pub refused : (fault : RowFault) → (answer_for asked tree cons row ≡ Err fault) ↔ IsRefusedFor asked tree cons row fault

-- ---- answers
-- a slot that holds no row has no answer, and one of a row whose fields are wrong tells which; the values of a state are those that are defined, or
-- the first refusal is told
abbrev pub HasAnswer : Result (List Interval) RowFault → Slot → Slot → Type 0
HasAnswer (Ok values) old new = new ≡ record old { values = values; answer = Answer.Done }
HasAnswer (Err fault) old new = new ≡ record old { answer = Answer.Refused fault }

abbrev pub IsAnsweredBy : Job → SlotInput → Slot → Slot → Type 0
IsAnsweredBy job Input.Idle old new = new ≡ record old { answer = Answer.Idle }
IsAnsweredBy job (Input.Bad fault) old new = new ≡ record old { answer = Answer.Bad fault }
IsAnsweredBy job Input.Row old new = HasAnswer (answer_for job.task job.robot job.cons old.state) old new

-- ---- what a row told
-- a state, or what is wrong with the row's fields
abbrev pub Told : Type 0
Told = Result Row FieldFault

abbrev pub HasInput : Slot → Told → Type 0
HasInput slot (Ok row) = (slot.input ≡ Input.Row) × (slot.state ≡ row)
HasInput slot (Err fault) = slot.input ≡ Input.Bad fault

-- the slot holds the row of this number, which told this
pub record Holds (slot : Slot) (number : ℕ) (told : Told) : Type 0 where
  pub row : slot.row ≡ number
  pub input : HasInput slot told

-- ---- rows with their answers
abbrev pub done_slot : ℕ → Row → List Interval → Slot
done_slot number row values = record { row = number; input = Input.Row; state = row; values = values; answer = Answer.Done }

-- no value is told: they are zero here
abbrev pub refused_slot : Job → ℕ → Row → RowFault → Slot
refused_slot job number row fault = record {
  row = number;
  input = Input.Row;
  state = row;
  values = replicate (value_count job.robot job.cons job.task) zero_interval;
  answer = Answer.Refused fault;
}

-- nor is a number of the state: it is the neutral one here
abbrev pub bad_slot : Job → ℕ → FieldFault → Slot
bad_slot job number fault = record (new_slot job) { row = number; input = Input.Bad fault; answer = Answer.Bad fault }

abbrev pub slot_by : Job → ℕ → Row → Result (List Interval) RowFault → Slot
slot_by job number row (Ok values) = done_slot number row values
slot_by job number row (Err fault) = refused_slot job number row fault

-- the row of this number, which told this, with its answer
abbrev pub slot_of : Job → ℕ → Told → Slot
slot_of job number (Ok row) = slot_by job number row (answer_for job.task job.robot job.cons row)
slot_of job number (Err fault) = bad_slot job number fault

-- rows that are numbered from this number on
abbrev pub slots_from : Job → ℕ → List Told → List Slot
slots_from job number [] = []
slots_from job number (told ∷ others) = slot_of job number told ∷ slots_from job (number + 1) others

-- the row has no values
abbrev pub is_refused : Slot → Bool
is_refused slot = not (is_done slot.answer)
