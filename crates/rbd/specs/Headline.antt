-- What the lines of a run mean.
use Rattle.std.specs.Prelude.{◌≡◌, ◌⊎◌, ◌+◌, ℕ, List, ◌++◌, IsTrue, length, slice_get, None, Some, Ok, Err}
use Rattle.std.specs.List.{concat, list_any}
use Rattle.rb_num.specs.Interval.{Interval}
use Rattle.rb_tree.specs.State.{Row}
use Rattle.rb_model.specs.Model.{model_text}
use Rattle.rb_rows.specs.Columns.{state_columns}
use Rattle.rb_rows.specs.Head.{line_of as text_of_names}
use Rattle.rb_work.specs.declared.names.RowFault.{RowFault}
use Rattle.rb_run.specs.declared.job.Job.{Job}
use Rattle.rb_run.specs.Answers.{Told, answer_for, done_slot, refused_slot, bad_slot, is_refused}
use Rattle.rb_run.specs.Line.{line_of}
use Rattle.rb_run.specs.Meaning.{Encloses, IsRefusedFor}
use Rattle.rb_words.specs.declared.order.Order.{Order}
use Rattle.rb_words.specs.declared.order.Order.TheVariants as order
use Rattle.rbd.specs.declared.status.Status.{Status}
use Rattle.rbd.specs.declared.status.Status.TheVariants as status
use Rattle.rbd.specs.Course.{head_of, slots_of}
use Rattle.rbd.specs.Ends.{status_of}
use Rattle.rbd.specs.Inputs.{Rows, rows_of, inputs_of, long_line}
use Rattle.rbd.specs.Plan.{Plan, job_of, IsPlan}
use Rattle.rbd.specs.Run.{Source, Stream}

-- the premises: inputs and output tell their bytes, and all lines are written
pub record IsTold (inputs : Source) (out : Stream) (ended : Status) : Type 0 where
  pub inputs_tell : IsTrue inputs.tells
  pub out_tells : IsTrue out.tells
  pub done : (ended ≡ status.Done) ⊎ (ended ≡ status.Refused)

-- ---- rows

-- the line says `ok` and these values, which are those of the one answer: for each choice within the brackets of the robot, the constraints and the row, the equations of
-- the task have exactly one solution, and it lies in the values that the line prints
pub record IsAnswered (job : Job) (number : ℕ) (row : Row) (line : List ℕ) : Type 0 where
  pub values : List Interval
  pub says : line ≡ line_of job.echo (done_slot number row values)
  pub exact : answer_for job.task job.robot job.cons row ≡ Ok values
  pub means : Encloses job.task job.robot job.cons row values

-- the line names the first quantity that is refused, and that is the one answer
pub record IsRefusal (job : Job) (number : ℕ) (row : Row) (line : List ℕ) : Type 0 where
  pub fault : RowFault
  pub says : line ≡ line_of job.echo (refused_slot job number row fault)
  pub exact : answer_for job.task job.robot job.cons row ≡ Err fault
  pub means : IsRefusedFor job.task job.robot job.cons row fault

-- what the line of a row means
abbrev pub Means : Job → ℕ → Told → List ℕ → Type 0
Means job number (Ok row) line = IsAnswered job number row line ⊎ IsRefusal job number row line
Means job number (Err fault) line = line ≡ line_of job.echo (bad_slot job number fault)

-- the bytes that were put are the first line and a line for each row, in order, each of which means what it says
pub record AreAnswered (plan : Plan) (job : Job) (inputs : Source) (out : Stream) (ended : Status) : Type 0 where
  pub rows : Rows
  pub are_rows : rows_of plan.tree (inputs.holds plan.rows) ≡ Ok rows
  pub none_long : long_line rows ≡ None
  pub lines : List (List ℕ)
  pub put : out.new ≡ out.old ++ (head_of job ++ concat lines)
  pub count : length lines ≡ length rows.lines
  pub each : (k : ℕ) (told : Told) (line : List ℕ) → slice_get (inputs_of plan.start rows) k ≡ Some told → slice_get lines k ≡ Some line → Means job (k + 1) told line
  pub status : ended ≡ status_of (Ok (list_any is_refused (slots_of job plan.start rows)))

-- ---- all
-- the bytes that were put are this text
pub record IsPut (text : List ℕ) (out : Stream) (ended : Status) : Type 0 where
  pub put : out.new ≡ out.old ++ text
  pub status : ended ≡ status.Done

abbrev pub IsWritten : Order → Plan → Source → Stream → Status → Type 0
IsWritten (order.Rows task) plan inputs out ended = AreAnswered plan (job_of plan task) inputs out ended
IsWritten order.Model plan inputs out ended = IsPut (model_text plan.tree plan.start.q) out ended
IsWritten order.Columns plan inputs out ended = IsPut (text_of_names (state_columns plan.tree)) out ended

pub record IsProved (words : List (List ℕ)) (inputs : Source) (out : Stream) (ended : Status) : Type 0 where
  pub plan : Plan
  pub is_plan : IsPlan words inputs.holds plan
  pub written : IsWritten plan.order plan inputs out ended

abbrev pub Headline : List (List ℕ) → Source → Stream → Status → Type 0
Headline words inputs out ended = IsTold inputs out ended → IsProved words inputs out ended
