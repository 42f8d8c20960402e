-- What a run answers and puts, from its plan and the bytes of the rows.
use Rattle.std.specs.Prelude.{ℕ, List, [], ◌++◌, Bool, false, map, Option, Some, None, Result, Ok, Err}
use Rattle.std.specs.List.{list_any, concat}
use Rattle.rb_model.specs.Model.{model_text}
use Rattle.rb_rows.specs.Columns.{state_columns}
use Rattle.rb_rows.specs.Head as Head
use Rattle.rb_tree.specs.State.{Row}
use Rattle.rb_words.specs.declared.order.Order.{Order}
use Rattle.rb_words.specs.declared.order.Order.TheVariants.{Rows as OfRows, Model, Columns}
use Rattle.rb_run.specs.declared.job.Job.{Job}
use Rattle.rb_run.specs.declared.slot.Slot.{Slot}
use Rattle.rb_run.specs.Answers.{slots_from, is_refused}
use Rattle.rb_run.specs.Line.{line_of}
use Rattle.rbd.specs.declared.stop.RowsFault.{RowsFault}
use Rattle.rbd.specs.declared.stop.Stop.{Stop}
use Rattle.rbd.specs.declared.stop.Stop.TheVariants.{Rows as AtRows}
use Rattle.rbd.specs.Inputs.{Rows, rows_of, inputs_of, long_line}
use Rattle.rbd.specs.Plan.{Plan, job_of, IsPlan, HasNoPlan}

-- whether a row is refused, or why the run ends before its last row; and the bytes that it puts
pub record Course : Type 0 where
  pub answer : Result Bool Stop
  pub put : List ℕ

-- ends with nothing put
abbrev pub stopped : Stop → Course
stopped stop = record { answer = Err stop; put = [] }

-- puts a text
abbrev pub tells : List ℕ → Course
tells text = record { answer = Ok false; put = text }

-- ---- rows
-- each row, by its number, with its answer
abbrev pub slots_of : Job → Row → Rows → List Slot
slots_of job start rows = slots_from job 1 (inputs_of start rows)

-- ends at a line that is too long, or behind the last
abbrev pub ending : Option RowsFault → List Slot → Result Bool Stop
ending None slots = Ok (list_any is_refused slots)
ending (Some fault) slots = Err (AtRows fault)

abbrev pub head_of : Job → List ℕ
head_of job = Head.line_of (Head.head_fields job.robot job.cons job.task job.echo)

abbrev pub lines_of : Job → List Slot → List (List ℕ)
lines_of job slots = map (line_of job.echo) slots

-- of the rows behind the header, and with the header: the first line, and a line for each row
abbrev pub course_behind : Job → Row → Rows → Course
course_behind job start rows = record { answer = ending (long_line rows) (slots_of job start rows); put = concat (lines_of job (slots_of job start rows)) }

abbrev pub course_of_rows : Job → Row → Result Rows RowsFault → Course
course_of_rows job start (Err fault) = stopped (AtRows fault)
course_of_rows job start (Ok rows) =
    record { answer = ending (long_line rows) (slots_of job start rows); put = head_of job ++ concat (lines_of job (slots_of job start rows)) }

-- ---- all
abbrev pub course_by : Order → Plan → (List ℕ → List ℕ) → Course
course_by (OfRows task) plan held = course_of_rows (job_of plan task) plan.start (rows_of plan.tree (held plan.rows))
course_by Model plan held = tells (model_text plan.tree plan.start.q)
course_by Columns plan held = tells (Head.line_of (state_columns plan.tree))

abbrev pub course_of : Plan → (List ℕ → List ℕ) → Course
course_of plan held = course_by plan.order plan held

-- the course of a run: it has no plan, or goes by it
pub data IsCourse (words : List (List ℕ)) (held : List ℕ → List ℕ) : Course → Type 0 where
  stops : (stop : Stop) → HasNoPlan words held stop → IsCourse words held (stopped stop)
  goes : (plan : Plan) → IsPlan words held plan → IsCourse words held (course_of plan held)
