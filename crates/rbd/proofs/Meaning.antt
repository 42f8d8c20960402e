-- What the lines of a run mean.
use Rattle.std.proofs.Common.{◌≡◌, ◌+◌, ℕ, zero, suc, List, [], ◌∷◌, Bool, true, false, cond, ◌||◌, IsTrue, length, take_while, Option, Some, None, Result, Ok, Err, refl, sym, ap, ◌∙◌, ◌⊎◌, inl, inr, arith, subst}
use Rattle.std.specs.Prelude.{slice_get}
use Rattle.std.specs.List.{list_any, prefix_len}
use Rattle.std.proofs.lemmas.List.{length-map}
use Rattle.rb_num.specs.Interval.{Interval}
use Rattle.rb_io.specs.Cut.{Line}
use Rattle.rb_tree.specs.Robot.{Tree, AreBodies}
use Rattle.rb_tree.specs.Shape.{shape_of}
use Rattle.rb_tree.specs.State.{Row}
use Rattle.rb_flat.specs.Contact.{RowsFit}
use Rattle.rb_constraint.specs.declared.constraints.Constraint.{Constraint}
use Rattle.rb_constraint.specs.Constraints.{constraints_of, AreConstraints}
use Rattle.rb_constraint.specs.Laws.{RowsFitRobot}
use Rattle.rb_constraint.proofs.RowLaws.{none_fit, none_kept}
use Rattle.rb_work.specs.declared.names.RowFault.{RowFault}
use Rattle.rb_model.specs.Model.{model_text}
use Rattle.rb_rows.specs.Columns.{state_columns}
use Rattle.rb_rows.specs.Head.{line_of as names_text}
use Rattle.rb_rows.specs.declared.task.Task.{Task}
use Rattle.rb_rows.specs.Row.{row_of}
use Rattle.rb_run.specs.declared.job.Job.{Job}
use Rattle.rb_run.specs.declared.slot.Slot.{Slot}
use Rattle.rb_run.specs.Answers.{AnswerMeans, Told, answer_for, slot_of, slots_from, is_refused}
use Rattle.rb_run.specs.Jobs.{Suits, IsJob}
use Rattle.rb_run.specs.Line.{line_of}
use Rattle.rb_words.specs.declared.order.Order.{Order}
use Rattle.rb_words.specs.declared.order.Order.TheVariants as order
use Rattle.rbd.specs.declared.stop.RowsFault.{RowsFault}
use Rattle.rbd.specs.declared.stop.RowsFault.TheVariants.{LineTooLong}
use Rattle.rbd.specs.declared.stop.Stop.{Stop}
use Rattle.rbd.specs.declared.stop.Stop.TheVariants.{Usage, Robot, Constraints, Rows as AtRows, Input as AtInput, Output, Memory}
use Rattle.rbd.specs.declared.status.Status.{Status}
use Rattle.rbd.specs.declared.status.Status.TheVariants as status
use Rattle.rbd.specs.Course.{Course, IsCourse, tells, ending, slots_of, lines_of, course_by, course_of_rows}
use Rattle.rbd.specs.Ends.{status_of, status_of_stop}
use Rattle.rbd.specs.Headline.{IsAnswered, IsRefusal, Means, AreAnswered, IsPut, IsWritten, IsProved, Headline}
use Rattle.rbd.specs.Inputs.{Rows, rows_of, inputs_of, long_line, is_long, is_short}
use Rattle.rbd.specs.Plan.{Plan, IsPlan, IsConstraintsIn, constraints_held, Leads, job_of}
use Rattle.rbd.specs.Run.{Source, Stream, Follows, EndsEarly, HasCourse, Goes}

-- ---- one line
-- what is known of each task
abbrev EachMeans : Type 0
EachMeans = (asked : Task) (tree : Tree) (cons : List Constraint) (row : Row) → Suits asked tree cons → AreBodies tree.bodies → AreConstraints cons → AnswerMeans asked tree cons row

module _ (means : EachMeans) where
  line_means : (job : Job) → IsJob job → AreBodies job.robot.bodies → AreConstraints job.cons → (number : ℕ) (told : Told) (line : List ℕ) → line ≡ line_of job.echo (slot_of job number told) → Means job number told line
  line_means job suits kept under number (Err fault) line is = is
  line_means job suits kept under number (Ok row) line is = by_answer (answer_for job.task job.robot job.cons row) refl
    where
      by_answer : (answer : Result (List Interval) RowFault) → answer_for job.task job.robot job.cons row ≡ answer → IsAnswered job number row line ⊎ IsRefusal job number row line
      by_answer (Ok values) answers = inl (record { values = values; says = rw answers at is; exact = answers; means = (means job.task job.robot job.cons row suits kept under).values values answers })
      by_answer (Err fault) answers = inr (record { fault = fault; says = rw answers at is; exact = answers; means = ((means job.task job.robot job.cons row suits kept under).refused fault).0 answers })

-- the line at a place is that of what the row there told
line_at : (job : Job) (number : ℕ) (told : List Told) (k : ℕ) (here : Told) (line : List ℕ) → slice_get told k ≡ Some here → slice_get (lines_of job (slots_from job number told)) k ≡ Some line
    → line ≡ line_of job.echo (slot_of job (number + k) here)
line_at job number [] k here line there is = absurd cc
line_at job number (first ∷ others) zero here line there is =
    let e : line_of job.echo (slot_of job number first) ≡ line = cc in
    let f : first ≡ here = cc in
    let n : number ≡ number + 0 = omega arith in
    sym e ∙ ap (λ (t : Told). line_of job.echo (slot_of job number t)) f ∙ ap (λ (m : ℕ). line_of job.echo (slot_of job m here)) n
line_at job number (first ∷ others) (suc k) here line there is =
    let n : number + 1 + k ≡ number + suc k = omega arith in
    line_at job (number + 1) others k here line there is ∙ ap (λ (m : ℕ). line_of job.echo (slot_of job m here)) n

lines_counted : (job : Job) (number : ℕ) (told : List Told) → length (lines_of job (slots_from job number told)) ≡ length told
lines_counted job number [] = refl
lines_counted job number (first ∷ others) = ap suc (lines_counted job (number + 1) others)

-- ---- all rows
none_long : (lines : List Line) → list_any is_long lines ≡ false → take_while is_short lines ≡ lines
none_long [] none = refl
none_long (line ∷ lines) none = by_size (is_long line) (none_long lines) refl none
  where
    by_size : (long : Bool) → (list_any is_long lines ≡ false → take_while is_short lines ≡ lines) → is_long line ≡ long → (long || list_any is_long lines) ≡ false → take_while is_short (line ∷ lines) ≡ line ∷ lines
    by_size true later is none = absurd cc
    by_size false later is none =
        let next : 1 + prefix_len is_short lines ≡ suc (prefix_len is_short lines) = omega arith in
        rw is (rw next (ap (λ (ls : List Line). line ∷ ls) (later none)))

inputs_counted : (start : Row) (found : Rows) → long_line found ≡ None → length (inputs_of start found) ≡ length found.lines
unfolding inputs_of long_line
inputs_counted start found none =
    length-map (take_while is_short found.lines) (λ (line : Line). row_of found.header line.content start)
    ∙ ap length (none_long found.lines (by_any (list_any is_long found.lines) none))
  where
    by_any : (any : Bool) → cond any (Some (LineTooLong (length (take_while is_short found.lines) + 1))) None ≡ None → any ≡ false
    by_any true is = absurd cc
    by_any false is = refl

record Ending (long : Option RowsFault) (answers : List Slot) (refused : Bool) : Type 0 where
  none : long ≡ None
  is : refused ≡ list_any is_refused answers

ending_is : (long : Option RowsFault) (answers : List Slot) (refused : Bool) → Ok refused ≡ ending long answers → Ending long answers refused
ending_is None answers refused is = record { none = refl; is = cc }
ending_is (Some fault) answers refused is = absurd cc

-- ---- a run
-- those of a plan are between bodies of its robot
plan_fits : RowsFitRobot → (words : List (List ℕ)) (held : List ℕ → List ℕ) (plan : Plan) → IsPlan words held plan → RowsFit (shape_of plan.tree) (constraints_of plan.constraints)
plan_fits fits words held plan planned = by_file (constraints_held planned.command held) planned.constraints
  where
    by_file : (file : Option (List ℕ)) → IsConstraintsIn plan.tree file plan.constraints → RowsFit (shape_of plan.tree) (constraints_of plan.constraints)
    by_file None none = subst (λ (cons : List Constraint). RowsFit (shape_of plan.tree) (constraints_of cons)) (sym none) (none_fit (shape_of plan.tree))
    by_file (Some bytes) file = fits plan.tree bytes plan.constraints file.is

plan_kept : (words : List (List ℕ)) (held : List ℕ → List ℕ) (plan : Plan) → IsPlan words held plan → AreConstraints plan.constraints
plan_kept words held plan planned = by_file (constraints_held planned.command held) planned.constraints
  where
    by_file : (file : Option (List ℕ)) → IsConstraintsIn plan.tree file plan.constraints → AreConstraints plan.constraints
    by_file None none = subst AreConstraints (sym none) none_kept
    by_file (Some bytes) file = file.kept

module _ (means : EachMeans) (fits : RowsFitRobot)
    (words : List (List ℕ)) (inputs : Source) (out : Stream) (ended : Status) (refused : Bool) (is : ended ≡ status_of (Ok refused)) (told : IsTrue out.tells) where
  rows_proved : (job : Job) (asked : Plan) → IsJob job → AreBodies job.robot.bodies → AreConstraints job.cons → asked.tree ≡ job.robot → (read : Result Rows RowsFault) → rows_of asked.tree (inputs.holds asked.rows) ≡ read → Follows (course_of_rows job asked.start read) out (Ok refused)
      → AreAnswered asked job inputs out ended
  rows_proved job asked suits kept under same (Err fault) read follows = let e : Ok refused ≡ Err (AtRows fault) = follows.answers refl in absurd cc
  rows_proved job asked suits kept under same (Ok found) read follows =
      let told_all = inputs_of asked.start found in
      let end = ending_is (long_line found) (slots_of job asked.start found) refused (follows.answers refl) in
      record {
        rows = found;
        are_rows = read;
        none_long = end.none;
        lines = lines_of job (slots_of job asked.start found);
        put = follows.whole refl told;
        count = lines_counted job 1 told_all ∙ inputs_counted asked.start found end.none;
        each = λ k here line there put.
            let number : 1 + k ≡ k + 1 = omega arith in
            line_means means job suits kept under (k + 1) here line (line_at job 1 told_all k here line there put ∙ ap (λ (m : ℕ). line_of job.echo (slot_of job m here)) number);
        status = is ∙ ap (λ (b : Bool). status_of (Ok b)) end.is;
      }

  -- a text is put, and no row is refused
  text_proved : (text : List ℕ) → Follows (tells text) out (Ok refused) → IsPut text out ended
  text_proved text follows =
      let none : Ok refused ≡ Ok false = follows.answers refl in
      let e : refused ≡ false = cc in
      record { put = follows.whole refl told; status = is ∙ ap (λ (b : Bool). status_of (Ok b)) e }

  order_proved : (asked : Plan) → AreBodies asked.tree.bodies → RowsFit (shape_of asked.tree) (constraints_of asked.constraints) → AreConstraints asked.constraints → (what : Order) → Leads what asked.tree → Follows (course_by what asked inputs.holds) out (Ok refused) → IsWritten what asked inputs out ended
  order_proved asked kept fit under (order.Rows task) leads follows =
      rows_proved (job_of asked task) asked (record { leads = λ is. leads (ap order.Rows is); fit = fit }) kept under refl (rows_of asked.tree (inputs.holds asked.rows)) refl follows
  order_proved asked kept fit under order.Model leads follows = text_proved (model_text asked.tree asked.start.q) follows
  order_proved asked kept fit under order.Columns leads follows = text_proved (names_text (state_columns asked.tree)) follows

  course_proved : (course : Course) → IsCourse words inputs.holds course → Follows course out (Ok refused) → IsProved words inputs out ended
  course_proved course (IsCourse.stops stop planless) follows = let e : Ok refused ≡ Err stop = follows.answers refl in absurd cc
  course_proved course (IsCourse.goes plan planned) follows = record {
    plan = plan;
    is_plan = planned;
    written = order_proved plan planned.robot.kept (plan_fits fits words inputs.holds plan planned) (plan_kept words inputs.holds plan planned) plan.order planned.leads follows;
  }

  never_early : ((Ok refused ≡ Err AtInput) ⊎ (Ok refused ≡ Err Memory)) → IsProved words inputs out ended
  never_early (inl is) = absurd cc
  never_early (inr is) = absurd cc

  steps_proved : EndsEarly out (Ok refused) ⊎ HasCourse words inputs.holds out (Ok refused) → IsProved words inputs out ended
  steps_proved (inl early) = never_early early.fault
  steps_proved (inr found) = course_proved found.course found.is found.follows

stop_not_done : (stop : Stop) (ended : Status) → ended ≡ status_of_stop stop → (ended ≡ status.Done) ⊎ (ended ≡ status.Refused) → ⊥
stop_not_done (Usage fault) ended is (inl done) = let e : status.Usage ≡ status.Done = sym is ∙ done in absurd cc
stop_not_done (Usage fault) ended is (inr done) = let e : status.Usage ≡ status.Refused = sym is ∙ done in absurd cc
stop_not_done (Robot fault) ended is (inl done) = let e : status.Robot ≡ status.Done = sym is ∙ done in absurd cc
stop_not_done (Robot fault) ended is (inr done) = let e : status.Robot ≡ status.Refused = sym is ∙ done in absurd cc
stop_not_done (Constraints fault) ended is (inl done) = let e : status.Robot ≡ status.Done = sym is ∙ done in absurd cc
stop_not_done (Constraints fault) ended is (inr done) = let e : status.Robot ≡ status.Refused = sym is ∙ done in absurd cc
stop_not_done (AtRows fault) ended is (inl done) = let e : status.Rows ≡ status.Done = sym is ∙ done in absurd cc
stop_not_done (AtRows fault) ended is (inr done) = let e : status.Rows ≡ status.Refused = sym is ∙ done in absurd cc
stop_not_done AtInput ended is (inl done) = let e : status.InputFault ≡ status.Done = sym is ∙ done in absurd cc
stop_not_done AtInput ended is (inr done) = let e : status.InputFault ≡ status.Refused = sym is ∙ done in absurd cc
stop_not_done Output ended is (inl done) = let e : status.OutputFault ≡ status.Done = sym is ∙ done in absurd cc
stop_not_done Output ended is (inr done) = let e : status.OutputFault ≡ status.Refused = sym is ∙ done in absurd cc
stop_not_done Memory ended is (inl done) = let e : status.Memory ≡ status.Done = sym is ∙ done in absurd cc
stop_not_done Memory ended is (inr done) = let e : status.Memory ≡ status.Refused = sym is ∙ done in absurd cc

pub headline : EachMeans → RowsFitRobot → (words : List (List ℕ)) (inputs : Source) (out : Stream) (ended : Status) (answer : Result Bool Stop) → Goes words inputs out answer → ended ≡ status_of answer → Headline words inputs out ended
headline means fits words inputs out ended (Ok refused) goes is told = steps_proved means fits words inputs out ended refused is told.out_tells (goes.course told.inputs_tell)
headline means fits words inputs out ended (Err stop) goes is told = absurd (stop_not_done stop ended is told.done)
