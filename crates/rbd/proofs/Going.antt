-- The steps of a run, up to where one of them ends it.
use Rattle.std.proofs.Common.{◌≡◌, ◌≢◌, ◌<◌, ◌≤◌, ℕ, Bool, true, false, ltb, IsTrue, List, length, Option, Some, None, IsSomeAnd, Result, Ok, Err, refl, sym, ap, ◌∙◌, ◌⊎◌, inl, inr, arith, subst}
use Rattle.std.proofs.lemmas.Bool.Decides.{nat_tests}
use Rattle.rb_io.specs.Outside.{Rose}
use Rattle.rb_result.specs.Steps.{told_as}
use Rattle.rb_tree.specs.declared.faults.WhichFile.{WhichFile}
use Rattle.rb_tree.specs.Columns.{has_mimic}
use Rattle.rb_tree.specs.Robot.{Tree}
use Rattle.rb_tree.specs.State.{Row}
use Rattle.rb_tree.specs.States.{HasState}
use Rattle.rbd.specs.declared.stop.UsageFault.TheVariants.{Words, State, Mimic}
use Rattle.rb_words.specs.declared.faults.WordsFault.{WordsFault}
use Rattle.rb_words.specs.declared.faults.WordsStop.{WordsStop}
use Rattle.rb_words.specs.declared.faults.WordsStop.TheVariants as of_words
use Rattle.rb_words.specs.declared.order.Order.TheVariants as order
use Rattle.rb_words.specs.Words.{Asked, command_of}
use Rattle.rb_constraint.specs.declared.constraints.Constraint.{Constraint}
use Rattle.rb_run.specs.declared.job.Job.{Job}
use Rattle.rbd.specs.declared.stop.StartStop.{StartStop}
use Rattle.rbd.specs.declared.stop.StartStop.TheVariants as start
use Rattle.rbd.specs.declared.stop.RobotFault.{RobotFault}
use Rattle.rbd.specs.declared.stop.RobotFault.TheVariants as robot
use Rattle.rbd.specs.declared.stop.ConstraintsFault.{ConstraintsFault}
use Rattle.rbd.specs.declared.stop.ConstraintsFault.TheVariants as constraints
use Rattle.rbd.specs.declared.stop.RowsFault.{RowsFault}
use Rattle.rbd.specs.declared.stop.RowsFault.TheVariants as rows
use Rattle.rbd.specs.declared.stop.ReadStop.{ReadStop}
use Rattle.rbd.specs.declared.stop.ReadStop.TheVariants as read
use Rattle.rbd.specs.declared.stop.RowsStop.{RowsStop}
use Rattle.rbd.specs.declared.stop.RowsStop.TheVariants as part
use Rattle.rbd.specs.declared.stop.Stop.{Stop}
use Rattle.rbd.specs.declared.stop.Stop.TheVariants.{Usage, Robot, Constraints, Rows, Input, Output, Memory}
use Rattle.rbd.specs.declared.status.Status.{Status}
use Rattle.rbd.specs.declared.status.Status.TheVariants as status
use Rattle.rbd.specs.Plan.{Plan, plan, plan_of, articulated, Leads, files_of, IsRobotOf, IsRefused, IsStart, IsConstraintsIn, HasNoConstraints, constraints_held, most_file}
use Rattle.rbd.specs.Inputs.{most_rows, rows_of, rows_of_lines}
use Rattle.rb_io.specs.Cut.{lines_of}
use Rattle.rbd.specs.Course.{IsCourse, stopped, course_of, course_of_rows}
use Rattle.rbd.specs.Ends.{status_of}
use Rattle.rbd.specs.Run.{Source, Stream, is_plain, Follows, EndsEarly, HasCourse, IsUsage, Obeys, Goes, IsOfCourse, IsComplete}
use Rattle.rbd.specs.Stops.{IfFault, stop_of_read, stop_of_rows, stop_of_start, stop_of_words}
use Rattle.rbd.proofs.Courses.{follows_stop, follows_refused}

-- ---- bytes of the rows
rows_short : (tree : Tree) (bytes : List ℕ) → length bytes ≤ most_rows → rows_of tree bytes ≡ rows_of_lines tree (lines_of bytes)
unfolding rows_of
rows_short tree bytes short =
    let within : ltb most_rows (length bytes) ≡ false = grind (arith, nat_tests) in
    rw within refl

rows_long : (tree : Tree) (bytes : List ℕ) → most_rows < length bytes → rows_of tree bytes ≡ Err rows.TooLong
unfolding rows_of
rows_long tree bytes long =
    let past : ltb most_rows (length bytes) ≡ true = grind (arith, nat_tests) in
    rw past refl

-- ---- before anything is put
-- what is outside stays as it was, but for the inputs
pub record Untouched (out : Stream) : Type 0 where
  pub count : out.after ≡ out.before
  pub bytes : IsTrue out.tells → out.new ≡ out.old

early : (out : Stream) (answer : Result Bool Stop) → (answer ≡ Err Input) ⊎ (answer ≡ Err Memory) → Untouched out → EndsEarly out answer
early out answer fault kept = record { fault = fault; nothing = kept.bytes }

-- for want of memory
pub goes_memory : (words : List (List ℕ)) (inputs : Source) (out : Stream) → inputs.after ≡ inputs.before → Untouched out → Goes words inputs out (Err Memory)
goes_memory words inputs out same kept = record {
  usage = λ fault is. absurd cc;
  usage_always = λ fault told. inr refl;
  long_file = λ file is. absurd cc;
  long_constraints = λ is. absurd cc;
  long_rows = λ is. absurd cc;
  input = record { rose = λ is. absurd cc; kept = λ no. same };
  output = record { rose = λ is. absurd cc; kept = λ no. kept.count };
  course = λ tells. inl (early out (Err Memory) (inr refl) kept);
}

-- for a fault of an input, behind the words
goes_input : (words : List (List ℕ)) (command : Asked) (inputs : Source) (out : Stream) → command_of words ≡ Ok command → Rose inputs.before inputs.after → Untouched out → Goes words inputs out (Err Input)
goes_input words command inputs out told rose kept = record {
  usage = λ fault is. absurd cc;
  usage_always = λ fault other. absurd (cc (told, other));
  long_file = λ file is. absurd cc;
  long_constraints = λ is. absurd cc;
  long_rows = λ is. absurd cc;
  input = record { rose = λ is. rose; kept = λ no. absurd (no refl) };
  output = record { rose = λ is. absurd cc; kept = λ no. kept.count };
  course = λ tells. inl (early out (Err Input) (inl refl) kept);
}

-- for the words
pub goes_words : (words : List (List ℕ)) (inputs : Source) (out : Stream) (stop : WordsStop) → ((fault : WordsFault) → stop ≡ of_words.Fault fault → command_of words ≡ Err fault) → inputs.after ≡ inputs.before → Untouched out
    → Goes words inputs out (Err (stop_of_words stop))
goes_words words inputs out of_words.Memory told same kept = goes_memory words inputs out same kept
goes_words words inputs out (of_words.Fault fault) told same kept =
    let refused = told fault refl in
    record {
      usage = λ other is. let e : Words fault ≡ other = cc in subst (IsUsage words) e refused;
      usage_always = λ other is. let e : fault ≡ other = cc (refused, is) in inl (ap (λ (f : WordsFault). Err (Usage (Words f))) e);
      long_file = λ file is. absurd cc;
      long_constraints = λ is. absurd cc;
      long_rows = λ is. absurd cc;
      input = record { rose = λ is. absurd cc; kept = λ no. same };
      output = record { rose = λ is. absurd cc; kept = λ no. kept.count };
      course = λ tells. inr (record { course = stopped (Usage (Words fault)); is = IsCourse.stops (Usage (Words fault)) refused; follows = follows_stop (Usage (Words fault)) out kept.bytes });
    }

-- for the robot
pub goes_robot : (words : List (List ℕ)) (command : Asked) (inputs : Source) (out : Stream) (stop : ReadStop RobotFault) → command_of words ≡ Ok command
    → (IsTrue inputs.tells → IfFault (IsRefused command.root (files_of command inputs.holds)) stop) → ((file : WhichFile) → stop ≡ read.Fault (robot.TooLong file) → most_file < inputs.given)
    → (stop ≡ read.Input → Rose inputs.before inputs.after) → (stop ≢ read.Input → inputs.after ≡ inputs.before) → Untouched out → Goes words inputs out (Err (stop_of_read Robot stop))
goes_robot words command inputs out (read.Fault fault) told refused long rose same kept = record {
  usage = λ other is. absurd cc;
  usage_always = λ other is. absurd (cc (told, is));
  long_file = λ file is. let e : fault ≡ robot.TooLong file = cc in long file (ap read.Fault e);
  long_constraints = λ is. absurd cc;
  long_rows = λ is. absurd cc;
  input = record { rose = λ is. absurd cc; kept = λ no. same (λ e. absurd cc) };
  output = record { rose = λ is. absurd cc; kept = λ no. kept.count };
  course = λ tells. inr (record {
    course = stopped (Robot fault);
    is = IsCourse.stops (Robot fault) (record { command = command; told = told; refused = refused tells });
    follows = follows_stop (Robot fault) out kept.bytes;
  });
}
goes_robot words command inputs out read.Input told refused long rose same kept = goes_input words command inputs out told (rose refl) kept
goes_robot words command inputs out read.Memory told refused long rose same kept = goes_memory words inputs out (same (λ e. absurd cc)) kept

-- ---- behind the robot
-- for a state that the robot has not, or want of memory for the state
pub goes_start : (words : List (List ℕ)) (command : Asked) (tree : Tree) (inputs : Source) (out : Stream) (stop : StartStop) → command_of words ≡ Ok command
    → (IsTrue inputs.tells → IsRobotOf command.root (files_of command inputs.holds) tree)
    → (stop ≡ start.Memory) ⊎ ((stop ≡ start.NoState) × IsSomeAnd command.state (λ name. HasState tree.states name → ⊥)) → inputs.after ≡ inputs.before → Untouched out
    → Goes words inputs out (Err (stop_of_start stop))
goes_start words command tree inputs out stop told robot_is (inl is) same kept = rw is (goes_memory words inputs out same kept)
goes_start words command tree inputs out stop told robot_is (inr (is, unknown)) same kept = rw is (by_name command.state refl unknown)
  where
    by_name : (state : Option (List ℕ)) → command.state ≡ state → IsSomeAnd state (λ name. HasState tree.states name → ⊥) → Goes words inputs out (Err (Usage State))
    by_name None named missing = absurd missing
    by_name (Some name) named missing = record {
      usage = λ fault e. let of_state : State ≡ fault = cc in subst (IsUsage words) of_state (record { command = command; told = told; name = name; named = named });
      usage_always = λ fault e. absurd (cc (told, e));
      long_file = λ file e. absurd cc;
      long_constraints = λ e. absurd cc;
      long_rows = λ e. absurd cc;
      input = record { rose = λ e. absurd cc; kept = λ e. same };
      output = record { rose = λ e. absurd cc; kept = λ e. kept.count };
      course = λ tells. inr (record {
        course = stopped (Usage State);
        is = IsCourse.stops (Usage State) (record { command = command; told = told; tree = tree; robot = robot_is tells; name = name; named = named; unknown = missing });
        follows = follows_stop (Usage State) out kept.bytes;
      });
    }

-- for a joint that follows another, where articulated bodies are asked for
pub record IsUnfit (command : Asked) (tree : Tree) (from : Row) : Type 0 where
  pub starts : IsStart tree command.gravity command.state from
  pub order : command.order ≡ articulated
  pub mimic : has_mimic tree.bodies ≡ true

pub goes_mimic : (words : List (List ℕ)) (command : Asked) (tree : Tree) (from : Row) (inputs : Source) (out : Stream) → command_of words ≡ Ok command
    → (IsTrue inputs.tells → IsRobotOf command.root (files_of command inputs.holds) tree) → IsUnfit command tree from → inputs.after ≡ inputs.before → Untouched out
    → Goes words inputs out (Err (Usage Mimic))
goes_mimic words command tree from inputs out told robot_is unfit same kept = record {
  usage = λ fault e. let of_mimic : Mimic ≡ fault = cc in subst (IsUsage words) of_mimic (record { command = command; told = told; order = unfit.order });
  usage_always = λ fault e. absurd (cc (told, e));
  long_file = λ file e. absurd cc;
  long_constraints = λ e. absurd cc;
  long_rows = λ e. absurd cc;
  input = record { rose = λ e. absurd cc; kept = λ e. same };
  output = record { rose = λ e. absurd cc; kept = λ e. kept.count };
  course = λ tells. inr (record {
    course = stopped (Usage Mimic);
    is = IsCourse.stops (Usage Mimic) (record { command = command; told = told; tree = tree; robot = robot_is tells; start = from; starts = unfit.starts; order = unfit.order; mimic = unfit.mimic });
    follows = follows_stop (Usage Mimic) out kept.bytes;
  });
}

-- for the constraints
pub goes_constraints : (words : List (List ℕ)) (command : Asked) (tree : Tree) (from : Row) (inputs : Source) (out : Stream) (stop : ReadStop ConstraintsFault) → command_of words ≡ Ok command
    → (IsTrue inputs.tells → IsRobotOf command.root (files_of command inputs.holds) tree) → IsStart tree command.gravity command.state from → Leads command.order tree
    → (IsTrue inputs.tells → IfFault (HasNoConstraints tree (constraints_held command inputs.holds)) stop) → (stop ≡ read.Fault constraints.TooLong → most_file < inputs.given)
    → (stop ≡ read.Input → Rose inputs.before inputs.after) → (stop ≢ read.Input → inputs.after ≡ inputs.before) → Untouched out → Goes words inputs out (Err (stop_of_read Constraints stop))
goes_constraints words command tree from inputs out (read.Fault fault) told robot_is starts leads refused long rose same kept = record {
  usage = λ other is. absurd cc;
  usage_always = λ other is. absurd (cc (told, is));
  long_file = λ file is. absurd cc;
  long_constraints = λ is. let e : fault ≡ constraints.TooLong = cc in long (ap read.Fault e);
  long_rows = λ is. absurd cc;
  input = record { rose = λ is. absurd cc; kept = λ no. same (λ e. absurd cc) };
  output = record { rose = λ is. absurd cc; kept = λ no. kept.count };
  course = λ tells. inr (record {
    course = stopped (Constraints fault);
    is = IsCourse.stops (Constraints fault) (record { command = command; told = told; tree = tree; robot = robot_is tells; start = from; starts = starts; leads = leads; refused = refused tells });
    follows = follows_stop (Constraints fault) out kept.bytes;
  });
}
goes_constraints words command tree from inputs out read.Input told robot_is starts leads refused long rose same kept = goes_input words command inputs out told (rose refl) kept
goes_constraints words command tree from inputs out read.Memory told robot_is starts leads refused long rose same kept = goes_memory words inputs out (same (λ e. absurd cc)) kept

-- ---- what is asked of the robot
-- for the bytes of the rows
pub obeys_reading : (job : Job) (from : Row) (name : List ℕ) (inputs : Source) (out : Stream) (stop : ReadStop RowsFault) → IfFault (λ fault. fault ≡ rows.TooLong) stop
    → (IsTrue inputs.tells → stop ≡ read.Fault rows.TooLong → most_rows < length (inputs.holds name)) → (stop ≡ read.Fault rows.TooLong → most_rows < inputs.given)
    → (stop ≡ read.Input → Rose inputs.before inputs.after) → (stop ≢ read.Input → inputs.after ≡ inputs.before) → Untouched out
    → Obeys (plan (order.Rows job.task) job.robot from job.cons name job.echo) inputs out (Err (stop_of_read Rows stop))
obeys_reading job from name inputs out (read.Fault fault) only longer long rose same kept = record {
  late = refl;
  long_rows = λ is. long (ap read.Fault only);
  input = record { rose = λ is. absurd cc; kept = λ no. same (λ e. absurd cc) };
  output = record { rose = λ is. absurd cc; kept = λ no. kept.count };
  course = λ tells. inr (follows_refused job from (rows_of job.robot (inputs.holds name)) fault out
      (rows_long job.robot (inputs.holds name) (longer tells (ap read.Fault only)) ∙ ap Err (sym only)) kept.bytes);
}
obeys_reading job from name inputs out read.Input only longer long rose same kept = record {
  late = refl;
  long_rows = λ is. absurd cc;
  input = record { rose = λ is. rose refl; kept = λ no. absurd (no refl) };
  output = record { rose = λ is. absurd cc; kept = λ no. kept.count };
  course = λ tells. inl (early out (Err Input) (inl refl) kept);
}
obeys_reading job from name inputs out read.Memory only longer long rose same kept = record {
  late = refl;
  long_rows = λ is. absurd cc;
  input = record { rose = λ is. absurd cc; kept = λ no. same (λ e. absurd cc) };
  output = record { rose = λ is. absurd cc; kept = λ no. kept.count };
  course = λ tells. inl (early out (Err Memory) (inr refl) kept);
}

-- a run along a course that an output alone can end early
module _ (asked : Plan) (inputs : Source) (out : Stream) (same : inputs.after ≡ inputs.before) where
  pub obeys_along : (answered : Result Bool RowsStop) → (IsTrue inputs.tells → Follows (course_of asked inputs.holds) out (told_as stop_of_rows answered)) → (answered ≢ Err (part.Fault rows.TooLong))
      → (answered ≡ Err part.Output → Rose out.before out.after) → (answered ≢ Err part.Output → out.after ≡ out.before) → Obeys asked inputs out (told_as stop_of_rows answered)
  obeys_along (Ok refused) follows other rose kept = record {
    late = refl;
    long_rows = λ is. absurd cc;
    input = record { rose = λ is. absurd cc; kept = λ no. same };
    output = record { rose = λ is. absurd cc; kept = λ no. kept (λ e. absurd cc) };
    course = λ tells. inr (follows tells);
  }
  obeys_along (Err (part.Fault fault)) follows other rose kept = record {
    late = refl;
    long_rows = λ is. let e : fault ≡ rows.TooLong = cc in absurd (other (ap (λ (f : RowsFault). Err (part.Fault f)) e));
    input = record { rose = λ is. absurd cc; kept = λ no. same };
    output = record { rose = λ is. absurd cc; kept = λ no. kept (λ e. let f : part.Fault fault ≡ part.Output = cc in absurd cc) };
    course = λ tells. inr (follows tells);
  }
  obeys_along (Err part.Output) follows other rose kept = record {
    late = refl;
    long_rows = λ is. absurd cc;
    input = record { rose = λ is. let f : Output ≡ Input = cc in absurd cc; kept = λ no. same };
    output = record { rose = λ is. rose refl; kept = λ no. absurd (no refl) };
    course = λ tells. inr (follows tells);
  }
  obeys_along (Err part.Memory) follows other rose kept = record {
    late = refl;
    long_rows = λ is. absurd cc;
    input = record { rose = λ is. let f : Memory ≡ Input = cc in absurd cc; kept = λ no. same };
    output = record { rose = λ is. let f : Memory ≡ Output = cc in absurd cc; kept = λ no. kept (λ e. let f : part.Memory ≡ part.Output = cc in absurd cc) };
    course = λ tells. inr (follows tells);
  }

-- the rows were read whole
pub rows_along : (job : Job) (from : Row) (name bytes : List ℕ) (inputs : Source) (out : Stream) (answer : Result Bool Stop) → (IsTrue inputs.tells → bytes ≡ inputs.holds name) → length bytes ≤ most_rows
    → Follows (course_of_rows job from (rows_of_lines job.robot (lines_of bytes))) out answer → IsTrue inputs.tells → Follows (course_of (plan (order.Rows job.task) job.robot from job.cons name job.echo) inputs.holds) out answer
rows_along job from name bytes inputs out answer bytes_are short follows tells =
    subst (λ (read : List ℕ). Follows (course_of_rows job from (rows_of job.robot read)) out answer) (bytes_are tells) (rw (rows_short job.robot bytes short) follows)

-- ---- behind what is asked
module _ (words : List (List ℕ)) (command : Asked) (tree : Tree) (from : Row) (under : List Constraint) (inputs inner : Source) (out : Stream) (told : command_of words ≡ Ok command)
    (robot_is : IsTrue inputs.tells → IsRobotOf command.root (files_of command inputs.holds) tree) (starts : IsStart tree command.gravity command.state from) (leads : Leads command.order tree)
    (constraints_are : IsTrue inputs.tells → IsConstraintsIn tree (constraints_held command inputs.holds) under)
    (tells_same : inner.tells ≡ inputs.tells) (holds_same : inner.holds ≡ inputs.holds) (given_same : inner.given ≡ inputs.given) (before_same : inner.before ≡ inputs.before) (after_same : inner.after ≡ inputs.after) where
  has_course : (answer : Result Bool Stop) → IsTrue inputs.tells → EndsEarly out answer ⊎ Follows (course_of (plan_of command tree from under) inner.holds) out answer → EndsEarly out answer ⊎ HasCourse words inputs.holds out answer
  has_course answer tells (inl ends) = inl ends
  has_course answer tells (inr follows) = inr (record {
    course = course_of (plan_of command tree from under) inputs.holds;
    is = IsCourse.goes (plan_of command tree from under) (record { command = command; told = told; robot = robot_is tells; start = starts; constraints = constraints_are tells; asked = refl; leads = leads });
    follows = subst (λ (holds : List ℕ → List ℕ). Follows (course_of (plan_of command tree from under) holds) out answer) holds_same follows;
  })

  pub goes_obeyed : (answer : Result Bool Stop) → Obeys (plan_of command tree from under) inner out answer → Goes words inputs out answer
  goes_obeyed answer obeys = record {
    usage = λ fault is. let late : false ≡ true = rw is at obeys.late in absurd cc;
    usage_always = λ fault is. absurd (cc (told, is));
    long_file = λ file is. let late : false ≡ true = rw is at obeys.late in absurd cc;
    long_constraints = λ is. let late : false ≡ true = rw is at obeys.late in absurd cc;
    long_rows = λ is. rw given_same at (obeys.long_rows is);
    input = record { rose = λ is. rw (before_same, after_same) at (obeys.input.rose is); kept = λ no. sym after_same ∙ obeys.input.kept no ∙ before_same };
    output = obeys.output;
    course = λ tells. has_course answer tells (obeys.course (rw tells_same tells));
  }

-- ---- completeness
module _ (words : List (List ℕ)) (inputs : Source) (out : Stream) (ended : Status) where
  plain_complete : (answer : Result Bool Stop) → is_plain answer ≡ true → Goes words inputs out answer → ended ≡ status_of answer → IsTrue inputs.tells → IsOfCourse words inputs.holds ended ⊎ (ended ≡ status.Memory)
  plain_complete answer plain goes is tells = by_course (goes.course tells)
    where
      by_fault : (answer ≡ Err Input) ⊎ (answer ≡ Err Memory) → IsOfCourse words inputs.holds ended ⊎ (ended ≡ status.Memory)
      by_fault (inl e) = let no : false ≡ true = rw e at plain in absurd cc
      by_fault (inr e) = let no : false ≡ true = rw e at plain in absurd cc

      by_course : EndsEarly out answer ⊎ HasCourse words inputs.holds out answer → IsOfCourse words inputs.holds ended ⊎ (ended ≡ status.Memory)
      by_course (inl stopped_early) = by_fault stopped_early.fault
      by_course (inr found) = inl (record { course = found.course; is = found.is; status = is ∙ ap status_of (found.follows.answers plain) })

  pub complete : (answer : Result Bool Stop) → Goes words inputs out answer → ended ≡ status_of answer → IsComplete words inputs out ended
  complete (Ok refused) goes is tells no_in no_out = plain_complete (Ok refused) refl goes is tells
  complete (Err (Usage fault)) goes is tells no_in no_out = plain_complete (Err (Usage fault)) refl goes is tells
  complete (Err (Robot fault)) goes is tells no_in no_out = plain_complete (Err (Robot fault)) refl goes is tells
  complete (Err (Constraints fault)) goes is tells no_in no_out = plain_complete (Err (Constraints fault)) refl goes is tells
  complete (Err (Rows fault)) goes is tells no_in no_out = plain_complete (Err (Rows fault)) refl goes is tells
  complete (Err Input) goes is tells no_in no_out = absurd (no_in (goes.input.rose refl))
  complete (Err Output) goes is tells no_in no_out = absurd (no_out (goes.output.rose refl))
  complete (Err Memory) goes is tells no_in no_out = inr is
