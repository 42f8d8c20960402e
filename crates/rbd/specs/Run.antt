-- What a run does to what is outside, and what its status says.
use Rattle.std.specs.Prelude.{◌≡◌, ◌≢◌, ◌⊎◌, ◌<◌, ℕ, List, [], ◌++◌, Bool, true, false, IsTrue, Some, Result, Ok, Err}
use Rattle.rb_io.specs.Outside.{Rose}
use Rattle.rb_io.specs.Calls.{PutsPart}
use Rattle.rb_tree.specs.declared.faults.WhichFile.{WhichFile}
use Rattle.rbd.specs.declared.stop.UsageFault.{UsageFault}
use Rattle.rbd.specs.declared.stop.UsageFault.TheVariants as misuse
use Rattle.rb_words.specs.declared.faults.WordsFault.{WordsFault}
use Rattle.rb_words.specs.declared.faults.WordsFault.TheVariants as words_fault
use Rattle.rb_words.specs.Words.{Asked, command_of}
use Rattle.rbd.specs.declared.stop.RobotFault.TheVariants as robot
use Rattle.rbd.specs.declared.stop.ConstraintsFault.TheVariants as constraints
use Rattle.rbd.specs.declared.stop.RowsFault.TheVariants as rows
use Rattle.rbd.specs.declared.stop.Stop.{Stop}
use Rattle.rbd.specs.declared.stop.Stop.TheVariants.{Usage, Robot, Constraints, Rows, Input, Output, Memory}
use Rattle.rbd.specs.declared.status.Status.{Status}
use Rattle.rbd.specs.declared.status.Status.TheVariants as status
use Rattle.rbd.specs.Plan.{Plan, articulated, most_file}
use Rattle.rbd.specs.Inputs.{most_rows}
use Rattle.rbd.specs.Course.{Course, course_of, IsCourse}
use Rattle.rbd.specs.Ends.{status_of, text_of}

-- ---- what is outside
-- the inputs: whether they tell their bytes, what each name holds, how many bytes of the last name were given, and the count of faults as the call
-- begins and as it ends
pub record Source : Type 0 where
  pub tells : Bool
  pub holds : List ℕ → List ℕ
  pub given : ℕ
  pub before : ℕ
  pub after : ℕ

abbrev pub source : {I : Type 0} → (I → Bool) → (I → List ℕ → List ℕ) → (I → ℕ) → (I → ℕ) → I → I → Source
source tells holds given faults old new =
    record { tells = tells old; holds = holds old; given = given new; before = faults old; after = faults new }

-- an output: whether it tells its bytes, these bytes and the count of faults, as the call begins and as it ends
pub record Stream : Type 0 where
  pub tells : Bool
  pub old : List ℕ
  pub new : List ℕ
  pub before : ℕ
  pub after : ℕ

abbrev pub stream : {O : Type 0} → (O → Bool) → (O → List ℕ) → (O → ℕ) → O → O → Stream
stream tells put faults old new =
    record { tells = tells new; old = put old; new = put new; before = faults old; after = faults new }

-- ---- answers
-- the answer comes from what was read, and not from a fault or from want of memory
abbrev pub is_plain : Result Bool Stop → Bool
is_plain (Ok refused) = true
is_plain (Err (Usage fault)) = true
is_plain (Err (Robot fault)) = true
is_plain (Err (Constraints fault)) = true
is_plain (Err (Rows fault)) = true
is_plain (Err Input) = false
is_plain (Err Output) = false
is_plain (Err Memory) = false

-- a count of faults: it rose where the answer is this stop, and is kept where it is another
pub record Counts (stop : Stop) (answer : Result Bool Stop) (before after : ℕ) : Type 0 where
  pub rose : answer ≡ Err stop → Rose before after
  pub kept : answer ≢ Err stop → after ≡ before

-- ---- courses
-- a run along its course: it answers and puts what the course says, or a part of it where a fault or want of memory ends it
pub record Follows (course : Course) (out : Stream) (answer : Result Bool Stop) : Type 0 where
  pub answers : IsTrue (is_plain answer) → answer ≡ course.answer
  pub whole : IsTrue (is_plain answer) → IsTrue out.tells → out.new ≡ out.old ++ course.put
  pub part : IsTrue out.tells → PutsPart out.old out.new course.put

-- a run that a fault of an input or want of memory ends before it has read the rows: nothing is put
pub record EndsEarly (out : Stream) (answer : Result Bool Stop) : Type 0 where
  pub fault : (answer ≡ Err Input) ⊎ (answer ≡ Err Memory)
  pub nothing : IsTrue out.tells → out.new ≡ out.old

pub record HasCourse (words : List (List ℕ)) (held : List ℕ → List ℕ) (out : Stream) (answer : Result Bool Stop) : Type 0 where
  pub course : Course
  pub is : IsCourse words held course
  pub follows : Follows course out answer

-- ---- what is asked of a robot
-- the answer comes neither from the words nor from the robot, nor from the constraints
abbrev pub is_late : Result Bool Stop → Bool
is_late (Err (Usage fault)) = false
is_late (Err (Robot fault)) = false
is_late (Err (Constraints fault)) = false
is_late answer = true

-- the steps behind the constraints
pub record Obeys (plan : Plan) (inputs : Source) (out : Stream) (answer : Result Bool Stop) : Type 0 where
  pub late : IsTrue (is_late answer)
  pub long_rows : answer ≡ Err (Rows rows.TooLong) → most_rows < inputs.given
  pub input : Counts Input answer inputs.before inputs.after
  pub output : Counts Output answer out.before out.after
  pub course : IsTrue inputs.tells → EndsEarly out answer ⊎ Follows (course_of plan inputs.holds) out answer

-- ---- a run
-- the words name a state
pub record NamesState (words : List (List ℕ)) : Type 0 where
  pub command : Asked
  pub told : command_of words ≡ Ok command
  pub name : List ℕ
  pub named : command.state ≡ Some name

-- the words ask for articulated bodies
pub record AsksArticulated (words : List (List ℕ)) : Type 0 where
  pub command : Asked
  pub told : command_of words ≡ Ok command
  pub order : command.order ≡ articulated

-- the words do not fit, or name a state that may be unknown, or ask for articulated bodies, for which the robot may not be fit
abbrev pub IsUsage : List (List ℕ) → UsageFault → Type 0
IsUsage words misuse.State = NamesState words
IsUsage words misuse.Mimic = AsksArticulated words
IsUsage words (misuse.Words fault) = command_of words ≡ Err fault

-- the steps of a run up to its answer. The causes in the words, in the counts and in the number of bytes given stand also where the inputs do not
-- tell their bytes.
pub record Goes (words : List (List ℕ)) (inputs : Source) (out : Stream) (answer : Result Bool Stop) : Type 0 where
  pub usage : (fault : UsageFault) → answer ≡ Err (Usage fault) → IsUsage words fault
  pub usage_always : (fault : WordsFault) → command_of words ≡ Err fault → (answer ≡ Err (Usage (misuse.Words fault))) ⊎ (answer ≡ Err Memory)
  pub long_file : (file : WhichFile) → answer ≡ Err (Robot (robot.TooLong file)) → most_file < inputs.given
  pub long_constraints : answer ≡ Err (Constraints constraints.TooLong) → most_file < inputs.given
  pub long_rows : answer ≡ Err (Rows rows.TooLong) → most_rows < inputs.given
  pub input : Counts Input answer inputs.before inputs.after
  pub output : Counts Output answer out.before out.after
  pub course : IsTrue inputs.tells → EndsEarly out answer ⊎ HasCourse words inputs.holds out answer

-- ---- standard error
-- behind the line on standard error the parser of words tells more, where it refuses them; nothing else comes behind it
abbrev pub IsRest : Result Bool Stop → List ℕ → Type 0
IsRest (Err (Usage (misuse.Words words_fault.Words))) rest = Unit {0}
IsRest answer rest = rest ≡ []

-- what is put to standard error: all of it, or a part where it fails
pub record IsSaid (answer : Result Bool Stop) (err : Stream) : Type 0 where
  pub rest : List ℕ
  pub is_rest : IsRest answer rest
  pub whole : IsTrue err.tells → (err.new ≡ err.old ++ (text_of answer ++ rest)) ⊎ Rose err.before err.after
  pub part : IsTrue err.tells → PutsPart err.old err.new (text_of answer ++ rest)

-- how a run ends: the status and the line on standard error are those of one answer
pub record Ends (words : List (List ℕ)) (inputs : Source) (out err : Stream) (ended : Status) (answer : Result Bool Stop) : Type 0 where
  pub status : ended ≡ status_of answer
  pub steps : Goes words inputs out answer
  pub said : IsSaid answer err

-- ---- completeness
-- a status that no fault and no want of memory decides: that of the course
pub record IsOfCourse (words : List (List ℕ)) (held : List ℕ → List ℕ) (ended : Status) : Type 0 where
  pub course : Course
  pub is : IsCourse words held course
  pub status : ended ≡ status_of course.answer

-- where the inputs tell their bytes and no count rose, a run ends as its course says, or for want of memory
abbrev pub IsComplete : List (List ℕ) → Source → Stream → Status → Type 0
IsComplete words inputs out ended =
    IsTrue inputs.tells → ¬ Rose inputs.before inputs.after → ¬ Rose out.before out.after → IsOfCourse words inputs.holds ended ⊎ (ended ≡ status.Memory)
