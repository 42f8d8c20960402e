-- What a run goes by, from its words and from what the names hold; or the first thing for which it has none.
use Rattle.std.specs.Prelude.{◌≡◌, ◌≤◌, ◌<◌, true, false, ◌⊎◌, ℕ, List, [], Bool, nat_lt, if◌then◌else◌, length, Option, Some, None, Result, Ok, Err}
use Rattle.std.specs.Option.{option_map}
use Rattle.rb_frac.specs.Ops.{V3}
use Rattle.rb_num.specs.Interval.{Interval}
use Rattle.rb_result.specs.Steps.{◌>>=◌, told_as}
use Rattle.rb_tags.specs.declared.tag.Tag.{Tag}
use Rattle.rb_tags.specs.Tags.{tags_of}
use Rattle.rb_tags.specs.declared.root.RootKind.{RootKind}
use Rattle.rb_urdf.specs.Robot.{Robot}
use Rattle.rb_urdf.specs.Urdf.{urdf_of}
use Rattle.rb_srdf.specs.Srdf.{Semantics}
use Rattle.rb_srdf.specs.Groups.{HoldsItself}
use Rattle.rb_srdf.specs.Read.{semantics_of}
use Rattle.rb_srdf.specs.Read as Srdf
use Rattle.rb_tree.specs.Columns.{has_mimic}
use Rattle.rb_tree.specs.Robot.{Tree, AreBodies}
use Rattle.rb_tree.specs.State.{Row, neutral_under}
use Rattle.rb_tree.specs.States.{HasState, IsPositionWith, entries_named}
use Rattle.rb_tree.specs.declared.faults.WhichFile.{WhichFile}
use Rattle.rb_tree.specs.declared.faults.WhichFile.TheVariants as file
use Rattle.rb_tree.specs.Build.{Source, IsBuilt}
use Rattle.rb_tree.specs.Refusals.{HasFault}
use Rattle.rb_constraint.specs.declared.constraints.Constraint.{Constraint}
use Rattle.rb_constraint.specs.declared.faults.ConFault.{ConFault}
use Rattle.rb_constraint.specs.Constraints.{AreConstraints}
use Rattle.rb_constraint.specs.File.{IsFile}
use Rattle.rb_constraint.specs.Refusals as Constraints
use Rattle.rb_rows.specs.declared.task.Task.{Task}
use Rattle.rb_rows.specs.declared.task.Task.TheVariants as task
use Rattle.rb_run.specs.declared.job.Job.{Job}
use Rattle.rb_words.specs.declared.order.Order.{Order}
use Rattle.rb_words.specs.declared.order.Order.TheVariants as order
use Rattle.rb_words.specs.Words.{Asked, command_of}
use Rattle.rbd.specs.declared.stop.RobotFault.{RobotFault}
use Rattle.rbd.specs.declared.stop.RobotFault.TheVariants as why
use Rattle.rbd.specs.declared.stop.ConstraintsFault.{ConstraintsFault}
use Rattle.rbd.specs.declared.stop.ConstraintsFault.TheVariants as wrong
use Rattle.rbd.specs.declared.stop.UsageFault.{UsageFault}
use Rattle.rbd.specs.declared.stop.UsageFault.TheVariants.{State, Mimic, Words}
use Rattle.rbd.specs.declared.stop.Stop.{Stop}
use Rattle.rbd.specs.declared.stop.Stop.TheVariants.{Usage, Robot as AtRobot, Constraints as AtConstraints, Rows, Input, Output, Memory}

-- the most bytes of a file of the robot or of constraints
abbrev pub most_file : ℕ
most_file = 8388608

-- ---- the robot's files
-- the bytes of the file of links and joints, and of that of groups and states where it is given
pub record Files : Type 0 where
  pub urdf : List ℕ
  pub srdf : Option (List ℕ)

abbrev pub files : (List ℕ → List ℕ) → List ℕ → Option (List ℕ) → Files
files held urdf srdf = record { urdf = held urdf; srdf = option_map held srdf }

abbrev pub files_of : Asked → (List ℕ → List ℕ) → Files
files_of command held = files held command.urdf command.srdf

-- the tags of a file, or the first fault on the way to them
unfoldable pub tags_in : WhichFile → List ℕ → Result (List Tag) RobotFault
tags_in file bytes = if nat_lt most_file (length bytes) then Err (why.TooLong file) else told_as (why.Tags file) (tags_of bytes)

-- its links and joints
unfoldable pub urdf_in : List ℕ → Result Robot RobotFault
urdf_in bytes = tags_in file.Urdf bytes >>= λ tags. told_as why.Urdf (urdf_of tags)

-- its groups, states and virtual joints
pub record IsReadFrom (bytes : List ℕ) (semantics : Semantics) : Type 0 where
  pub tags : List Tag
  pub tags_are : tags_in file.Srdf bytes ≡ Ok tags
  pub read : semantics_of tags ≡ Ok semantics
  pub no_loop : (k : ℕ) → HoldsItself semantics.groups k → ⊥

abbrev pub IsSemanticsIn : Option (List ℕ) → Option Semantics → Type 0
IsSemanticsIn None None = Unit {0}
IsSemanticsIn (Some bytes) (Some semantics) = IsReadFrom bytes semantics
IsSemanticsIn _ _ = ⊥

-- tags tell no groups, states and virtual joints
abbrev pub IsRefusedBy : List Tag → RobotFault → Type 0
IsRefusedBy tags (why.Srdf fault) = Srdf.IsRefused tags fault
IsRefusedBy tags fault = ⊥

-- those of a file tell none
pub record IsRefusedFrom (bytes : List ℕ) (fault : RobotFault) : Type 0 where
  pub tags : List Tag
  pub tags_are : tags_in file.Srdf bytes ≡ Ok tags
  pub refused : IsRefusedBy tags fault

-- the first fault on the way to them
abbrev pub HasNoSemantics : Option (List ℕ) → RobotFault → Type 0
HasNoSemantics None fault = ⊥
HasNoSemantics (Some bytes) fault = (tags_in file.Srdf bytes ≡ Err fault) ⊎ IsRefusedFrom bytes fault

-- what the files tell a robot, with this kind of root
pub record IsSource (root : Option RootKind) (files : Files) (source : Source) : Type 0 where
  pub urdf : urdf_in files.urdf ≡ Ok source.urdf
  pub srdf : IsSemanticsIn files.srdf source.srdf
  pub root_is : source.root ≡ root

-- the robot of the files with this kind of root is this tree
pub record IsRobotOf (root : Option RootKind) (files : Files) (tree : Tree) : Type 0 where
  pub source : Source
  pub read : IsSource root files source
  pub built : IsBuilt source tree
  pub kept : AreBodies tree.bodies

-- what the files tell is no tree
abbrev pub IsUnfit : Source → RobotFault → Type 0
IsUnfit source (why.Tree fault) = HasFault source fault
IsUnfit source fault = ⊥

-- the file of groups and states is refused, and that of links and joints is not
pub record IsNoSemantics (files : Files) (fault : RobotFault) : Type 0 where
  pub urdf : Robot
  pub read : urdf_in files.urdf ≡ Ok urdf
  pub refused : HasNoSemantics files.srdf fault

-- the files are those of a robot, which is no tree
pub record IsNoTree (root : Option RootKind) (files : Files) (fault : RobotFault) : Type 0 where
  pub source : Source
  pub read : IsSource root files source
  pub unfit : IsUnfit source fault

-- the first fault of the files: of that of links and joints; of the other, where that one is read; of the robot, where both are
abbrev pub IsRefused : Option RootKind → Files → RobotFault → Type 0
IsRefused root files fault = (urdf_in files.urdf ≡ Err fault) ⊎ (IsNoSemantics files fault ⊎ IsNoTree root files fault)

-- ---- the state that rows start from
-- some group state has the name, and the position is the neutral one with what all states of the name set
pub record IsNamed (tree : Tree) (gravity : V3 Interval) (name : List ℕ) (start : Row) : Type 0 where
  pub known : HasState tree.states name
  pub position : IsPositionWith (entries_named tree.states name) (neutral_under gravity tree).q start.q
  pub rest : start ≡ record (neutral_under gravity tree) { q = start.q }

-- under this gravity the neutral state, or the one of the name that is told
abbrev pub IsStart : Tree → V3 Interval → Option (List ℕ) → Row → Type 0
IsStart tree gravity None start = start ≡ neutral_under gravity tree
IsStart tree gravity (Some name) start = IsNamed tree gravity name start

-- ---- the constraints
-- those of a file for a robot
pub record IsConstraintsFile (tree : Tree) (bytes : List ℕ) (constraints : List Constraint) : Type 0 where
  pub short : length bytes ≤ most_file
  pub is : IsFile tree bytes constraints
  pub kept : AreConstraints constraints

-- of the file where it is given, else none
abbrev pub IsConstraintsIn : Tree → Option (List ℕ) → List Constraint → Type 0
IsConstraintsIn tree None constraints = constraints ≡ []
IsConstraintsIn tree (Some bytes) constraints = IsConstraintsFile tree bytes constraints

-- one says none, for this first fault
pub record IsRefusedFile (tree : Tree) (bytes : List ℕ) (fault : ConFault) : Type 0 where
  pub short : length bytes ≤ most_file
  pub refused : Constraints.HasFault tree bytes fault

-- what is wrong with the file where it is given
abbrev pub HasNoConstraints : Tree → Option (List ℕ) → ConstraintsFault → Type 0
HasNoConstraints tree None fault = ⊥
HasNoConstraints tree (Some bytes) wrong.TooLong = most_file < length bytes
HasNoConstraints tree (Some bytes) (wrong.File fault) = IsRefusedFile tree bytes fault

abbrev pub constraints_held : Asked → (List ℕ → List ℕ) → Option (List ℕ)
constraints_held command held = option_map held command.constraints

-- ---- the plan
-- what is asked for, of which robot, from which state, under which constraints, from the rows of which name, and whether the numbers of each row are
-- told with its answer
pub record Plan : Type 0 where
  pub order : Order
  pub tree : Tree
  pub start : Row
  pub constraints : List Constraint
  pub rows : List ℕ
  pub echo : Bool

abbrev pub plan : Order → Tree → Row → List Constraint → List ℕ → Bool → Plan
plan order tree start constraints rows echo =
    record { order = order; tree = tree; start = start; constraints = constraints; rows = rows; echo = echo }

abbrev pub plan_of : Asked → Tree → Row → List Constraint → Plan
plan_of command tree start constraints = plan command.order tree start constraints command.rows command.echo

-- what is asked of each row. Only `contact` and `impulse` look at the constraints.
abbrev pub job_of : Plan → Task → Job
job_of plan task = record { robot = plan.tree; cons = plan.constraints; task = task; echo = plan.echo }

-- articulated bodies, which are asked only of a robot in which no joint follows another
abbrev pub articulated : Order
articulated = order.Rows task.Aba

abbrev pub Leads : Order → Tree → Type 0
Leads asked tree = asked ≡ articulated → has_mimic tree.bodies ≡ false

-- the words name files, and the plan's robot, state and constraints are theirs; the robot is fit for what is asked
pub record IsPlan (words : List (List ℕ)) (held : List ℕ → List ℕ) (plan : Plan) : Type 0 where
  pub command : Asked
  pub told : command_of words ≡ Ok command
  pub robot : IsRobotOf command.root (files_of command held) plan.tree
  pub start : IsStart plan.tree command.gravity command.state plan.start
  pub constraints : IsConstraintsIn plan.tree (constraints_held command held) plan.constraints
  pub asked : plan ≡ plan_of command plan.tree plan.start plan.constraints
  pub leads : Leads plan.order plan.tree

-- the words name files, which have this fault
pub record HasNoRobot (words : List (List ℕ)) (held : List ℕ → List ℕ) (fault : RobotFault) : Type 0 where
  pub command : Asked
  pub told : command_of words ≡ Ok command
  pub refused : IsRefused command.root (files_of command held) fault

-- the words name a state that the robot of the files has not
pub record HasNoState (words : List (List ℕ)) (held : List ℕ → List ℕ) : Type 0 where
  pub command : Asked
  pub told : command_of words ≡ Ok command
  pub tree : Tree
  pub robot : IsRobotOf command.root (files_of command held) tree
  pub name : List ℕ
  pub named : command.state ≡ Some name
  pub unknown : HasState tree.states name → ⊥

-- the words ask for articulated bodies, and a joint of the robot of the files follows another
pub record HasFollower (words : List (List ℕ)) (held : List ℕ → List ℕ) : Type 0 where
  pub command : Asked
  pub told : command_of words ≡ Ok command
  pub tree : Tree
  pub robot : IsRobotOf command.root (files_of command held) tree
  pub start : Row
  pub starts : IsStart tree command.gravity command.state start
  pub order : command.order ≡ articulated
  pub mimic : has_mimic tree.bodies ≡ true

-- the words name a file of constraints that has this fault, and all else is fit
pub record HasBadConstraints (words : List (List ℕ)) (held : List ℕ → List ℕ) (fault : ConstraintsFault) : Type 0 where
  pub command : Asked
  pub told : command_of words ≡ Ok command
  pub tree : Tree
  pub robot : IsRobotOf command.root (files_of command held) tree
  pub start : Row
  pub starts : IsStart tree command.gravity command.state start
  pub leads : Leads command.order tree
  pub refused : HasNoConstraints tree (constraints_held command held) fault

abbrev pub IsMisused : List (List ℕ) → (List ℕ → List ℕ) → UsageFault → Type 0
IsMisused words held State = HasNoState words held
IsMisused words held Mimic = HasFollower words held
IsMisused words held (Words fault) = command_of words ≡ Err fault

-- the first thing for which there is no plan
abbrev pub HasNoPlan : List (List ℕ) → (List ℕ → List ℕ) → Stop → Type 0
HasNoPlan words held (Usage fault) = IsMisused words held fault
HasNoPlan words held (AtRobot fault) = HasNoRobot words held fault
HasNoPlan words held (AtConstraints fault) = HasBadConstraints words held fault
HasNoPlan words held (Rows fault) = ⊥
HasNoPlan words held Input = ⊥
HasNoPlan words held Output = ⊥
HasNoPlan words held Memory = ⊥
