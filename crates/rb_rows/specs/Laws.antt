-- What headers and rows say, for each robot.
use Rattle.std.specs.Prelude.{◌≡◌, ◌≢◌, ◌⊎◌, ◌<◌, ℕ, ◌+◌, List, [], ◌∷◌, ◌++◌, codes, length, take, slice_get, Option, Some, None, Ok, Err, Bool, true, false}
use Rattle.std.specs.Str.{is_utf8}
use Rattle.rb_num.specs.Interval.{Interval}
use Rattle.rb_text.specs.Bracket.{bracket_of}
use Rattle.rb_tree.specs.Robot.{Tree, AreBodies}
use Rattle.rb_tree.specs.State.{Row}
use Rattle.rb_constraint.specs.declared.constraints.Constraint.{Constraint}
use Rattle.rb_rows.specs.declared.faults.HeaderFault.{HeaderFault}
use Rattle.rb_rows.specs.declared.faults.HeaderKind.{HeaderKind}
use Rattle.rb_rows.specs.declared.faults.HeaderKind.TheVariants.{BadHeader, UnknownColumn, ColumnTwice, Memory}
use Rattle.rb_rows.specs.declared.header.Target.{Target}
use Rattle.rb_rows.specs.declared.header.Target.TheVariants as To
use Rattle.rb_rows.specs.Faults.{header_fault}
use Rattle.rb_rows.specs.Columns.{state_columns, state_targets}
use Rattle.rb_rows.specs.declared.task.Task.{Task}
use Rattle.rb_rows.specs.Head.{line_of, head_fields}
use Rattle.rb_rows.specs.Header.{is_remark, header_of, HasPlaces}
use Rattle.rb_record.specs.Record.{fields_in}
use Rattle.rb_rows.specs.Plain.{is_plain, parts_of}
use Rattle.rb_rows.specs.Row.{row_of}

-- ---- headers
-- the name and the number stand at one place among those of a state
pub record StandsFor (tree : Tree) (name : List ℕ) (target : Target) : Type 0 where
  pub place : ℕ
  pub name_is : slice_get (state_columns tree) place ≡ Some name
  pub target_is : slice_get (state_targets tree) place ≡ Some target

-- each field is a remark, or the name of the column whose number it stands for; and no two that are no remarks are the same
pub record IsHeader (tree : Tree) (fields : List (List ℕ)) (targets : List Target) : Type 0 where
  pub count : length targets ≡ length fields
  pub each : (k : ℕ) (field : List ℕ) (target : Target) → slice_get fields k ≡ Some field → slice_get targets k ≡ Some target →
      ((is_remark field ≡ true) × (target ≡ To.Remark)) ⊎ ((is_remark field ≡ false) × StandsFor tree field target)
  pub once : (i j : ℕ) (field : List ℕ) → i < j → slice_get fields i ≡ Some field → slice_get fields j ≡ Some field → is_remark field ≡ true

-- what a header stands for is that of the fields of its line
abbrev pub HeaderNamesColumns : Type 0
HeaderNamesColumns =
    (tree : Tree) (line : List ℕ) (targets : List Target) → header_of tree line ≡ Ok targets →
    (fields : List (List ℕ)) × (fields_in line ≡ Some fields) × IsHeader tree fields targets

-- a field is no column, or names one that an earlier field names
abbrev pub IsBad : Tree → List (List ℕ) → List ℕ → HeaderKind → Type 0
IsBad tree earlier field UnknownColumn = (k : ℕ) → slice_get (state_columns tree) k ≢ Some field
IsBad tree earlier field ColumnTwice = (k : ℕ) × (slice_get earlier k ≡ Some field)
IsBad tree earlier field BadHeader = ⊥
IsBad tree earlier field Memory = ⊥

-- the field of the fault is bad and no remark, and those before it are a header
pub record IsFirstBad (tree : Tree) (fields : List (List ℕ)) (fault : HeaderFault) : Type 0 where
  pub place : ℕ
  pub field : List ℕ
  pub number : fault.field ≡ place + 1
  pub here : slice_get fields place ≡ Some field
  pub plain : is_remark field ≡ false
  pub bad : IsBad tree (take place fields) field fault.kind
  pub targets : List Target
  pub earlier : IsHeader tree (take place fields) targets

-- the line is not text, or not one record; or the fault is that of the first bad field
abbrev pub HeaderFaultIsFirst : Type 0
HeaderFaultIsFirst =
    (tree : Tree) (line : List ℕ) (fault : HeaderFault) → header_of tree line ≡ Err fault →
    (((is_utf8 line ≡ false) ⊎ (fields_in line ≡ None)) × (fault ≡ header_fault BadHeader 0)) ⊎ ((fields : List (List ℕ)) × (fields_in line ≡ Some fields) × IsFirstBad tree fields fault)

-- ---- rows
-- a number of a row, if it is there
abbrev pub number_at : Row → Target → Option Interval
number_at row To.Remark = None
number_at row (To.Entry k) = slice_get row.q k
number_at row (To.Speed k) = slice_get row.v k
number_at row (To.Acceleration k) = slice_get row.a k
number_at row (To.Torque k) = slice_get row.tau k

-- the number is the bracket of the field, or as it was where the field is empty; a remark is no number
abbrev pub IsTold : Target → List ℕ → Row → Row → Type 0
IsTold To.Remark field old new = Unit {0}
IsTold target [] old new = number_at new target ≡ number_at old target
IsTold target (byte ∷ bytes) old new = (v : Interval) × (bracket_of (byte ∷ bytes) ≡ Ok v) × (number_at new target ≡ Some v)

-- each number that is named is told by its field; each other one, and gravity, is as it was
pub record IsRowOf (targets : List Target) (fields : List (List ℕ)) (old new : Row) : Type 0 where
  pub count : length fields ≡ length targets
  pub named : (k : ℕ) (target : Target) (field : List ℕ) → slice_get targets k ≡ Some target → slice_get fields k ≡ Some field → IsTold target field old new
  pub others : (target : Target) → ((k : ℕ) → slice_get targets k ≢ Some target) → number_at new target ≡ number_at old target
  pub gravity : new.gravity ≡ old.gravity

-- what a line tells, behind a header of the robot
abbrev pub RowTellsNumbers : Type 0
RowTellsNumbers =
    (tree : Tree) (first line : List ℕ) (targets : List Target) (old new : Row) → AreBodies tree.bodies → header_of tree first ≡ Ok targets → HasPlaces targets old →
    row_of targets line old ≡ Ok new → (fields : List (List ℕ)) × (fields_in line ≡ Some fields) × IsRowOf targets fields old new

-- a plain line is one record, whose fields are what stands between its commas
abbrev pub PlainLineSplits : Type 0
PlainLineSplits = (line : List ℕ) → is_plain line ≡ true → fields_in line ≡ Some (parts_of line)

-- ---- lines of names
-- the line is a text with LF behind it, and the text is read as these
pub record ReadsBack (line : List ℕ) (names : List (List ℕ)) : Type 0 where
  pub text : List ℕ
  pub line_is : line ≡ text ++ codes "\n"
  pub read : fields_in text ≡ Some names

-- of a robot that has columns
abbrev pub ColumnLineReadsBack : Type 0
ColumnLineReadsBack = (tree : Tree) → state_columns tree ≢ [] → ReadsBack (line_of (state_columns tree)) (state_columns tree)

abbrev pub HeadLineReadsBack : Type 0
HeadLineReadsBack =
    (tree : Tree) (cons : List Constraint) (task : Task) (echo : Bool) → ReadsBack (line_of (head_fields tree cons task echo)) (head_fields tree cons task echo)
