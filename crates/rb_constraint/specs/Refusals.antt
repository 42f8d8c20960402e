-- What may be wrong with a file, in the words of the format, and in which order it is told.
use Rattle.std.specs.Prelude.{◌≡◌, ◌≢◌, ℕ, ◌+◌, ◌<◌, List, [], ◌∷◌, length, Any}
use Rattle.std.specs.List.{AllZip}
use Rattle.rb_tags.specs.InOrder.{SaysNone, Refusal, ◌when◌, IsFirst, at_place, in_turn}
use Rattle.rb_tree.specs.Robot.{Tree}
use Rattle.rb_constraint.specs.declared.faults.ConFault.{ConFault}
use Rattle.rb_constraint.specs.declared.faults.ConKind.{ConKind}
use Rattle.rb_constraint.specs.declared.faults.ConKind.TheVariants as kind
use Rattle.rb_constraint.specs.declared.constraints.Constraint.{Constraint}
use Rattle.rb_constraint.specs.declared.constraints.TheConstants.{MAX_ROWS}
use Rattle.rb_constraint.specs.Faults.{fault_at}
use Rattle.rb_constraint.specs.Constraints.{rows_of}
use Rattle.rb_constraint.specs.File.{NumberedLine, lines_of, header, name_in, axes_in, IsRecord, IsAxes, AreLinks, AreNumbers, Says}

-- ---- what may be wrong
-- the record of a line is so
pub record HasFields (line : NumberedLine) (P : List (List ℕ) → Type 0) : Type 0 where
  pub fields : List (List ℕ)
  pub is : IsRecord line.content fields
  pub so : P fields

abbrev pub LacksRecord : NumberedLine → Type 0
LacksRecord line = SaysNone (IsRecord line.content)

abbrev pub IsNamed : List ℕ → NumberedLine → Type 0
IsNamed name line = HasFields line (λ fields. name_in fields ≡ name)

-- an earlier line has the name
abbrev pub HasNameAgain : List NumberedLine → NumberedLine → Type 0
HasNameAgain before line = HasFields line (λ fields. Any (IsNamed (name_in fields)) before)

abbrev pub LacksAxes : NumberedLine → Type 0
LacksAxes line = HasFields line (λ fields. SaysNone (IsAxes (axes_in fields)))

-- a link is not one of the robot
abbrev pub LacksLinks : Tree → NumberedLine → Type 0
LacksLinks tree line = HasFields line (λ fields. SaysNone (AreLinks tree fields))

-- a number is no bracket, or mu or e is not within its limits
abbrev pub LacksNumbers : NumberedLine → Type 0
LacksNumbers line = HasFields line (λ fields. SaysNone (AreNumbers fields))

-- with the rows of this line there are too many
pub record HasTooManyRows (tree : Tree) (before : List NumberedLine) (line : NumberedLine) : Type 0 where
  pub earlier : List Constraint
  pub say : AllZip (Says tree) before earlier
  pub more : HasFields line (λ fields. MAX_ROWS < length (rows_of earlier) + length (axes_in fields))

-- ---- the order in which it is told
-- the refusals of a line behind these
abbrev pub line_refusals : Tree → List NumberedLine → NumberedLine → List (Refusal ConKind)
line_refusals tree before line =
    kind.BadLine when LacksRecord line
    ∷ kind.NameTwice when HasNameAgain before line
    ∷ kind.BadRows when LacksAxes line
    ∷ kind.UnknownLink when LacksLinks tree line
    ∷ kind.BadNumber when LacksNumbers line
    ∷ kind.TooMany when HasTooManyRows tree before line
    ∷ []

-- of lines in the order of the file, behind those before
abbrev pub in_order : Tree → List NumberedLine → List NumberedLine → List (Refusal ConFault)
in_order tree before lines = in_turn (λ before line. at_place fault_at line.number (line_refusals tree before line)) before lines

-- of the lines of a file that are left
abbrev pub file_refusals : Tree → List NumberedLine → List (Refusal ConFault)
file_refusals tree [] = fault_at kind.BadHeader 0 when Unit {0} ∷ []
file_refusals tree (first ∷ behind) = fault_at kind.BadHeader first.number when (first.content ≢ header) ∷ in_order tree [] behind

-- the fault of the first of all refusals whose condition holds
abbrev pub HasFault : Tree → List ℕ → ConFault → Type 0
HasFault tree text fault = IsFirst (file_refusals tree (lines_of text)) fault
