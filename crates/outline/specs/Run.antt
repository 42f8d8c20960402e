-- What a run puts, or its fault.
use Rattle.std.specs.Prelude.{◌≡◌, ◌⊎◌, ◌<◌, ℕ, List, [], ◌∷◌, ◌++◌, length, Option, Some, None, Err}
use Rattle.rb_io.specs.Calls.{PutsPart}
use Rattle.rb_io.specs.declared.calls.FileFault.TheVariants as File
use Rattle.rb_num.specs.declared.interval.NumFault.{NumFault}
use Rattle.rb_tree.specs.Robot.{Tree}
use Rattle.outline.specs.declared.faults.Fault.{Fault}
use Rattle.outline.specs.declared.faults.Fault.TheVariants as Is
use Rattle.outline.specs.declared.run.TheConstants.{MOST_BYTES}
use Rattle.outline.specs.Outline.{mass_of, IsOutline}
use Rattle.outline.specs.Reading.{IsMemory, IsRobotOf, HasFault}

-- behind the program's name stands the name of a file
abbrev pub file_of : List (List ℕ) → Option (List ℕ)
file_of (program ∷ file ∷ []) = Some file
file_of words = None

-- the text is the outline of the robot that the named file holds
pub record IsOutlineOf (words : List (List ℕ)) (holds : List ℕ → List ℕ) (text : List ℕ) : Type 0 where
  pub file : List ℕ
  pub named : file_of words ≡ Some file
  pub tree : Tree
  pub robot : IsRobotOf (holds file) tree
  pub is : IsOutline tree text

-- an outline is put
pub record PutsOutline (words : List (List ℕ)) (holds : List ℕ → List ℕ) (old new : List ℕ) : Type 0 where
  pub text : List ℕ
  pub is : IsOutlineOf words holds text
  pub put : new ≡ old ++ text

-- a front of an outline is put
pub record PutsFront (words : List (List ℕ)) (holds : List ℕ → List ℕ) (old new : List ℕ) : Type 0 where
  pub text : List ℕ
  pub is : IsOutlineOf words holds text
  pub put : PutsPart old new text

-- ---- faults
-- the masses of the robot have no sum within the limit of the numbers
pub record IsTooHeavy (bytes : List ℕ) (why : NumFault) : Type 0 where
  pub tree : Tree
  pub robot : IsRobotOf bytes tree
  pub fault : mass_of tree ≡ Err why

-- why the bytes of a file give no outline
abbrev pub HasNoOutline : List ℕ → Fault → Type 0
HasNoOutline bytes (Is.File why) = (why ≡ File.TooLong) × (MOST_BYTES < length bytes)
HasNoOutline bytes (Is.Mass why) = IsTooHeavy bytes why
HasNoOutline bytes fault = HasFault bytes fault

-- so it is of the named file
pub record IsOfFile (words : List (List ℕ)) (holds : List ℕ → List ℕ) (fault : Fault) : Type 0 where
  pub file : List ℕ
  pub named : file_of words ≡ Some file
  pub has : HasNoOutline (holds file) fault

-- why a run puts no outline, where neither an input nor the output fails
abbrev pub IsFault : List (List ℕ) → (List ℕ → List ℕ) → Fault → Type 0
IsFault words holds Is.Usage = file_of words ≡ None
IsFault words holds (Is.File File.Failed) = Unit {0}
IsFault words holds (Is.Output why) = Unit {0}
IsFault words holds fault = IsMemory fault ⊎ IsOfFile words holds fault

-- what a run that fails leaves: nothing is put, or a front of the outline where the output failed
abbrev pub Leaves : List (List ℕ) → (List ℕ → List ℕ) → List ℕ → List ℕ → Fault → Type 0
Leaves words holds old new (Is.Output why) = PutsFront words holds old new
Leaves words holds old new fault = new ≡ old

-- a fact where the output failed
abbrev pub IfOutput : Type 0 → Fault → Type 0
IfOutput P (Is.Output why) = P
IfOutput P fault = Unit {0}
