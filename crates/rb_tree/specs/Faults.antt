-- Faults of a robot's files, their texts, and the places that they name.
use Rattle.std.specs.Prelude.{◌≡◌, ℕ, List, ◌++◌, codes, decimal, Some, slice_get}
use Rattle.rb_urdf.specs.declared.robot.UrdfLink.{UrdfLink}
use Rattle.rb_tree.specs.declared.faults.TreeFault.{TreeFault}
use Rattle.rb_tree.specs.declared.faults.TreeKind.{TreeKind}
use Rattle.rb_tree.specs.declared.faults.TreeKind.TheVariants as Kind
use Rattle.rb_tree.specs.declared.faults.WhichFile.{WhichFile}
use Rattle.rb_tree.specs.declared.faults.WhichFile.TheVariants.{Urdf, Srdf}

abbrev pub no_memory : TreeFault
no_memory = record { kind = Kind.Memory; file = Urdf; at = 0 }

abbrev pub kind_word : TreeKind → List ℕ
kind_word Kind.OtherRobot = codes "OtherRobot"
kind_word Kind.UnknownName = codes "UnknownName"
kind_word Kind.TooManyLinks = codes "TooManyLinks"
kind_word Kind.TwoParents = codes "TwoParents"
kind_word Kind.NoRoot = codes "NoRoot"
kind_word Kind.TwoRoots = codes "TwoRoots"
kind_word Kind.Cycle = codes "Cycle"
kind_word Kind.RootName = codes "RootName"
kind_word Kind.NameTwice = codes "NameTwice"
kind_word Kind.TooManyColumns = codes "TooManyColumns"
kind_word Kind.AngleRange = codes "AngleRange"
kind_word Kind.ZeroAxis = codes "ZeroAxis"
kind_word Kind.Size = codes "Size"
kind_word Kind.BadChain = codes "BadChain"
kind_word Kind.StateValues = codes "StateValues"
kind_word Kind.Memory = codes "Memory"

abbrev pub file_word : WhichFile → List ℕ
file_word Urdf = codes "urdf"
file_word Srdf = codes "srdf"

-- the file, the kind and the place
abbrev pub fault_text : TreeFault → List ℕ
fault_text fault = file_word fault.file ++ codes ": " ++ kind_word fault.kind ++ codes " at " ++ decimal fault.at

-- a fault of this file and kind, of which more is known
abbrev pub IsIn : WhichFile → TreeKind → TreeFault → Type 0 → Type 0
IsIn file kind fault P = (fault.file ≡ file) × (fault.kind ≡ kind) × P

-- the same of the robot's own file
abbrev pub IsOfKind : TreeKind → TreeFault → Type 0 → Type 0
IsOfKind kind fault P = IsIn Urdf kind fault P

-- the place is that of the link of this number
pub record IsLinkPlace (links : List UrdfLink) (number at : ℕ) : Type 0 where
  pub link : UrdfLink
  pub is : slice_get links number ≡ Some link
  pub place : at ≡ link.place
