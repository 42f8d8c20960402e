-- What may be wrong with the tags of a robot, and how it is told.
use Rattle.std.specs.Prelude.{ℕ, List, ◌++◌, codes, decimal}
use Rattle.rb_urdf.specs.declared.faults.UrdfFault.{UrdfFault}
use Rattle.rb_urdf.specs.declared.faults.UrdfFaultKind.{UrdfFaultKind}
use Rattle.rb_urdf.specs.declared.faults.UrdfFaultKind.TheVariants as kind

abbrev pub no_memory : UrdfFault
no_memory = record { kind = kind.Memory; at = 0 }

-- a fault of a kind at a place
abbrev pub fault_at : UrdfFaultKind → ℕ → UrdfFault
fault_at kind place = record { kind = kind; at = place }

-- the same, where want of memory has no place
abbrev pub placed_kind : UrdfFaultKind → ℕ → UrdfFault
placed_kind kind.Memory place = no_memory
placed_kind kind place = fault_at kind place

abbrev pub kind_word : UrdfFaultKind → List ℕ
kind_word kind.NoRobot = codes "NoRobot"
kind_word kind.Xacro = codes "Xacro"
kind_word kind.NoName = codes "NoName"
kind_word kind.NameTwice = codes "NameTwice"
kind_word kind.BadNumber = codes "BadNumber"
kind_word kind.NegativeMass = codes "NegativeMass"
kind_word kind.BadType = codes "BadType"
kind_word kind.NoParent = codes "NoParent"
kind_word kind.NoChild = codes "NoChild"
kind_word kind.UnknownLink = codes "UnknownLink"
kind_word kind.PlanarAxis = codes "PlanarAxis"
kind_word kind.MimicUnknown = codes "MimicUnknown"
kind_word kind.MimicChain = codes "MimicChain"
kind_word kind.MimicMaster = codes "MimicMaster"
kind_word kind.Memory = codes "Memory"

-- the word of the kind, and the place
abbrev pub fault_text : UrdfFault → List ℕ
fault_text fault = kind_word fault.kind ++ codes " at " ++ decimal fault.at
