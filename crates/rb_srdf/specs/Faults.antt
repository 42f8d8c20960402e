-- What may be wrong with the tags of groups, states and virtual joints, and how it is told.
use Rattle.std.specs.Prelude.{ℕ, List, ◌++◌, codes, decimal}
use Rattle.rb_srdf.specs.declared.faults.SrdfFault.{SrdfFault}
use Rattle.rb_srdf.specs.declared.faults.SrdfFaultKind.{SrdfFaultKind}
use Rattle.rb_srdf.specs.declared.faults.SrdfFaultKind.TheVariants as kind

abbrev pub no_memory : SrdfFault
no_memory = record { kind = kind.Memory; at = 0 }

-- a fault of a kind at a place
abbrev pub fault_at : SrdfFaultKind → ℕ → SrdfFault
fault_at kind place = record { kind = kind; at = place }

-- the same, where want of memory has no place
abbrev pub placed_kind : SrdfFaultKind → ℕ → SrdfFault
placed_kind kind.Memory place = no_memory
placed_kind kind place = fault_at kind place

abbrev pub kind_word : SrdfFaultKind → List ℕ
kind_word kind.NoRobot = codes "NoRobot"
kind_word kind.NoName = codes "NoName"
kind_word kind.NameTwice = codes "NameTwice"
kind_word kind.BadNumber = codes "BadNumber"
kind_word kind.BadType = codes "BadType"
kind_word kind.UnknownName = codes "UnknownName"
kind_word kind.GroupLoop = codes "GroupLoop"
kind_word kind.Memory = codes "Memory"

-- the word of the kind, and the place
abbrev pub fault_text : SrdfFault → List ℕ
fault_text fault = kind_word fault.kind ++ codes " at " ++ decimal fault.at
