-- What may be wrong with a file of constraints, and how it is told.
use Rattle.std.specs.Prelude.{ℕ, ◌-◌, ◌^◌, min, List, ◌++◌, codes, decimal}
use Rattle.rb_constraint.specs.declared.faults.ConFault.{ConFault}
use Rattle.rb_constraint.specs.declared.faults.ConKind.{ConKind}
use Rattle.rb_constraint.specs.declared.faults.ConKind.TheVariants as kind

abbrev pub no_memory : ConFault
no_memory = record { kind = kind.Memory; line = 0 }

-- a fault of a kind at a line; no line is told with a number above 2^32 - 1
abbrev pub fault_at : ConKind → ℕ → ConFault
fault_at kind line = record { kind = kind; line = min line (2 ^ 32 - 1) }

-- the same, where want of memory has no line
abbrev pub placed_kind : ConKind → ℕ → ConFault
placed_kind kind.Memory line = no_memory
placed_kind kind line = fault_at kind line

abbrev pub kind_word : ConKind → List ℕ
kind_word kind.BadHeader = codes "BadHeader"
kind_word kind.BadLine = codes "BadLine"
kind_word kind.NameTwice = codes "NameTwice"
kind_word kind.BadRows = codes "BadRows"
kind_word kind.UnknownLink = codes "UnknownLink"
kind_word kind.BadNumber = codes "BadNumber"
kind_word kind.TooMany = codes "TooMany"
kind_word kind.Memory = codes "Memory"

-- the word of the kind, and the line
abbrev pub fault_text : ConFault → List ℕ
fault_text fault = kind_word fault.kind ++ codes " at line " ++ decimal fault.line
