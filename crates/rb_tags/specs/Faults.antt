-- What may be wrong with a file of tags, and how it is told.
use Rattle.std.specs.Prelude.{ℕ, List, ◌++◌, codes, decimal}
use Rattle.rb_tags.specs.declared.read.TagFault.{TagFault}
use Rattle.rb_tags.specs.declared.read.TagKind.{TagKind}
use Rattle.rb_tags.specs.declared.read.TagKind.TheVariants as kind

abbrev pub no_memory : TagFault
no_memory = record { kind = kind.Memory; at = 0 }

-- a fault of a kind at a place
abbrev pub fault_at : TagKind → ℕ → TagFault
fault_at kind place = record { kind = kind; at = place }

-- the same, where want of memory has no place
abbrev pub placed_kind : TagKind → ℕ → TagFault
placed_kind kind.Memory place = no_memory
placed_kind kind place = fault_at kind place

abbrev pub kind_word : TagKind → List ℕ
kind_word kind.NotUtf8 = codes "NotUtf8"
kind_word kind.Unclosed = codes "Unclosed"
kind_word kind.Mismatch = codes "Mismatch"
kind_word kind.Doctype = codes "Doctype"
kind_word kind.Depth = codes "Depth"
kind_word kind.Twice = codes "Twice"
kind_word kind.BadMark = codes "BadMark"
kind_word kind.TooMany = codes "TooMany"
kind_word kind.Memory = codes "Memory"

-- the word of the kind, and the place
abbrev pub fault_text : TagFault → List ℕ
fault_text fault = kind_word fault.kind ++ codes " at " ++ decimal fault.at
