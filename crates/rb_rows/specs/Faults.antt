-- What may be wrong with a header or with the fields of a line, and how it is told.
use Rattle.std.specs.Prelude.{ℕ, List, ◌++◌, codes, decimal}
use Rattle.rb_text.specs.declared.bracket.TextFault.{TextFault}
use Rattle.rb_text.specs.declared.bracket.TextFault.TheVariants as text
use Rattle.rb_rows.specs.declared.faults.HeaderKind.{HeaderKind}
use Rattle.rb_rows.specs.declared.faults.HeaderKind.TheVariants as Header
use Rattle.rb_rows.specs.declared.faults.HeaderFault.{HeaderFault}
use Rattle.rb_rows.specs.declared.faults.FieldKind.{FieldKind}
use Rattle.rb_rows.specs.declared.faults.FieldKind.TheVariants as Field
use Rattle.rb_rows.specs.declared.faults.FieldFault.{FieldFault}

abbrev pub header_word : HeaderKind → List ℕ
header_word Header.BadHeader = codes "BadHeader"
header_word Header.UnknownColumn = codes "UnknownColumn"
header_word Header.ColumnTwice = codes "ColumnTwice"
header_word Header.Memory = codes "Memory"

abbrev pub header_fault : HeaderKind → ℕ → HeaderFault
header_fault kind number = record { kind = kind; field = number }

abbrev pub no_memory : HeaderFault
no_memory = header_fault Header.Memory 0

-- the word of the kind, and the number of the field
abbrev pub header_text : HeaderFault → List ℕ
header_text fault = header_word fault.kind ++ codes " at field " ++ decimal fault.field

abbrev pub field_word : FieldKind → List ℕ
field_word Field.Count = codes "Count"
field_word Field.NotNumber = codes "NotNumber"
field_word Field.Backwards = codes "Backwards"
field_word Field.TooLarge = codes "TooLarge"

abbrev pub field_fault : FieldKind → ℕ → FieldFault
field_fault kind number = record { kind = kind; field = number }

-- the word of the kind, and the number of the field in square brackets
abbrev pub field_text : FieldFault → List ℕ
field_text fault = field_word fault.kind ++ codes "[" ++ decimal fault.field ++ codes "]"

-- the kind of a field whose text has this fault
abbrev pub kind_of : TextFault → FieldKind
kind_of text.NotNumber = Field.NotNumber
kind_of text.TooLarge = Field.TooLarge
kind_of text.Backwards = Field.Backwards
