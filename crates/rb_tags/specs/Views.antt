-- What contracts see of marks and of the reader.
use Rattle.rb_tags.specs.declared.marks.ReadMark.{ReadMark}
use Rattle.rb_tags.specs.declared.marks.ReadMark.TheVariants as read
use Rattle.std.specs.Prelude.{reverse}
use Rattle.rb_tags.specs.declared.reader.Reader.{Reader}
use Rattle.rb_tags.specs.Marks.{Mark}
use Rattle.rb_tags.specs.Seen.{Seen}

abbrev pub mark_of : ReadMark → Mark
mark_of read.Passed = Mark.Passed
mark_of read.Data = Mark.Data
mark_of (read.Start start) = Mark.Start start
mark_of (read.End name) = Mark.End name.now

-- what contracts see of a reader
abbrev pub seen_of : Reader → Seen
seen_of reader = record { tags = reader.tags.items; open_elements = reverse reader.open.items }
