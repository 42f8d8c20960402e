use Rattle.std.proofs.Common.{sym}
use Rattle.rb_tags.proofs.Closing.{closing_begins, closing_ends}
use Rattle.rb_tags.proofs.marks.tag.Goals as goal

pub range-requires-clause-end_boundary : goal.range-requires-clause-end_boundary
range-requires-clause-end_boundary c = closing_begins c.args.text.now c.in-Some.end (sym c.in-Some.ensures)

pub range_from-requires : goal.range_from-requires
range_from-requires c = λ some. closing_ends c.args.text.now c.in-Some.end c.utf8.text (sym c.in-Some.ensures)
