use Rattle.rb_rows.proofs.PlainLines.{plain_line_splits}
use Rattle.rb_rows.proofs.RowLaws.{row_tells}
use Rattle.rb_rows.proofs.laws.row_law.Goals as goal

pub returns-clause-told : goal.returns-clause-told
returns-clause-told c = row_tells

pub returns-clause-plain : goal.returns-clause-plain
returns-clause-plain c = plain_line_splits
