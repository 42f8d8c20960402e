use Rattle.rb_rows.proofs.LineLaws.{column_line_reads_back, head_line_reads_back}
use Rattle.rb_rows.proofs.laws.line_law.Goals as goal

pub returns-clause-columns : goal.returns-clause-columns
returns-clause-columns c = column_line_reads_back

pub returns-clause-head : goal.returns-clause-head
returns-clause-head c = head_line_reads_back
