use Rattle.rb_rows.proofs.HeaderLaws.{names_columns, first_bad}
use Rattle.rb_rows.proofs.laws.header_law.Goals as goal

pub returns-clause-columns : goal.returns-clause-columns
returns-clause-columns c = names_columns

pub returns-clause-first : goal.returns-clause-first
returns-clause-first c = first_bad
