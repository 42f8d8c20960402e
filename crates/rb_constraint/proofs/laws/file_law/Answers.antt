use Rattle.rb_constraint.proofs.FileLaws.{has_answer, has_one_answer}
use Rattle.rb_constraint.proofs.RowLaws.{rows_fit}
use Rattle.rb_constraint.proofs.laws.file_law.Goals as goal

pub returns-clause-some : goal.returns-clause-some
returns-clause-some c = has_answer

pub returns-clause-one : goal.returns-clause-one
returns-clause-one c = has_one_answer

pub returns-clause-fit : goal.returns-clause-fit
returns-clause-fit c = rows_fit
