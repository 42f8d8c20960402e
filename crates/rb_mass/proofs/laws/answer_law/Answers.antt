use Rattle.rb_mass.proofs.Told.{one_answer}
use Rattle.rb_mass.proofs.RowTold.{row_one, answer_means}
use Rattle.rb_mass.proofs.laws.answer_law.Goals as goal

pub returns-clause-one : goal.returns-clause-one
returns-clause-one c = one_answer

pub returns-clause-row : goal.returns-clause-row
returns-clause-row c = row_one

pub returns-clause-means : goal.returns-clause-means
returns-clause-means c = answer_means
