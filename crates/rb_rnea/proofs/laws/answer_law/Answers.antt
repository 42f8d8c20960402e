use Rattle.rb_rnea.proofs.RowPass.{one_answer, answer_means}
use Rattle.rb_rnea.proofs.DynamicsEnclose.{dynamics_enclose}
use Rattle.rb_rnea.proofs.laws.answer_law.Goals as goal

pub returns-clause-one : goal.returns-clause-one
returns-clause-one c = one_answer

pub returns-clause-means : goal.returns-clause-means
returns-clause-means c = answer_means

pub returns-clause-encloses : goal.returns-clause-encloses
returns-clause-encloses c = λ tree row kept. record { values = λ w are. dynamics_enclose tree row w kept are }
