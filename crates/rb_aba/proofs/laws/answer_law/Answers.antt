use Rattle.rb_aba.proofs.RowMeans.{one_answer, answer_means}
use Rattle.rb_aba.proofs.ForwardEncloses.{forward_encloses}
use Rattle.rb_aba.proofs.laws.answer_law.Goals as goal

pub returns-clause-one : goal.returns-clause-one
returns-clause-one c = λ tree row kept lead. one_answer tree row kept lead

pub returns-clause-means : goal.returns-clause-means
returns-clause-means c = λ tree row kept lead. answer_means tree row kept lead

pub returns-clause-encloses : goal.returns-clause-encloses
returns-clause-encloses c = λ tree row kept lead. record { values = λ w are. forward_encloses tree row w kept lead are }
