use Rattle.rb_impact.proofs.ImpactAnswer.{impact_means}
use Rattle.rb_impact.proofs.ImpactEncloses.{impact_encloses}
use Rattle.rb_impact.proofs.OneImpact.{has_one_impact}
use Rattle.rb_impact.proofs.laws.impact_answer_law.Goals as goal

pub returns-clause-one : goal.returns-clause-one
returns-clause-one c = has_one_impact

pub returns-clause-means : goal.returns-clause-means
returns-clause-means c = impact_means

pub returns-clause-encloses : goal.returns-clause-encloses
returns-clause-encloses c = λ tree row k kept fit. record { values = λ w are. impact_encloses tree row k w kept fit are }
