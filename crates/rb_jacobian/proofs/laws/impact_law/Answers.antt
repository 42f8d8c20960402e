use Rattle.rb_jacobian.proofs.Impact.{impact_is_bordered, impact_from_bordered, impact_has_one_solution}
use Rattle.rb_jacobian.proofs.laws.impact_law.Goals as goal

pub returns-clause-solves : goal.returns-clause-solves
returns-clause-solves c = impact_is_bordered

pub returns-clause-back : goal.returns-clause-back
returns-clause-back c = impact_from_bordered

pub returns-clause-one : goal.returns-clause-one
returns-clause-one c = impact_has_one_solution
