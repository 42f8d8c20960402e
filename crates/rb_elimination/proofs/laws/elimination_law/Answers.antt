use Rattle.rb_elimination.proofs.Dense.{steps_eliminate, pivots_eliminate}
use Rattle.rb_elimination.proofs.laws.elimination_law.Goals as goal

pub returns-clause-steps : goal.returns-clause-steps
returns-clause-steps c = steps_eliminate

pub returns-clause-pivots : goal.returns-clause-pivots
returns-clause-pivots c = pivots_eliminate
