use Rattle.rb_elimination.proofs.Dense.{pivots_solve}
use Rattle.rb_elimination.proofs.Solutions.{factors_solve, elimination_solves}
use Rattle.rb_elimination.proofs.laws.solution_law.Goals as goal

pub returns-clause-one : goal.returns-clause-one
returns-clause-one c = pivots_solve

pub returns-clause-factors : goal.returns-clause-factors
returns-clause-factors c = factors_solve

pub returns-clause-table : goal.returns-clause-table
returns-clause-table c = elimination_solves
