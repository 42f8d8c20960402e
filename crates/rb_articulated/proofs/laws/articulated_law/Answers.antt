use Rattle.rb_articulated.proofs.Solves.{joints_bear, forward_has_solution, found_is_solution}
use Rattle.rb_articulated.proofs.Exists.{has_articulated, has_found}
use Rattle.rb_articulated.proofs.laws.articulated_law.Goals as goal

pub returns-clause-bears : goal.returns-clause-bears
returns-clause-bears c = joints_bear

pub returns-clause-one : goal.returns-clause-one
returns-clause-one c = forward_has_solution

pub returns-clause-found : goal.returns-clause-found
returns-clause-found c = found_is_solution

pub returns-clause-inertias : goal.returns-clause-inertias
returns-clause-inertias c = has_articulated

pub returns-clause-accelerations : goal.returns-clause-accelerations
returns-clause-accelerations c = has_found
