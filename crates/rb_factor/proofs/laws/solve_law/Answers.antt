use Rattle.rb_factor.proofs.OneSolve.{solve_is_one}
use Rattle.rb_factor.proofs.laws.solve_law.Goals as goal

pub returns : goal.returns
returns c = solve_is_one
