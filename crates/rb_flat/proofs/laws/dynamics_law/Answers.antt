use Rattle.rb_flat.proofs.Forward.{forward_has_one_solution}
use Rattle.rb_flat.proofs.OneSolution.{inverse_has_one_solution}
use Rattle.rb_flat.proofs.Superposed.{has_mass_table, torque_is_linear}
use Rattle.rb_flat.proofs.Symmetric.{mass_table_is_symmetric}
use Rattle.rb_flat.proofs.laws.dynamics_law.Goals as goal

pub returns-clause-inverse : goal.returns-clause-inverse
returns-clause-inverse c = inverse_has_one_solution

pub returns-clause-table : goal.returns-clause-table
returns-clause-table c = has_mass_table

pub returns-clause-symmetric : goal.returns-clause-symmetric
returns-clause-symmetric c = mass_table_is_symmetric

pub returns-clause-linear : goal.returns-clause-linear
returns-clause-linear c = torque_is_linear

pub returns-clause-forward : goal.returns-clause-forward
returns-clause-forward c = forward_has_one_solution
