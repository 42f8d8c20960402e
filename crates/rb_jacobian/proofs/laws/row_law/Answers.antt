use Rattle.rb_jacobian.proofs.Rules.{vector_is_unit_force, value_is_acceleration}
use Rattle.rb_jacobian.proofs.laws.row_law.Goals as goal

pub returns-clause-vector : goal.returns-clause-vector
returns-clause-vector c = vector_is_unit_force

pub returns-clause-value : goal.returns-clause-value
returns-clause-value c = value_is_acceleration
