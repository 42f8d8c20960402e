use Rattle.rb_flat.proofs.Rows.{rows_have_power, point_acceleration_is_rate, impulse_is_force_at_rest}
use Rattle.rb_flat.proofs.laws.row_law.Goals as goal

pub returns-clause-power : goal.returns-clause-power
returns-clause-power c = rows_have_power

pub returns-clause-point : goal.returns-clause-point
returns-clause-point c = point_acceleration_is_rate

pub returns-clause-impulse : goal.returns-clause-impulse
returns-clause-impulse c = impulse_is_force_at_rest
