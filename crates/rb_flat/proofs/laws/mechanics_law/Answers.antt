use Rattle.rb_flat.proofs.Derivatives.{accelerations_are_rates}
use Rattle.rb_flat.proofs.Rest.{rest_needs_weight}
use Rattle.rb_flat.proofs.Symmetric.{torque_is_virtual_power}
use Rattle.rb_flat.proofs.VirtualWork.{virtual_work}
use Rattle.rb_flat.proofs.laws.mechanics_law.Goals as goal

pub returns-clause-rates : goal.returns-clause-rates
returns-clause-rates c = accelerations_are_rates

pub returns-clause-weight : goal.returns-clause-weight
returns-clause-weight c = rest_needs_weight

pub returns-clause-work : goal.returns-clause-work
returns-clause-work c = virtual_work

pub returns-clause-alembert : goal.returns-clause-alembert
returns-clause-alembert c = torque_is_virtual_power
