use Rattle.rb_coupling.proofs.OneForce.{forces_are_one}
use Rattle.rb_coupling.proofs.laws.forces_law.Goals as goal

pub returns : goal.returns
returns c = forces_are_one
