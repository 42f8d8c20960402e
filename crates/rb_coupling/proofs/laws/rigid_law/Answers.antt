use Rattle.rb_coupling.proofs.Rigid.{zero_is_rigid}
use Rattle.rb_coupling.proofs.laws.rigid_law.Goals as goal

pub returns : goal.returns
returns c = zero_is_rigid
