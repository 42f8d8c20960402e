use Rattle.rb_coupling.proofs.OneCoupling.{coupling_is_one}
use Rattle.rb_coupling.proofs.laws.coupling_law.Goals as goal

pub returns : goal.returns
returns c = coupling_is_one
