use Rattle.rb_frac.proofs.laws.order_law.Goals as goal
use Rattle.rb_frac.proofs.FracLaws.{ordered}

pub returns : goal.returns
returns c = ordered
