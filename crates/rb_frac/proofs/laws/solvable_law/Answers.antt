use Rattle.rb_frac.proofs.laws.solvable_law.Goals as goal
use Rattle.rb_frac.proofs.Transfer.{solvable}

pub returns : goal.returns
returns c = solvable
