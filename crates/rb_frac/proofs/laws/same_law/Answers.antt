use Rattle.rb_frac.proofs.laws.same_law.Goals as goal
use Rattle.rb_frac.proofs.FracLaws.{equivalence}

pub returns : goal.returns
returns c = equivalence
