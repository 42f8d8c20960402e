use Rattle.rb_frac.proofs.laws.keeps_same_law.Goals as goal
use Rattle.rb_frac.proofs.FracLaws.{keeps_same}

pub returns : goal.returns
returns c = keeps_same
