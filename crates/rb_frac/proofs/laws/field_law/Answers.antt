use Rattle.rb_frac.proofs.laws.field_law.Goals as goal
use Rattle.rb_frac.proofs.FracLaws.{field}

pub returns : goal.returns
returns c = field
