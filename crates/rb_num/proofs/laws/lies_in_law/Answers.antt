use Rattle.rb_num.proofs.Same.{lies_in_same}
use Rattle.rb_num.proofs.laws.lies_in_law.Goals as goal

pub returns : goal.returns
returns c = lies_in_same
