use Rattle.rb_num.proofs.Zeros.{zero_is_neutral}
use Rattle.rb_num.proofs.laws.zero_law.Goals as goal

pub returns : goal.returns
returns c = zero_is_neutral
