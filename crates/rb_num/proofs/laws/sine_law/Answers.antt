use Rattle.rb_num.proofs.Sine.{has_pair}
use Rattle.rb_num.proofs.laws.sine_law.Goals as goal

pub returns : goal.returns
returns c = has_pair
