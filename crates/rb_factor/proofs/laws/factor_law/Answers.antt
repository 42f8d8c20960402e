use Rattle.rb_factor.proofs.OneFactor.{factor_is_one}
use Rattle.rb_factor.proofs.laws.factor_law.Goals as goal

pub returns : goal.returns
returns c = factor_is_one
