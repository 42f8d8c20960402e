use Rattle.rb_spatial.proofs.Identities.{newton-euler}
use Rattle.rb_spatial.proofs.laws.newton_euler.Goals as goal

pub returns : goal.returns
returns c = newton-euler
