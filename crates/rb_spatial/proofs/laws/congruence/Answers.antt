use Rattle.rb_spatial.proofs.Identities.{carry-congruence}
use Rattle.rb_spatial.proofs.laws.congruence.Goals as goal

pub returns : goal.returns
returns c = carry-congruence
