use Rattle.rb_spatial.proofs.Identities.{cross-alternating, times-symmetric}
use Rattle.rb_spatial.proofs.laws.symmetry.Goals as goal

pub returns-clause-cross : goal.returns-clause-cross
returns-clause-cross c = cross-alternating

pub returns-clause-times : goal.returns-clause-times
returns-clause-times c = times-symmetric
