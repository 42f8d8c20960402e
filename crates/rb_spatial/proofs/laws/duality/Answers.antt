use Rattle.rb_spatial.proofs.Identities.{apply-dual, cross-dual}
use Rattle.rb_spatial.proofs.laws.duality.Goals as goal

pub returns-clause-apply : goal.returns-clause-apply
returns-clause-apply c = apply-dual

pub returns-clause-cross : goal.returns-clause-cross
returns-clause-cross c = cross-dual
