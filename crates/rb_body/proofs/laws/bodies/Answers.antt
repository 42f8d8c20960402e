use Rattle.rb_body.proofs.Identities.{body-relation}
use Rattle.rb_body.proofs.laws.bodies.Goals as goal

pub returns : goal.returns
returns c = record { body = body-relation }
