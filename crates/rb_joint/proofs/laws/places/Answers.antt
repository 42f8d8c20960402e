use Rattle.rb_joint.proofs.Identities.{place_of-placed, place_shifted-placed}
use Rattle.rb_joint.proofs.laws.places.Goals as goal

pub returns-clause-turned : goal.returns-clause-turned
returns-clause-turned c = place_of-placed

pub returns-clause-shifted : goal.returns-clause-shifted
returns-clause-shifted c = place_shifted-placed
