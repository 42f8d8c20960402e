use Rattle.std.proofs.Common.{rules}
use Rattle.rb_flat.specs.Turns.{about_z}
use Rattle.rb_joint.proofs.Enclosure.{turn_level_encloses}
use Rattle.rb_joint.proofs.turns.turn_level.Goals as goal

pub returns-clause-encloses : goal.returns-clause-encloses
unfolding about_z
returns-clause-encloses c = turn_level_encloses c.args.t.now _ (search rules)
