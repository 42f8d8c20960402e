use Rattle.std.proofs.Common.{rules}
use Rattle.rb_joint.proofs.AxisTurns.{origin_is}
use Rattle.rb_joint.proofs.places.origin_of.Goals as goal

pub returns-then-is_narrow_vector-clause-exact : goal.returns-then-is_narrow_vector-clause-exact
returns-then-is_narrow_vector-clause-exact c = origin_is c.args.f.now (record { rot = c.f.inside.rot; at = c.f.inside.at }) c.f.view_is (search rules)
