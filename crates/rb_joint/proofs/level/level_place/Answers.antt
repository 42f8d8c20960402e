use Rattle.std.proofs.Common.{rules}
use Rattle.rb_joint.proofs.AxisTurns.{level_place_is}
use Rattle.rb_joint.proofs.level.level_place.Goals as goal

pub returns-then-is_narrow_vector : goal.returns-then-is_narrow_vector
returns-then-is_narrow_vector c =
    level_place_is c.args.f.now (record { rot = c.f.inside.rot; at = c.f.inside.at }) c.args.a.now c.args.t.now c.in_ok-turn.turn c.in_ok-rot.rot c.transpose.result
    c.f.view_is c.in_ok-turn.ensures c.in_ok-rot.ensures (search rules) c.transpose.ensures
