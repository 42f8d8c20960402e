use Rattle.std.proofs.Common.{rules}
use Rattle.rb_joint.proofs.AxisTurns.{level_one, level_minus}
use Rattle.rb_joint.proofs.level.level_turn.Goals as goal

pub returns-then-is_exactly : goal.returns-then-is_exactly
returns-then-is_exactly c =
    level_one c.args.a.now c.args.t.now c.in_ok-about.about c.in_ok-about.part c.t.inside.sin c.t.inside.cos c.neg-back.result
    c.in_ok-about.ensures (search rules) c.t.view_is (search rules) (search rules) c.neg-back.ensures.exact

pub returns-then-is_exactly-2 : goal.returns-then-is_exactly-2
returns-then-is_exactly-2 c =
    level_minus c.args.a.now c.args.t.now c.in_ok-about.about c.in_ok-about.part c.t.inside.sin c.t.inside.cos c.neg-back.result
    c.in_ok-about.ensures (search rules) c.t.view_is (search rules) (search rules) c.neg-back.ensures.exact
