use Rattle.rb_joint.specs.Level.{level_table}
use Rattle.rb_joint.proofs.AxisTurns.{product_rows}
use Rattle.rb_joint.proofs.level.LevelTurn.after.Goals as goal

pub returns : goal.returns
returns c =
    product_rows c.args.m.now (level_table c.args.self.now) c.new.result c.x.result c.y.result c.z.result c.in_ok-x.x c.in_ok-y.y c.in_ok-z.z
    c.x.ensures c.y.ensures c.z.ensures c.in_ok-x.ensures c.in_ok-y.ensures c.in_ok-z.ensures c.new.ensures
