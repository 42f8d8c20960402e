use Rattle.std.proofs.Common.{rules}
use Rattle.rb_joint.proofs.AxisTurns.{row_x_is, row_y_is, row_z_is}
use Rattle.rb_joint.proofs.level.LevelTurn.row.Goals as goal

pub returns-in_ok-y-in-X : goal.returns-in_ok-y-in-X
returns-in_ok-y-in-X c =
    row_x_is c.args.v.now c.new.result c.args.self.now c.x-x.result c.y-y.result c.z-z.result c.in_ok-y-in-X.y c.in_ok-y-in-X.z
    c.in-X.is c.x-x.ensures c.y-y.ensures c.z-z.ensures (search rules) c.in_ok-y-in-X.ensures.first c.in_ok-y-in-X.ensures.second c.new.ensures

pub returns-in_ok-x-in-Y : goal.returns-in_ok-x-in-Y
returns-in_ok-x-in-Y c =
    row_y_is c.args.v.now c.new-in-Y.result c.args.self.now c.x-x.result c.y-y.result c.z-z.result c.in_ok-x-in-Y.x c.in_ok-x-in-Y.z
    c.in-Y.is c.x-x.ensures c.y-y.ensures c.z-z.ensures (search rules) c.in_ok-x-in-Y.ensures.first c.in_ok-x-in-Y.ensures.second c.new-in-Y.ensures

pub returns-in_ok-x-in-Z : goal.returns-in_ok-x-in-Z
returns-in_ok-x-in-Z c =
    row_z_is c.args.v.now c.new-in-Z.result c.args.self.now c.x-x.result c.y-y.result c.z-z.result c.in_ok-x-in-Z.x c.in_ok-x-in-Z.y
    c.in-Z.is c.x-x.ensures c.y-y.ensures c.z-z.ensures (search rules) c.in_ok-x-in-Z.ensures.first c.in_ok-x-in-Z.ensures.second c.new-in-Z.ensures
