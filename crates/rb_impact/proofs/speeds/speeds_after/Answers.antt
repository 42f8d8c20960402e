use Rattle.std.proofs.Common.{◌<◌, length, arith}
use Rattle.rb_sweep.proofs.Told.{told_ok, told_err}
use Rattle.rb_tree.specs.Columns.{column_count}
use Rattle.rb_impact.specs.Speeds.{AreSpeeds, IsSpeedRefused}
use Rattle.rb_impact.proofs.Passes.{speeds_found, speeds_refused}
use Rattle.rb_impact.proofs.speeds.speeds_after.Goals as goal

pub returns-clause-values : goal.returns-clause-values
returns-clause-values c =
    let columns = c.requires.room.up.count in
    let long = c.bodies-sizes.ensures.sized.y in
    let within : column_count c.args.robot.now.bodies < length c.args.work.now.y = omega (arith, columns, long) in
    told_ok _ _ _ (AreSpeeds c.args.robot.now c.args.state.now) c.sweep_speeds.ensures.exact (λ t e. speeds_found c.args.robot.now c.args.state.now c.args.work.now t within e)

pub returns-clause-refused : goal.returns-clause-refused
returns-clause-refused c =
    told_err _ _ _ (IsSpeedRefused c.args.robot.now c.args.state.now c.args.work.now) c.sweep_speeds.ensures.exact
    (λ d e. speeds_refused c.args.robot.now c.args.state.now c.args.work.now d e)
