use Rattle.std.proofs.Common.{◌+◌, ap, ◌∙◌}
use Rattle.rb_sweep.proofs.Told.{told_ok, told_err}
use Rattle.rb_contact.specs.Driving.{AreDriving, IsRightSide, IsDrivingRefused}
use Rattle.rb_contact.proofs.DrivingPass.{driving_found, driving_refused}
use Rattle.rb_contact.proofs.driving.drive.Goals as goal

pub returns-clause-values : goal.returns-clause-values
returns-clause-values c =
    told_ok _ _ _ (AreDriving c.args.robot.now c.args.state.now) c.sweep_driving.ensures.exact
    (λ t e. (driving_found c.args.state.now c.args.robot.now c.args.work.now t (c.bodies-sizes.ensures.sized.k ∙ ap (λ n. n + 1) c.requires.room.up.count)
    (c.bodies-sizes.ensures.sized.w ∙ ap (λ n. n + 1) c.requires.room.up.count) e).driving)

pub returns-clause-right : goal.returns-clause-right
returns-clause-right c =
    told_ok _ _ _ (IsRightSide c.args.robot.now) c.sweep_driving.ensures.exact
    (λ t e. (driving_found c.args.state.now c.args.robot.now c.args.work.now t (c.bodies-sizes.ensures.sized.k ∙ ap (λ n. n + 1) c.requires.room.up.count)
    (c.bodies-sizes.ensures.sized.w ∙ ap (λ n. n + 1) c.requires.room.up.count) e).right)

pub returns-clause-refused : goal.returns-clause-refused
returns-clause-refused c =
    told_err _ _ _ (IsDrivingRefused c.args.robot.now c.args.state.now c.args.work.now) c.sweep_driving.ensures.exact
    (λ d e. driving_refused c.args.state.now c.args.robot.now c.args.work.now d e)
