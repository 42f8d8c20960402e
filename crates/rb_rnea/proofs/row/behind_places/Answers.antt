use Rattle.std.proofs.Common.{refl}
use Rattle.rb_sweep.proofs.Told.{told_ok, told_err}
use Rattle.rb_work.proofs.Sizes.{room_for}
use Rattle.rb_tree.specs.State.{Row}
use Rattle.rb_rnea.specs.Dynamics.{AreDynamics, IsRefused}
use Rattle.rb_rnea.proofs.RowPass.{room_of, behind_found, behind_refused}
use Rattle.rb_rnea.proofs.row.behind_places.Goals as goal

pub returns-clause-values : goal.returns-clause-values
returns-clause-values c =
    let row : Row = record c.args.state.now { a = c.args.accelerations.now } in
    told_ok _ _ _ (AreDynamics c.args.robot.now row) c.sweeps.ensures.exact
    (λ t e. behind_found _ c.args.state.now c.args.accelerations.now c.args.work.now t c.bodies-tree.ensures.kept (room_for _ _ c.bodies-sizes.ensures.sized refl)
    (room_of _ _ c.bodies-sizes.ensures.sized c.requires.room.bodies c.requires.room.up.count) c.requires.places e)

pub returns-clause-refused : goal.returns-clause-refused
returns-clause-refused c =
    let row : Row = record c.args.state.now { a = c.args.accelerations.now } in
    told_err _ _ _ (IsRefused c.args.robot.now row) c.sweeps.ensures.exact
    (λ d e. behind_refused _ c.args.state.now c.args.accelerations.now c.args.work.now d c.bodies-tree.ensures.kept (room_for _ _ c.bodies-sizes.ensures.sized refl)
    (room_of _ _ c.bodies-sizes.ensures.sized c.requires.room.bodies c.requires.room.up.count) c.requires.places e)
