use Rattle.std.proofs.Common.{refl}
use Rattle.rb_sweep.proofs.Told.{told_ok, told_err}
use Rattle.rb_work.proofs.Sizes.{room_for}
use Rattle.rb_rnea.proofs.RowPass.{room_of}
use Rattle.rb_aba.specs.Forward.{AreForward, IsRefused}
use Rattle.rb_aba.proofs.RowRun.{behind_found, behind_refused}
use Rattle.rb_aba.proofs.row.behind_places.Goals as goal

pub returns-clause-values : goal.returns-clause-values
returns-clause-values c =
    told_ok _ _ _ (AreForward c.args.robot.now c.args.state.now) c.sweeps.ensures.exact
    (λ t e. behind_found _ c.args.state.now c.bodies-tree.ensures.kept c.requires.lead c.args.work.now t (room_for _ _ c.bodies-sizes.ensures.sized refl)
    (room_of _ _ c.bodies-sizes.ensures.sized c.requires.room.bodies c.requires.room.up.count) c.requires.places e)

pub returns-clause-refused : goal.returns-clause-refused
returns-clause-refused c =
    told_err _ _ _ (IsRefused c.args.robot.now c.args.state.now) c.sweeps.ensures.exact
    (λ d e. behind_refused _ c.args.state.now c.bodies-tree.ensures.kept c.requires.lead c.args.work.now d (room_for _ _ c.bodies-sizes.ensures.sized refl)
    (room_of _ _ c.bodies-sizes.ensures.sized c.requires.room.bodies c.requires.room.up.count) c.requires.places e)
