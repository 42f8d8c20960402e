use Rattle.std.proofs.Common.{ap, ◌∙◌}
use Rattle.std.proofs.lemmas.Result.{err_from_is_err_and}
use Rattle.rb_work.specs.View.{View}
use Rattle.rb_mass.proofs.Ways.{ups_same}
use Rattle.rb_mass.proofs.RowTold.{on_any, places_still, row_refused, row_answer}
use Rattle.rb_mass.proofs.MassEnclose.{behind_places}
use Rattle.rb_mass.proofs.row.crba.Goals as goal

pub returns-in_err-place_all-clause-answer : goal.returns-in_err-place_all-clause-answer
returns-in_err-place_all-clause-answer c =
    let p = err_from_is_err_and c.from_residual.result c.from_residual.ensures.1 in
    rw (p.1, p.2) (row_refused c.args.robot.now c.args.state.now c.bodies-tree.ensures.kept _ c.in_err-place_all.ensures.refused)

pub returns-clause-places : goal.returns-clause-places
returns-clause-places c =
    on_any c.composite.result _ (places_still c.args.robot.now c.args.state.now c.place_all.new.work c.composite.new.work c.composite.ensures.others c.in_ok-place_all.ensures.values)

pub returns-clause-answer : goal.returns-clause-answer
returns-clause-answer c =
    row_answer c.args.robot.now c.args.state.now c.bodies-tree.ensures.kept c.composite.result c.place_all.new.work c.composite.new.work c.in_ok-place_all.ensures.values
    (ap (λ (w : View). w.up) c.composite.ensures.others ∙ ap (λ (w : View). w.up) c.place_all.ensures.others ∙ ups_same c.args.robot.now _ c.requires.room.up)
    c.composite.ensures.others c.composite.ensures.values c.composite.ensures.refused

pub returns-clause-encloses : goal.returns-clause-encloses
returns-clause-encloses c =
    behind_places _ c.args.state.now c.composite.new.work c.composite.result c.bodies-tree.ensures.kept (returns-clause-places c) c.composite.ensures.encloses
