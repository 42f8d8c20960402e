use Rattle.std.proofs.lemmas.Result.{err_from_is_err_and, on_ok_weaker}
use Rattle.rb_tree.specs.State.{Row}
use Rattle.rb_rnea.proofs.DynamicsEnclose.{dynamics_enclose}
use Rattle.rb_rnea.proofs.RowPass.{places_refused, answer_refused, told_answer}
use Rattle.rb_rnea.proofs.row.dynamics.Goals as goal

pub returns-in_err-place_all-clause-refused : goal.returns-in_err-place_all-clause-refused
returns-in_err-place_all-clause-refused c =
    let p = err_from_is_err_and c.from_residual.result c.from_residual.ensures.1 in
    rw (p.1, p.2) (places_refused _ c.args.state.now c.args.accelerations.now _ c.in_err-place_all.ensures.refused)

pub returns-in_err-place_all-clause-answer : goal.returns-in_err-place_all-clause-answer
returns-in_err-place_all-clause-answer c =
    let row : Row = record c.args.state.now { a = c.args.accelerations.now } in
    let p = err_from_is_err_and c.from_residual.result c.from_residual.ensures.1 in
    rw (p.1, p.2)
    (answer_refused _ row c.bodies-tree.ensures.kept _ (places_refused _ c.args.state.now c.args.accelerations.now _ c.in_err-place_all.ensures.refused))

pub returns-clause-answer : goal.returns-clause-answer
returns-clause-answer c =
    let row : Row = record c.args.state.now { a = c.args.accelerations.now } in
    told_answer _ row c.bodies-tree.ensures.kept c.behind_places.result c.behind_places.new.work c.behind_places.ensures.values c.behind_places.ensures.refused

pub returns-clause-encloses : goal.returns-clause-encloses
returns-clause-encloses c =
    let row : Row = record c.args.state.now { a = c.args.accelerations.now } in
    on_ok_weaker c.behind_places.result (λ h. dynamics_enclose _ row c.behind_places.new.work c.bodies-tree.ensures.kept h) c.behind_places.ensures.values
