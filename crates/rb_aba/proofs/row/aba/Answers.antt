use Rattle.std.proofs.lemmas.Result.{err_from_is_err_and, on_ok_weaker}
use Rattle.rb_aba.proofs.ForwardEncloses.{forward_encloses}
use Rattle.rb_aba.proofs.RowAnswer.{answer_refused}
use Rattle.rb_aba.proofs.RowMeans.{told_answer}
use Rattle.rb_aba.proofs.RowRun.{places_refused}
use Rattle.rb_aba.proofs.row.aba.Goals as goal

pub returns-in_err-place_all-clause-refused : goal.returns-in_err-place_all-clause-refused
returns-in_err-place_all-clause-refused c =
    let p = err_from_is_err_and c.from_residual.result c.from_residual.ensures.1 in
    rw (p.1, p.2) (places_refused _ c.args.state.now c.bodies-tree.ensures.kept c.requires.lead _ c.in_err-place_all.ensures.refused)

pub returns-in_err-place_all-clause-answer : goal.returns-in_err-place_all-clause-answer
returns-in_err-place_all-clause-answer c =
    let p = err_from_is_err_and c.from_residual.result c.from_residual.ensures.1 in
    rw (p.1, p.2)
    (answer_refused _ c.args.state.now c.bodies-tree.ensures.kept c.requires.lead _
    (places_refused _ c.args.state.now c.bodies-tree.ensures.kept c.requires.lead _ c.in_err-place_all.ensures.refused))

pub returns-clause-answer : goal.returns-clause-answer
returns-clause-answer c =
    told_answer _ c.args.state.now c.bodies-tree.ensures.kept c.requires.lead c.behind_places.result c.behind_places.new.work c.behind_places.ensures.values c.behind_places.ensures.refused

pub returns-clause-encloses : goal.returns-clause-encloses
returns-clause-encloses c =
    on_ok_weaker c.behind_places.result (λ h. forward_encloses _ c.args.state.now c.behind_places.new.work c.bodies-tree.ensures.kept c.requires.lead h) c.behind_places.ensures.values
