use Rattle.std.proofs.lemmas.Result.{err_from_is_err_and}
use Rattle.rbd.proofs.Refusals.{urdf_read, urdf_stopped, urdf_refused}
use Rattle.rbd.proofs.read.read_urdf_of.Goals as goal

pub returns-in_err-tags-clause-refused : goal.returns-in_err-tags-clause-refused
returns-in_err-tags-clause-refused g c =
    let p = err_from_is_err_and c.from_residual.result c.from_residual.ensures.1 in
    λ tells. rw (p.1, p.2) (urdf_stopped _ _ (c.in_err-tags.ensures.refused tells))

pub returns-in_err-urdf_of_tags-clause-refused : goal.returns-in_err-urdf_of_tags-clause-refused
returns-in_err-urdf_of_tags-clause-refused g c =
    let p = err_from_is_err_and c.from_residual-in_err-urdf_of_tags.result c.from_residual-in_err-urdf_of_tags.ensures.1 in
    λ tells. rw (p.1, p.2) (urdf_refused _ c.in_ok-tags.tags _ (c.in_ok-tags.ensures.tags tells) c.in_err-urdf_of_tags.ensures.err)

pub returns-clause-urdf : goal.returns-clause-urdf
returns-clause-urdf g c = λ tells. urdf_read _ c.in_ok-tags.tags _ (c.in_ok-tags.ensures.tags tells) c.in_ok-urdf_of_tags.ensures.ok
