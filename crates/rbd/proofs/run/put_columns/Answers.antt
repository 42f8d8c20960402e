use Rattle.std.proofs.Common.{refl}
use Rattle.std.proofs.lemmas.Result.{err_from_is_err_and}
use Rattle.rbd.proofs.Courses.{follows_nothing}
use Rattle.rbd.proofs.run.put_columns.Goals as goal

pub returns-in_err-line-clause-follows : goal.returns-in_err-line-clause-follows
returns-in_err-line-clause-follows g c =
    let p = err_from_is_err_and c.from_residual.result c.from_residual.ensures.1 in
    rw (p.1, p.2) (follows_nothing _ _ _ refl (λ told. refl))
