use Rattle.std.proofs.lemmas.Result.{err_from_is_err_and}
use Rattle.rbd.proofs.Refusals.{tree_refused}
use Rattle.rbd.proofs.read.robot_of.Goals as goal

pub returns-in_err-robot-clause-err : goal.returns-in_err-robot-clause-err
returns-in_err-robot-clause-err c =
    let p = err_from_is_err_and c.from_residual.result c.from_residual.ensures.1 in
    rw (p.1, p.2) (tree_refused _ _ c.in_err-robot.ensures.err)
