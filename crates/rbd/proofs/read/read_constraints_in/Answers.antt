use Rattle.std.proofs.Common.{◌∙◌, Err, ap}
use Rattle.rbd.proofs.Refusals.{constraints_unread, constraints_read}
use Rattle.rbd.proofs.read.read_constraints_in.Goals as goal

pub returns-in-Err-clause-refused : goal.returns-in-Err-clause-refused
returns-in-Err-clause-refused g c = λ tells. constraints_unread c.args.robot.now _ _ _ c.file_stop.ensures (λ is. c.in-Err.ensures.longer tells (ap Err is))

pub returns-in-Ok-read_constraints-clause-constraints : goal.returns-in-Ok-read_constraints-clause-constraints
returns-in-Ok-read_constraints-clause-constraints g c = λ tells.
    constraints_read c.args.robot.now c.as_slice.result.now _ _ (c.as_slice.ensures ∙ c.in-Ok.ensures.whole tells) (rw c.as_slice.ensures c.in-Ok.ensures.within) c.in-Ok-read_constraints.ensures.ok c.as_slice-kept.ensures.kept
