use Rattle.std.proofs.Common.{arith}
use Rattle.std.proofs.lemmas.Result.{err_from_is_err_and}
use Rattle.rb_constraint.proofs.Upward.{up_refused}
use Rattle.rb_constraint.proofs.ways.put_entries.Goals as goal

pub returns-in_err-put_entry : goal.returns-in_err-put_entry
returns-in_err-put_entry c =
    let p = err_from_is_err_and c.from_residual.result c.from_residual.ensures.1 in
    rw (p.1, p.2)
    (record { step = up_refused _ c.loop-k.k _ c.loop-k.way _ _ (omega (arith, c.joint_columns-end.ensures)) c.in_err-put_entry.ensures.step c.loop-k.invariant })
