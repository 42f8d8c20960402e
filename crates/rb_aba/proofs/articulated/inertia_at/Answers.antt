use Rattle.std.proofs.Common.{◌+◌, ◌-◌, sym, ◌∙◌, arith}
use Rattle.std.proofs.lemmas.Result.{err_from_is_err_and}
use Rattle.rb_aba.proofs.Named.{child_added, down_refused}
use Rattle.rb_aba.proofs.articulated.inertia_at.Goals as goal

pub returns-in_err-total-clause-exact : goal.returns-in_err-total-clause-exact
returns-in_err-total-clause-exact c =
    let p = err_from_is_err_and c.from_residual.result c.from_residual.ensures.1 in
    rw (p.1, p.2)
    (sym
    (down_refused _ (c.args.i + 1) c.loop-j.j c.loop-j.total _ _ (omega arith)
    (child_added c.args.robot.now.bodies c.args.work.now c.args.i (c.loop-j.j - 1) c.loop-j.total _ (sym c.parent.ensures.at ∙ c.if-parent-i.true) (sym c.in_err-total.ensures.exact))
    c.loop-j.invariant))
