use Rattle.std.proofs.Common.{◌≡◌, sym, ap, ◌∙◌, arith}
use Rattle.std.proofs.lemmas.Result.{err_from_is_err_and}
use Rattle.rb_sweep.proofs.SweepSteps.{sweep_refused}
use Rattle.rb_flat.specs.Joint.{column_count}
use Rattle.rb_joint.specs.Any.{kind_of}
use Rattle.rb_rnea.specs.Rates.{joint_columns}
use Rattle.rb_aba.specs.Steps.{moving, rate_step}
use Rattle.rb_aba.proofs.accelerations.rates_give.Goals as goal

pub returns-in_err-rate_at-clause-step : goal.returns-in_err-rate_at-clause-step
returns-in_err-rate_at-clause-step c =
    let p = err_from_is_err_and c.from_residual.result c.from_residual.ensures.1 in
    let tree = c.args.robot.now in
    let count : c.nv-count.result ≡ joint_columns tree.bodies c.args.i = c.nv-count.ensures.count ∙ ap (λ j. column_count (kind_of j)) c.joint.ensures.at in
    rw (p.1, p.2)
    (sym c.loop-k.invariant.rest
    ∙ sweep_refused (rate_step tree c.args.i) c.loop-k.k (joint_columns tree.bodies c.args.i) (moving c.loop-k.work c.loop-k.y) _ (omega (arith, count)) c.in_err-rate_at.ensures.step)
