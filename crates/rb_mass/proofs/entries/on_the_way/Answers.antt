use Rattle.std.proofs.Common.{arith}
use Rattle.std.proofs.lemmas.Result.{err_from_is_err_and}
use Rattle.rb_mass.proofs.Ways.{way_refused}
use Rattle.rb_mass.proofs.entries.on_the_way.Goals as goal

pub returns-in_err-force-clause-step : goal.returns-in_err-force-clause-step
returns-in_err-force-clause-step c =
    let p = err_from_is_err_and c.from_residual.result c.from_residual.ensures.1 in
    rw (p.1, p.2)
    (way_refused _ c.args.of.body c.args.of.k c.loop-a.a c.args.start c.args.work.now _ _ c.bodies-tree.ensures.kept (omega (arith, c.loop-a-test.true)) c.in_err-force.ensures.step c.loop-a.invariant.rest)
