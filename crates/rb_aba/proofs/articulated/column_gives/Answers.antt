use Rattle.std.proofs.lemmas.Result.{err_from_is_err_and}
use Rattle.rb_aba.proofs.Named.{named_was, named_left, named_refused, pivot_was, column_found, column_refused}
use Rattle.rb_aba.proofs.articulated.column_gives.Goals as goal

pub returns-in_err-named-clause-step : goal.returns-in_err-named-clause-step
returns-in_err-named-clause-step c =
    let p = err_from_is_err_and c.from_residual-in_err-named.result c.from_residual-in_err-named.ensures.1 in
    rw (p.1, p.2)
    (column_refused c.args.c c.args.axis.now c.args.torque c.args.work.now c.args.rest.now c.in_ok-force.force c.in_ok-along.along c.in_ok-divisor.divisor c.in_ok-left.left
    (named_was _ _ _ _ _ _ c.one.ensures c.times.ensures.exact c.named.ensures c.in_ok-force.was)
    (named_was _ _ _ _ _ _ c.one-2.ensures c.power_along.ensures.exact c.named-2.ensures c.in_ok-along.was)
    (pivot_was _ _ c.in_ok-along.along _ _ c.one-3.ensures c.pivot.ensures c.in_ok-divisor.was)
    (named_was _ _ _ _ _ _ c.one-4.ensures c.less_along.ensures.exact c.named-3.ensures c.in_ok-left.was)
    _ (named_refused _ _ _ _ _ _ _ c.one-5.ensures c.give_way.ensures.exact c.named-4.ensures c.in_err-named.was))

pub returns-clause-step : goal.returns-clause-step
returns-clause-step c =
    column_found c.args.c c.args.axis.now c.args.torque c.args.work.now c.args.rest.now c.in_ok-force.force c.in_ok-along.along c.in_ok-divisor.divisor c.in_ok-left.left
    (named_was _ _ _ _ _ _ c.one.ensures c.times.ensures.exact c.named.ensures c.in_ok-force.was)
    (named_was _ _ _ _ _ _ c.one-2.ensures c.power_along.ensures.exact c.named-2.ensures c.in_ok-along.was)
    (pivot_was _ _ c.in_ok-along.along _ _ c.one-3.ensures c.pivot.ensures c.in_ok-divisor.was)
    (named_was _ _ _ _ _ _ c.one-4.ensures c.less_along.ensures.exact c.named-3.ensures c.in_ok-left.was)
    _ _ _ _ (named_left _ _ _ _ _ _ _ c.one-5.ensures c.give_way.ensures.exact c.named-4.ensures c.in_ok-named.was)
    c.set_U.ensures c.set_D.ensures c.set_u.ensures
