use Rattle.std.proofs.lemmas.Result.{err_from_is_err_and, on_ok_weaker, IfErr-weaker}
use Rattle.rb_factor.specs.Solve.{RefusesSubstitute}
use Rattle.rb_constraint.specs.Constraints.{constraints_of}
use Rattle.rb_impact.specs.Impact.{IsImpactRefused}
use Rattle.rb_impact.proofs.Struck.{pushed_from, divisors, divided_from, substitution_refused, changed_from}
use Rattle.rb_impact.proofs.impacts.changed.Goals as goal

pub returns-in_err-push-clause-refused : goal.returns-in_err-push-clause-refused
returns-in_err-push-clause-refused c =
    let p = err_from_is_err_and c.from_residual-in_err-push.result c.from_residual-in_err-push.ensures.1 in
    rw (p.1, p.2) (IsImpactRefused.in_pushes c.struck.new.work c.in_ok-struck.ensures.values c.in_err-push.ensures.refused)

pub divide-requires : goal.divide-requires
divide-requires c =
    let tree = c.args.robot.now in
    let row = c.args.state.now in
    let k = constraints_of c.args.cons.now in
    let a = c.push.new.work in
    record { divisors = divisors tree row k a (pushed_from tree row k c.struck.new.work a c.in_ok-struck.ensures.values c.push.ensures.others) }

pub returns-in_err-divide-clause-refused : goal.returns-in_err-divide-clause-refused
returns-in_err-divide-clause-refused c =
    let tree = c.args.robot.now in
    let row = c.args.state.now in
    let k = constraints_of c.args.cons.now in
    let a = c.push.new.work in
    let struck = pushed_from tree row k c.struck.new.work a c.in_ok-struck.ensures.values c.push.ensures.others in
    let p = err_from_is_err_and c.from_residual-in_err-divide.result c.from_residual-in_err-divide.ensures.1 in
    rw (p.1, p.2) (IsImpactRefused.in_division a struck c.in_ok-push.ensures.values c.in_err-divide.ensures.refused)

pub returns-clause-values : goal.returns-clause-values
returns-clause-values c =
    let tree = c.args.robot.now in
    let row = c.args.state.now in
    let k = constraints_of c.args.cons.now in
    let a = c.push.new.work in
    let d = c.divide.new.work in
    let struck = pushed_from tree row k c.struck.new.work a c.in_ok-struck.ensures.values c.push.ensures.others in
    let divided = divided_from tree row k a d struck c.in_ok-push.ensures.values c.divide.ensures.others c.in_ok-divide.ensures.values in
    on_ok_weaker c.substitute.result (λ h. changed_from tree row k d c.substitute.new.work divided c.substitute.ensures.others h) c.substitute.ensures.values

pub returns-clause-refused : goal.returns-clause-refused
returns-clause-refused c =
    let tree = c.args.robot.now in
    let row = c.args.state.now in
    let k = constraints_of c.args.cons.now in
    let a = c.push.new.work in
    let d = c.divide.new.work in
    let struck = pushed_from tree row k c.struck.new.work a c.in_ok-struck.ensures.values c.push.ensures.others in
    let divided = divided_from tree row k a d struck c.in_ok-push.ensures.values c.divide.ensures.others c.in_ok-divide.ensures.values in
    IfErr-weaker c.substitute.result (RefusesSubstitute d) (IsImpactRefused tree row k) (λ e h. substitution_refused tree row k d e divided h) c.substitute.ensures.refused
