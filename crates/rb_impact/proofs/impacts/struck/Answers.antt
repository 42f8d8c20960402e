use Rattle.std.proofs.Common.{ℕ, sym, subst}
use Rattle.std.proofs.lemmas.Result.{err_from_is_err_and, on_ok_weaker, IfErr-weaker}
use Rattle.rb_constraint.specs.Constraints.{constraints_of}
use Rattle.rb_coupling.specs.Couple.{HoldsRowDivisors}
use Rattle.rb_coupling.specs.Forces.{HoldsRowForces, RefusesRowForces}
use Rattle.rb_impact.specs.Impact.{IsImpactRefused}
use Rattle.rb_impact.proofs.Struck.{sided_from, row_divisors, struck_from}
use Rattle.rb_impact.proofs.impacts.struck.Goals as goal

pub returns-in_err-impact_sides-clause-refused : goal.returns-in_err-impact_sides-clause-refused
returns-in_err-impact_sides-clause-refused c =
    let p = err_from_is_err_and c.from_residual-in_err-impact_sides.result c.from_residual-in_err-impact_sides.ensures.1 in
    rw (p.1, p.2) (IsImpactRefused.in_sides c.met.new.work c.in_ok-met.ensures.values c.in_err-impact_sides.ensures.refused)

pub row_forces-requires-clause-divisors : goal.row_forces-requires-clause-divisors
row_forces-requires-clause-divisors c =
    let tree = c.args.robot.now in
    let k = constraints_of c.args.cons.now in
    let s = c.impact_sides.new.work in
    subst (λ (R : ℕ). HoldsRowDivisors R s) (sym c.rows.ensures.count)
    (row_divisors tree c.args.state.now k s
    (sided_from tree c.args.state.now k c.met.new.work c.impact_sides.new.work c.in_ok-met.ensures.values c.impact_sides.ensures.others))

pub returns-clause-values : goal.returns-clause-values
returns-clause-values c =
    let tree = c.args.robot.now in
    let row = c.args.state.now in
    let k = constraints_of c.args.cons.now in
    let s = c.impact_sides.new.work in
    let met = sided_from tree row k c.met.new.work s c.in_ok-met.ensures.values c.impact_sides.ensures.others in
    let f = c.row_forces.new.work in
    on_ok_weaker c.row_forces.result
    (λ h. struck_from tree row k s f met c.in_ok-impact_sides.ensures.values c.row_forces.ensures.others (subst (λ (R : ℕ). HoldsRowForces R s f) c.rows.ensures.count h))
    c.row_forces.ensures.values

pub returns-clause-refused : goal.returns-clause-refused
returns-clause-refused c =
    let tree = c.args.robot.now in
    let row = c.args.state.now in
    let k = constraints_of c.args.cons.now in
    let s = c.impact_sides.new.work in
    let met = sided_from tree row k c.met.new.work s c.in_ok-met.ensures.values c.impact_sides.ensures.others in
    IfErr-weaker c.row_forces.result (RefusesRowForces c.rows.result s) (IsImpactRefused tree row k)
    (λ e h. IsImpactRefused.in_impulses s met c.in_ok-impact_sides.ensures.values (subst (λ (R : ℕ). RefusesRowForces R s e) c.rows.ensures.count h)) c.row_forces.ensures.refused
