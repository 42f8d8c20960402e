use Rattle.std.proofs.Common.{ℕ, sym, subst}
use Rattle.std.proofs.lemmas.Result.{err_from_is_err_and, on_ok_weaker, IfErr-weaker}
use Rattle.rb_constraint.specs.Constraints.{constraints_of}
use Rattle.rb_coupling.specs.Couple.{HoldsRowDivisors}
use Rattle.rb_coupling.specs.Forces.{HoldsRowSides, HoldsRowForces, RefusesRowSides, RefusesRowForces}
use Rattle.rb_contact.specs.Contact.{IsContactRefused}
use Rattle.rb_contact.proofs.Contacted.{reduce_refused, are_reduced, divide_refused, free_from, sided_from, row_divisors, forces_refused, forced_from}
use Rattle.rb_contact.proofs.contacts.forced.Goals as goal

pub returns-in_err-reduce-clause-refused : goal.returns-in_err-reduce-clause-refused
returns-in_err-reduce-clause-refused c =
    let tree = c.args.robot.now in
    let row = c.args.state.now in
    let k = constraints_of c.args.cons.now in
    let p = err_from_is_err_and c.from_residual-in_err-reduce.result c.from_residual-in_err-reduce.ensures.1 in
    rw (p.1, p.2) (reduce_refused tree row k c.constrained.new.work _ c.in_ok-constrained.ensures.values c.in_ok-constrained.ensures.right c.in_err-reduce.ensures.refused)

pub divide-requires : goal.divide-requires
divide-requires c =
    let tree = c.args.robot.now in
    let row = c.args.state.now in
    let k = constraints_of c.args.cons.now in
    let done = c.in_ok-constrained.ensures in
    let reduced = are_reduced tree row k c.constrained.new.work c.reduce.new.work done.values done.right c.reduce.ensures.others c.in_ok-reduce.ensures.values in
    record { divisors = reduced.constrained.factored.factors.divisors }

pub returns-in_err-divide-clause-refused : goal.returns-in_err-divide-clause-refused
returns-in_err-divide-clause-refused c =
    let tree = c.args.robot.now in
    let row = c.args.state.now in
    let k = constraints_of c.args.cons.now in
    let done = c.in_ok-constrained.ensures in
    let reduced = are_reduced tree row k c.constrained.new.work c.reduce.new.work done.values done.right c.reduce.ensures.others c.in_ok-reduce.ensures.values in
    let p = err_from_is_err_and c.from_residual-in_err-divide.result c.from_residual-in_err-divide.ensures.1 in
    rw (p.1, p.2) (divide_refused tree row k c.reduce.new.work _ reduced c.in_err-divide.ensures.refused)

pub returns-in_err-row_sides-clause-refused : goal.returns-in_err-row_sides-clause-refused
returns-in_err-row_sides-clause-refused c =
    let tree = c.args.robot.now in
    let row = c.args.state.now in
    let k = constraints_of c.args.cons.now in
    let done = c.in_ok-constrained.ensures in
    let reduced = are_reduced tree row k c.constrained.new.work c.reduce.new.work done.values done.right c.reduce.ensures.others c.in_ok-reduce.ensures.values in
    let free = free_from tree row k c.reduce.new.work c.divide.new.work reduced c.divide.ensures.others c.in_ok-divide.ensures.values in
    let p = err_from_is_err_and c.from_residual-in_err-row_sides.result c.from_residual-in_err-row_sides.ensures.1 in
    rw (p.1, p.2) (IsContactRefused.in_sides c.divide.new.work free (subst (λ (n : ℕ). RefusesRowSides n c.divide.new.work c.in_err-row_sides.field-0.0) c.rows.ensures.count c.in_err-row_sides.ensures.refused))

pub row_forces-requires-clause-divisors : goal.row_forces-requires-clause-divisors
row_forces-requires-clause-divisors c =
    let tree = c.args.robot.now in
    let row = c.args.state.now in
    let k = constraints_of c.args.cons.now in
    let done = c.in_ok-constrained.ensures in
    let reduced = are_reduced tree row k c.constrained.new.work c.reduce.new.work done.values done.right c.reduce.ensures.others c.in_ok-reduce.ensures.values in
    let free = free_from tree row k c.reduce.new.work c.divide.new.work reduced c.divide.ensures.others c.in_ok-divide.ensures.values in
    let sided = sided_from tree row k c.divide.new.work c.row_sides.new.work free c.row_sides.ensures.others (subst (λ (n : ℕ). HoldsRowSides n c.divide.new.work c.row_sides.new.work) c.rows.ensures.count c.in_ok-row_sides.ensures.values) in
    subst (λ (n : ℕ). HoldsRowDivisors n c.row_sides.new.work) (sym c.rows-2.ensures.count) (row_divisors tree row k c.row_sides.new.work sided)

pub returns-clause-values : goal.returns-clause-values
returns-clause-values c =
    let tree = c.args.robot.now in
    let row = c.args.state.now in
    let k = constraints_of c.args.cons.now in
    let done = c.in_ok-constrained.ensures in
    let reduced = are_reduced tree row k c.constrained.new.work c.reduce.new.work done.values done.right c.reduce.ensures.others c.in_ok-reduce.ensures.values in
    let free = free_from tree row k c.reduce.new.work c.divide.new.work reduced c.divide.ensures.others c.in_ok-divide.ensures.values in
    let sided = sided_from tree row k c.divide.new.work c.row_sides.new.work free c.row_sides.ensures.others (subst (λ (n : ℕ). HoldsRowSides n c.divide.new.work c.row_sides.new.work) c.rows.ensures.count c.in_ok-row_sides.ensures.values) in
    on_ok_weaker c.row_forces.result (λ h. forced_from tree row k c.row_sides.new.work c.row_forces.new.work sided c.row_forces.ensures.others (subst (λ (n : ℕ). HoldsRowForces n c.row_sides.new.work c.row_forces.new.work) c.rows-2.ensures.count h))
    c.row_forces.ensures.values

pub returns-clause-refused : goal.returns-clause-refused
returns-clause-refused c =
    let tree = c.args.robot.now in
    let row = c.args.state.now in
    let k = constraints_of c.args.cons.now in
    let done = c.in_ok-constrained.ensures in
    let reduced = are_reduced tree row k c.constrained.new.work c.reduce.new.work done.values done.right c.reduce.ensures.others c.in_ok-reduce.ensures.values in
    let free = free_from tree row k c.reduce.new.work c.divide.new.work reduced c.divide.ensures.others c.in_ok-divide.ensures.values in
    let sided = sided_from tree row k c.divide.new.work c.row_sides.new.work free c.row_sides.ensures.others (subst (λ (n : ℕ). HoldsRowSides n c.divide.new.work c.row_sides.new.work) c.rows.ensures.count c.in_ok-row_sides.ensures.values) in
    let s = c.row_sides.new.work in
    IfErr-weaker c.row_forces.result (RefusesRowForces c.rows-2.result s) (IsContactRefused tree row k)
    (λ e h. forces_refused tree row k s e sided (subst (λ (n : ℕ). RefusesRowForces n s e) c.rows-2.ensures.count h)) c.row_forces.ensures.refused
