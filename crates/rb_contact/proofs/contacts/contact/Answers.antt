use Rattle.std.proofs.Common.{ℕ, subst}
use Rattle.std.proofs.lemmas.Result.{err_from_is_err_and, on_ok_weaker, IfErr-weaker}
use Rattle.rb_factor.specs.Solve.{RefusesSubstitute}
use Rattle.rb_constraint.specs.Constraints.{constraints_of}
use Rattle.rb_coupling.specs.Forces.{HoldsAddedForces, RefusesAddedForces}
use Rattle.rb_contact.specs.Contact.{IsContactRefused}
use Rattle.rb_contact.proofs.Contacted.{second_divisors, second_refused, last_refused, contact_from}
use Rattle.rb_contact.proofs.ContactAnswer.{few_rows, contact_refused_is, told_contact}
use Rattle.rb_contact.proofs.ContactEncloses.{contact_encloses}
use Rattle.rb_contact.proofs.contacts.contact.Goals as goal

pub returns-in_err-add_row_forces-clause-refused : goal.returns-in_err-add_row_forces-clause-refused
returns-in_err-add_row_forces-clause-refused c =
    let tree = c.args.robot.now in
    let row = c.args.state.now in
    let k = constraints_of c.args.cons.now in
    let p = err_from_is_err_and c.from_residual-in_err-add_row_forces.result c.from_residual-in_err-add_row_forces.ensures.1 in
    rw (p.1, p.2) (IsContactRefused.in_addition c.forced.new.work c.in_ok-forced.ensures.values (subst (λ (n : ℕ). RefusesAddedForces n c.forced.new.work c.in_err-add_row_forces.field-0.0) c.rows.ensures.count c.in_err-add_row_forces.ensures.refused))

pub divide-requires : goal.divide-requires
divide-requires c =
    let tree = c.args.robot.now in
    let row = c.args.state.now in
    let k = constraints_of c.args.cons.now in
    record { divisors = second_divisors tree row k c.forced.new.work c.add_row_forces.new.work c.in_ok-forced.ensures.values c.add_row_forces.ensures.others }

pub returns-in_err-divide-clause-refused : goal.returns-in_err-divide-clause-refused
returns-in_err-divide-clause-refused c =
    let tree = c.args.robot.now in
    let row = c.args.state.now in
    let k = constraints_of c.args.cons.now in
    let p = err_from_is_err_and c.from_residual-in_err-divide.result c.from_residual-in_err-divide.ensures.1 in
    rw (p.1, p.2) (second_refused tree row k c.forced.new.work c.add_row_forces.new.work _ c.in_ok-forced.ensures.values c.add_row_forces.ensures.others
    (subst (λ (n : ℕ). HoldsAddedForces n c.forced.new.work c.add_row_forces.new.work) c.rows.ensures.count c.in_ok-add_row_forces.ensures.values) c.in_err-divide.ensures.refused)

pub returns-clause-values : goal.returns-clause-values
returns-clause-values c =
    let tree = c.args.robot.now in
    let row = c.args.state.now in
    let k = constraints_of c.args.cons.now in
    let f = c.forced.new.work in
    let a = c.add_row_forces.new.work in
    let d = c.divide.new.work in
    on_ok_weaker c.substitute.result
    (λ h. contact_from tree row k f a d c.in_ok-forced.ensures.values c.add_row_forces.ensures.others (subst (λ (n : ℕ). HoldsAddedForces n c.forced.new.work c.add_row_forces.new.work) c.rows.ensures.count c.in_ok-add_row_forces.ensures.values) c.divide.ensures.others c.in_ok-divide.ensures.values c.substitute.new.work
    c.substitute.ensures.others h)
    c.substitute.ensures.values

pub returns-clause-refused : goal.returns-clause-refused
returns-clause-refused c =
    let tree = c.args.robot.now in
    let row = c.args.state.now in
    let k = constraints_of c.args.cons.now in
    let f = c.forced.new.work in
    let a = c.add_row_forces.new.work in
    let d = c.divide.new.work in
    IfErr-weaker c.substitute.result (RefusesSubstitute d) (IsContactRefused tree row k)
    (λ e h. last_refused tree row k f a d c.in_ok-forced.ensures.values c.add_row_forces.ensures.others (subst (λ (n : ℕ). HoldsAddedForces n c.forced.new.work c.add_row_forces.new.work) c.rows.ensures.count c.in_ok-add_row_forces.ensures.values) c.divide.ensures.others c.in_ok-divide.ensures.values e h)
    c.substitute.ensures.refused

pub returns-in_err-forced-clause-answer : goal.returns-in_err-forced-clause-answer
returns-in_err-forced-clause-answer c =
    let tree = c.args.robot.now in
    let row = c.args.state.now in
    let k = constraints_of c.args.cons.now in
    let limit = few_rows c.args.work.now k c.requires.rows c.bodies-sizes.ensures.sized in
    let p = err_from_is_err_and c.from_residual.result c.from_residual.ensures.1 in
    rw (p.1, p.2) (contact_refused_is tree row k c.bodies-tree.ensures.kept c.requires.fit limit _ c.in_err-forced.ensures.refused)

pub returns-in_err-add_row_forces-clause-answer : goal.returns-in_err-add_row_forces-clause-answer
returns-in_err-add_row_forces-clause-answer c =
    let tree = c.args.robot.now in
    let row = c.args.state.now in
    let k = constraints_of c.args.cons.now in
    let limit = few_rows c.args.work.now k c.requires.rows c.bodies-sizes.ensures.sized in
    let p = err_from_is_err_and c.from_residual-in_err-add_row_forces.result c.from_residual-in_err-add_row_forces.ensures.1 in
    rw (p.1, p.2) (contact_refused_is tree row k c.bodies-tree.ensures.kept c.requires.fit limit _ (IsContactRefused.in_addition c.forced.new.work c.in_ok-forced.ensures.values (subst (λ (n : ℕ). RefusesAddedForces n c.forced.new.work c.in_err-add_row_forces.field-0.0) c.rows.ensures.count c.in_err-add_row_forces.ensures.refused)))

pub returns-in_err-divide-clause-answer : goal.returns-in_err-divide-clause-answer
returns-in_err-divide-clause-answer c =
    let tree = c.args.robot.now in
    let row = c.args.state.now in
    let k = constraints_of c.args.cons.now in
    let limit = few_rows c.args.work.now k c.requires.rows c.bodies-sizes.ensures.sized in
    let p = err_from_is_err_and c.from_residual-in_err-divide.result c.from_residual-in_err-divide.ensures.1 in
    rw (p.1, p.2) (contact_refused_is tree row k c.bodies-tree.ensures.kept c.requires.fit limit _ (second_refused tree row k c.forced.new.work c.add_row_forces.new.work _ c.in_ok-forced.ensures.values c.add_row_forces.ensures.others
    (subst (λ (n : ℕ). HoldsAddedForces n c.forced.new.work c.add_row_forces.new.work) c.rows.ensures.count c.in_ok-add_row_forces.ensures.values) c.in_err-divide.ensures.refused))

pub returns-clause-answer : goal.returns-clause-answer
returns-clause-answer c =
    let tree = c.args.robot.now in
    let row = c.args.state.now in
    let k = constraints_of c.args.cons.now in
    let limit = few_rows c.args.work.now k c.requires.rows c.bodies-sizes.ensures.sized in
    told_contact tree row k c.bodies-tree.ensures.kept c.requires.fit limit c.substitute.result c.substitute.new.work (returns-clause-values c) (returns-clause-refused c)

pub returns-clause-encloses : goal.returns-clause-encloses
returns-clause-encloses c =
    let tree = c.args.robot.now in
    let row = c.args.state.now in
    let k = constraints_of c.args.cons.now in
    on_ok_weaker c.substitute.result (λ h. contact_encloses tree row k c.substitute.new.work c.bodies-tree.ensures.kept c.requires.fit h) (returns-clause-values c)
