use Rattle.std.proofs.Common.{ℕ, ◌≤◌, subst}
use Rattle.std.proofs.lemmas.Result.{err_from_is_err_and, on_ok_weaker, IfErr-weaker}
use Rattle.rb_constraint.specs.Constraints.{constraints_of}
use Rattle.rb_impact.specs.Impact.{IsImpactRefused}
use Rattle.rb_impact.specs.Speeds.{IsSpeedRefused}
use Rattle.rb_impact.proofs.Struck.{impact_from}
use Rattle.rb_impact.proofs.ImpactAnswer.{impact_refused_is, told_impact}
use Rattle.rb_impact.proofs.ImpactEncloses.{impact_encloses}
use Rattle.rb_impact.proofs.impacts.impulse.Goals as goal

pub speeds_after-requires-clause-room : goal.speeds_after-requires-clause-room
speeds_after-requires-clause-room c =
    c.in_ok-changed.ensures.values.struck.met.factored.room

pub returns-clause-values : goal.returns-clause-values
returns-clause-values c =
    let tree = c.args.robot.now in
    let row = c.args.state.now in
    let k = constraints_of c.args.cons.now in
    on_ok_weaker c.speeds_after.result
    (λ h. impact_from tree row k c.changed.new.work c.speeds_after.new.work c.in_ok-changed.ensures.values c.speeds_after.ensures.others h) c.speeds_after.ensures.values

pub returns-clause-refused : goal.returns-clause-refused
returns-clause-refused c =
    let tree = c.args.robot.now in
    let row = c.args.state.now in
    let k = constraints_of c.args.cons.now in
    IfErr-weaker c.speeds_after.result (IsSpeedRefused tree row c.changed.new.work) (IsImpactRefused tree row k)
    (λ e h. IsImpactRefused.in_speeds c.changed.new.work c.in_ok-changed.ensures.values h) c.speeds_after.ensures.refused

pub returns-in_err-changed-clause-answer : goal.returns-in_err-changed-clause-answer
returns-in_err-changed-clause-answer c =
    let tree = c.args.robot.now in
    let row = c.args.state.now in
    let k = constraints_of c.args.cons.now in
    let limit : k.rows ≤ 64 = subst (λ (n : ℕ). n ≤ 64) c.rows-rows.ensures.count c.rows-rows.ensures.few in
    let p = err_from_is_err_and c.from_residual.result c.from_residual.ensures.1 in
    rw (p.1, p.2) (impact_refused_is tree row k c.bodies-tree.ensures.kept c.requires.fit limit _ c.in_err-changed.ensures.refused)

pub returns-clause-answer : goal.returns-clause-answer
returns-clause-answer c =
    let tree = c.args.robot.now in
    let row = c.args.state.now in
    let k = constraints_of c.args.cons.now in
    let limit : k.rows ≤ 64 = subst (λ (n : ℕ). n ≤ 64) c.rows-rows.ensures.count c.rows-rows.ensures.few in
    told_impact tree row k c.bodies-tree.ensures.kept c.requires.fit limit c.speeds_after.result c.speeds_after.new.work (returns-clause-values c) (returns-clause-refused c)

pub returns-clause-encloses : goal.returns-clause-encloses
returns-clause-encloses c =
    let tree = c.args.robot.now in
    let row = c.args.state.now in
    let k = constraints_of c.args.cons.now in
    on_ok_weaker c.speeds_after.result (λ h. impact_encloses tree row k c.speeds_after.new.work c.bodies-tree.ensures.kept c.requires.fit h) (returns-clause-values c)
