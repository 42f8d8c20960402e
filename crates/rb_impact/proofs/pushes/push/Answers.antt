use Rattle.std.proofs.Common.{◌≡◌, ℕ, ◌<◌, ◌≤◌, length, ap, ◌∙◌, subst, arith}
use Rattle.std.proofs.lemmas.Result.{on_ok_weaker, IfErr-weaker}
use Rattle.rb_work.specs.View.{View, columns_of}
use Rattle.rb_tree.specs.Columns.{column_count}
use Rattle.rb_constraint.specs.Constraints.{constraints_of}
use Rattle.rb_coupling.specs.Forces.{HoldsAddedForces, RefusesAddedForces}
use Rattle.rb_impact.specs.Pushes.{IsPushRefused}
use Rattle.rb_impact.proofs.Passes.{cleared_found, clear_stands}
use Rattle.rb_impact.proofs.Pushed.{pushes_from, push_refused}
use Rattle.rb_impact.proofs.pushes.push.Goals as goal

pub returns-in_err-sweep_clear-clause-refused : goal.returns-in_err-sweep_clear-clause-refused
returns-in_err-sweep_clear-clause-refused c =
    absurd (clear_stands c.args.robot.now c.args.work.now _ c.in_err-sweep_clear.ensures.exact)

pub returns-clause-values : goal.returns-clause-values
returns-clause-values c =
    let tree = c.args.robot.now in
    let k = constraints_of c.args.cons.now in
    let w = c.args.work.now in
    let o = c.sweep_clear.new.work in
    let a = c.add_row_forces.new.work in
    let count = c.requires.room.up.count in
    let long = c.bodies-sizes.ensures.sized.w in
    let within : column_count tree.bodies < length w.w = omega (arith, count, long) in
    let columns : columns_of o ≡ column_count tree.bodies = ap (λ (v : View). columns_of v) c.sweep_clear.ensures.others ∙ count in
    let few : k.rows ≤ 64 = subst (λ (n : ℕ). n ≤ 64) c.rows-cons.ensures.count c.rows-cons.ensures.few in
    on_ok_weaker c.add_row_forces.result
    (λ h. pushes_from tree k few o a columns (cleared_found tree w o within c.in_ok-sweep_clear.ensures.exact) c.add_row_forces.ensures.others
    (subst (λ (R : ℕ). HoldsAddedForces R o a) c.rows.ensures.count h))
    c.add_row_forces.ensures.values

pub returns-clause-refused : goal.returns-clause-refused
returns-clause-refused c =
    let tree = c.args.robot.now in
    let k = constraints_of c.args.cons.now in
    let w = c.args.work.now in
    let o = c.sweep_clear.new.work in
    let count = c.requires.room.up.count in
    let long = c.bodies-sizes.ensures.sized.w in
    let within : column_count tree.bodies < length w.w = omega (arith, count, long) in
    let few : k.rows ≤ 64 = subst (λ (n : ℕ). n ≤ 64) c.rows-cons.ensures.count c.rows-cons.ensures.few in
    IfErr-weaker c.add_row_forces.result (RefusesAddedForces c.rows.result o) (IsPushRefused tree k w)
    (λ e h. push_refused tree k few w o e count c.sweep_clear.ensures.others (cleared_found tree w o within c.in_ok-sweep_clear.ensures.exact)
    (subst (λ (R : ℕ). RefusesAddedForces R o e) c.rows.ensures.count h))
    c.add_row_forces.ensures.refused
