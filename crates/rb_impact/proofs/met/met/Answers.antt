use Rattle.std.proofs.Common.{◌∙◌}
use Rattle.std.proofs.lemmas.Result.{err_from_is_err_and, on_ok_weaker, IfErr-weaker}
use Rattle.rb_constraint.specs.Constraints.{constraints_of}
use Rattle.rb_coupling.specs.Couple.{RefusesCouple}
use Rattle.rb_impact.specs.Impact.{IsImpactRefused}
use Rattle.rb_impact.proofs.Struck.{rigid_rows, rigid_long, rigid_gives, tabled_from, couple_refused, met_from}
use Rattle.rb_impact.proofs.met.met.Goals as goal

pub returns-in_err-fill_rows-clause-refused : goal.returns-in_err-fill_rows-clause-refused
returns-in_err-fill_rows-clause-refused c =
    let p = err_from_is_err_and c.from_residual-in_err-fill_rows.result c.from_residual-in_err-fill_rows.ensures.1 in
    rw (p.1, p.2) (IsImpactRefused.in_rows c.factored.new.work c.in_ok-factored.ensures.values c.in_err-fill_rows.ensures.refused)

pub returns-clause-values : goal.returns-clause-values
returns-clause-values c =
    let tree = c.args.robot.now in
    let row = c.args.state.now in
    let k = constraints_of c.args.cons.now in
    let r = c.fill_rows.new.work in
    let factored = tabled_from tree row c.factored.new.work r c.in_ok-factored.ensures.values c.fill_rows.ensures.others in
    let mus = rigid_rows c.rows.result in
    let count = rigid_long c.rows.result c.rows.ensures.few ∙ c.rows.ensures.count in
    let none = rigid_gives k.rows c.rows.result in
    on_ok_weaker c.couple.result (λ h. met_from tree row k r c.couple.new.work mus factored c.in_ok-fill_rows.ensures.values count none c.couple.ensures.others h) c.couple.ensures.values

pub returns-clause-refused : goal.returns-clause-refused
returns-clause-refused c =
    let tree = c.args.robot.now in
    let row = c.args.state.now in
    let k = constraints_of c.args.cons.now in
    let r = c.fill_rows.new.work in
    let factored = tabled_from tree row c.factored.new.work r c.in_ok-factored.ensures.values c.fill_rows.ensures.others in
    let mus = rigid_rows c.rows.result in
    let count = rigid_long c.rows.result c.rows.ensures.few ∙ c.rows.ensures.count in
    let none = rigid_gives k.rows c.rows.result in
    IfErr-weaker c.couple.result (RefusesCouple r mus) (IsImpactRefused tree row k)
    (λ e h. couple_refused tree row k r mus e factored c.in_ok-fill_rows.ensures.values count none h) c.couple.ensures.refused
