use Rattle.std.proofs.Common.{◌≡◌, ◌≤◌, ℕ, length, ap, ◌∙◌, sym, subst}
use Rattle.std.proofs.lemmas.Result.{err_from_is_err_and, on_ok_weaker, IfErr-weaker}
use Rattle.rb_work.specs.View.{View, extent_of}
use Rattle.rb_constraint.specs.Constraints.{constraints_of}
use Rattle.rb_coupling.specs.Couple.{RefusesCouple}
use Rattle.rb_contact.specs.Contact.{IsContactRefused}
use Rattle.rb_contact.proofs.Assembled.{room_same, rows_within}
use Rattle.rb_contact.proofs.Constrained.{compliances_are}
use Rattle.rb_contact.proofs.Contacted.{right_moves, bias_refused, biased_from, biased_divisors, couple_refused, constrained_from}
use Rattle.rb_contact.proofs.contacts.constrained.Goals as goal

pub returns-in_err-prepared-clause-refused : goal.returns-in_err-prepared-clause-refused
returns-in_err-prepared-clause-refused c =
    let tree = c.args.robot.now in
    let row = c.args.state.now in
    let k = constraints_of c.args.cons.now in
    let p = err_from_is_err_and c.from_residual.result c.from_residual.ensures.1 in
    rw (p.1, p.2) (IsContactRefused.in_preparation c.in_err-prepared.ensures.refused)

pub fill_rows-requires-clause-room : goal.fill_rows-requires-clause-room
fill_rows-requires-clause-room c =
    c.in_ok-prepared.ensures.factored.room

pub fill_rows-requires-clause-rows : goal.fill_rows-requires-clause-rows
fill_rows-requires-clause-rows c =
    rows_within (constraints_of c.args.cons.now).rows c.args.work.now c.prepared.new.work (ap (λ (v : View). v.rows) c.prepared.ensures.others) c.requires.rows

pub returns-in_err-fill_rows-clause-refused : goal.returns-in_err-fill_rows-clause-refused
returns-in_err-fill_rows-clause-refused c =
    let tree = c.args.robot.now in
    let row = c.args.state.now in
    let k = constraints_of c.args.cons.now in
    let p = err_from_is_err_and c.from_residual-in_err-fill_rows.result c.from_residual-in_err-fill_rows.ensures.1 in
    rw (p.1, p.2) (IsContactRefused.in_rows c.prepared.new.work c.in_ok-prepared.ensures.factored c.in_ok-prepared.ensures.driving c.in_err-fill_rows.ensures.refused)

pub fill_bias-requires-clause-room : goal.fill_bias-requires-clause-room
fill_bias-requires-clause-room c =
    room_same c.args.robot.now c.prepared.new.work c.fill_rows.new.work (ap extent_of c.fill_rows.ensures.others) c.in_ok-prepared.ensures.factored.room

pub fill_bias-requires-clause-rows : goal.fill_bias-requires-clause-rows
fill_bias-requires-clause-rows c =
    rows_within (constraints_of c.args.cons.now).rows c.args.work.now c.fill_rows.new.work
    (ap (λ (v : View). v.rows) c.fill_rows.ensures.others ∙ ap (λ (v : View). v.rows) c.prepared.ensures.others) c.requires.rows

pub returns-in_err-fill_bias-clause-refused : goal.returns-in_err-fill_bias-clause-refused
returns-in_err-fill_bias-clause-refused c =
    let tree = c.args.robot.now in
    let row = c.args.state.now in
    let k = constraints_of c.args.cons.now in
    let p = err_from_is_err_and c.from_residual-in_err-fill_bias.result c.from_residual-in_err-fill_bias.ensures.1 in
    rw (p.1, p.2) (bias_refused tree row k c.prepared.new.work c.fill_rows.new.work _ c.in_ok-prepared.ensures.factored c.in_ok-prepared.ensures.driving c.fill_rows.ensures.others
    c.in_ok-fill_rows.ensures.values c.in_err-fill_bias.ensures.refused)

pub couple-requires-clause-divisors : goal.couple-requires-clause-divisors
couple-requires-clause-divisors c =
    let tree = c.args.robot.now in
    let row = c.args.state.now in
    let k = constraints_of c.args.cons.now in
    let p = c.prepared.new.work in
    let r = c.fill_rows.new.work in
    let b = c.fill_bias.new.work in
    let done = c.in_ok-prepared.ensures in
    let biased = biased_from tree row k p r b done.factored done.driving c.fill_rows.ensures.others c.in_ok-fill_rows.ensures.values c.fill_bias.ensures.others c.in_ok-fill_bias.ensures.values in
    biased_divisors tree row k b biased

pub couple-requires-clause-compliances : goal.couple-requires-clause-compliances
couple-requires-clause-compliances c =
    let k = constraints_of c.args.cons.now in
    let b = c.fill_bias.new.work in
    let within : k.rows ≤ b.rows =
    rows_within k.rows c.args.work.now b
    (ap (λ (v : View). v.rows) c.fill_bias.ensures.others ∙ ap (λ (v : View). v.rows) c.fill_rows.ensures.others ∙ ap (λ (v : View). v.rows) c.prepared.ensures.others) c.requires.rows in
    subst (λ (n : ℕ). n ≤ b.rows) (sym c.compliances-compliances.ensures.count) within

pub returns-clause-values : goal.returns-clause-values
returns-clause-values c =
    let tree = c.args.robot.now in
    let row = c.args.state.now in
    let k = constraints_of c.args.cons.now in
    let p = c.prepared.new.work in
    let r = c.fill_rows.new.work in
    let b = c.fill_bias.new.work in
    let done = c.in_ok-prepared.ensures in
    let biased = biased_from tree row k p r b done.factored done.driving c.fill_rows.ensures.others c.in_ok-fill_rows.ensures.values c.fill_bias.ensures.others c.in_ok-fill_bias.ensures.values in
    let within : k.rows ≤ b.rows =
    rows_within k.rows c.args.work.now b
    (ap (λ (v : View). v.rows) c.fill_bias.ensures.others ∙ ap (λ (v : View). v.rows) c.fill_rows.ensures.others ∙ ap (λ (v : View). v.rows) c.prepared.ensures.others) c.requires.rows in
    let count : length c.compliances-compliances.result.now ≡ k.rows = c.compliances-compliances.ensures.count in
    let mus = c.compliances-compliances.result.now in
    let same = compliances_are k mus c.compliances-compliances.ensures.each in
    on_ok_weaker c.couple.result (λ h. constrained_from tree row k b c.couple.new.work mus biased within count same c.couple.ensures.others h) c.couple.ensures.values

pub returns-clause-right : goal.returns-clause-right
returns-clause-right c =
    let tree = c.args.robot.now in
    let row = c.args.state.now in
    let k = constraints_of c.args.cons.now in
    let n = c.couple.new.work in
    on_ok_weaker c.couple.result
    (λ h. right_moves tree row k c.prepared.new.work n
    (ap (λ (v : View). v.w) c.couple.ensures.others ∙ ap (λ (v : View). v.w) c.fill_bias.ensures.others ∙ ap (λ (v : View). v.w) c.fill_rows.ensures.others)
    (ap (λ (v : View). v.k) c.couple.ensures.others ∙ ap (λ (v : View). v.k) c.fill_bias.ensures.others ∙ ap (λ (v : View). v.k) c.fill_rows.ensures.others)
    c.in_ok-prepared.ensures.right)
    c.couple.ensures.values

pub returns-clause-refused : goal.returns-clause-refused
returns-clause-refused c =
    let tree = c.args.robot.now in
    let row = c.args.state.now in
    let k = constraints_of c.args.cons.now in
    let p = c.prepared.new.work in
    let r = c.fill_rows.new.work in
    let b = c.fill_bias.new.work in
    let done = c.in_ok-prepared.ensures in
    let biased = biased_from tree row k p r b done.factored done.driving c.fill_rows.ensures.others c.in_ok-fill_rows.ensures.values c.fill_bias.ensures.others c.in_ok-fill_bias.ensures.values in
    let count : length c.compliances-compliances.result.now ≡ k.rows = c.compliances-compliances.ensures.count in
    let mus = c.compliances-compliances.result.now in
    let same = compliances_are k mus c.compliances-compliances.ensures.each in
    IfErr-weaker c.couple.result (RefusesCouple b mus) (IsContactRefused tree row k) (λ e h. couple_refused tree row k b mus e biased count same h) c.couple.ensures.refused
