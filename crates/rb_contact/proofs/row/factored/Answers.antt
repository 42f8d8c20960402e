use Rattle.std.proofs.Common.{ap, ◌∙◌}
use Rattle.std.proofs.lemmas.Result.{err_from_is_err_and, on_ok_weaker, IfErr-weaker}
use Rattle.rb_work.specs.View.{extent_of}
use Rattle.rb_rnea.specs.Dynamics.{unaccelerated}
use Rattle.rb_factor.specs.Factor.{RefusesFactor}
use Rattle.rb_contact.specs.Forward.{IsPreparationRefused}
use Rattle.rb_contact.proofs.Assembled.{room_same, bias_stays, factored_from}
use Rattle.rb_contact.proofs.row.factored.Goals as goal

pub returns-in_err-composite-clause-refused : goal.returns-in_err-composite-clause-refused
returns-in_err-composite-clause-refused c =
    let p = err_from_is_err_and c.from_residual-in_err-composite.result c.from_residual-in_err-composite.ensures.1 in
    let room = room_same c.args.robot.now c.args.work.now c.bias.new.work (ap extent_of c.bias.ensures.others) c.requires.room in
    rw (p.1, p.2) (IsPreparationRefused.in_mass c.bias.new.work room c.in_ok-bias.ensures.values c.in_err-composite.ensures.refused)

pub returns-clause-values : goal.returns-clause-values
returns-clause-values c =
    let room = room_same c.args.robot.now c.args.work.now c.bias.new.work (ap extent_of c.bias.ensures.others) c.requires.room in
    on_ok_weaker c.factor.result
    (λ h. factored_from c.args.robot.now c.args.state.now c.bias.new.work c.composite.new.work c.factor.new.work room c.in_ok-bias.ensures.values
    c.composite.ensures.others c.in_ok-composite.ensures.values c.factor.ensures.others h)
    c.factor.ensures.values

pub returns-clause-refused : goal.returns-clause-refused
returns-clause-refused c =
    let tree = c.args.robot.now in
    let m = c.composite.new.work in
    let room = room_same tree c.args.work.now m (ap extent_of c.composite.ensures.others ∙ ap extent_of c.bias.ensures.others) c.requires.room in
    let bias = bias_stays tree (unaccelerated c.args.state.now) c.bias.new.work m c.composite.ensures.others c.in_ok-bias.ensures.values in
    IfErr-weaker c.factor.result (RefusesFactor m) (IsPreparationRefused tree c.args.state.now)
    (λ e h. IsPreparationRefused.in_factors m room bias c.in_ok-composite.ensures.values h) c.factor.ensures.refused
