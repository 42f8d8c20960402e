use Rattle.std.proofs.lemmas.Result.{on_ok_weaker, IfErr-weaker}
use Rattle.rb_contact.specs.Driving.{IsDrivingRefused}
use Rattle.rb_contact.specs.Forward.{IsPreparationRefused}
use Rattle.rb_contact.proofs.Assembled.{factored_driven}
use Rattle.rb_contact.proofs.row.prepared.Goals as goal

pub returns-clause-factored : goal.returns-clause-factored
returns-clause-factored c =
    on_ok_weaker c.drive.result
    (λ h. factored_driven c.args.robot.now c.args.state.now c.factored.new.work c.drive.new.work c.in_ok-factored.ensures.values c.drive.ensures.others)
    c.drive.ensures.values

pub returns-clause-refused : goal.returns-clause-refused
returns-clause-refused c =
    let tree = c.args.robot.now in
    let row = c.args.state.now in
    let f = c.factored.new.work in
    IfErr-weaker c.drive.result (IsDrivingRefused tree row f) (IsPreparationRefused tree row)
    (λ e h. IsPreparationRefused.in_driving f c.in_ok-factored.ensures.values h) c.drive.ensures.refused
