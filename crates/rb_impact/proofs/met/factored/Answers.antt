use Rattle.std.proofs.Common.{ap}
use Rattle.std.proofs.lemmas.Result.{on_ok_weaker, IfErr-weaker}
use Rattle.rb_work.specs.View.{extent_of}
use Rattle.rb_factor.specs.Factor.{RefusesFactor}
use Rattle.rb_constraint.specs.Constraints.{constraints_of}
use Rattle.rb_contact.proofs.Assembled.{room_same}
use Rattle.rb_impact.specs.Impact.{IsImpactRefused}
use Rattle.rb_impact.proofs.Struck.{factored_from}
use Rattle.rb_impact.proofs.met.factored.Goals as goal

pub returns-clause-values : goal.returns-clause-values
returns-clause-values c =
    let tree = c.args.robot.now in
    let m = c.crba.new.work in
    let done = c.in_ok-crba.ensures in
    let room = room_same tree c.args.work.now m (ap extent_of c.crba.ensures.others) c.requires.room in
    on_ok_weaker c.factor.result (λ h. factored_from tree c.args.state.now m c.factor.new.work room done.places done.values c.factor.ensures.others h) c.factor.ensures.values

pub returns-clause-refused : goal.returns-clause-refused
returns-clause-refused c =
    let tree = c.args.robot.now in
    let m = c.crba.new.work in
    let done = c.in_ok-crba.ensures in
    let room = room_same tree c.args.work.now m (ap extent_of c.crba.ensures.others) c.requires.room in
    IfErr-weaker c.factor.result (RefusesFactor m) (IsImpactRefused tree c.args.state.now (constraints_of c.args.cons.now))
    (λ e h. IsImpactRefused.in_factors m room done.places done.values h) c.factor.ensures.refused
