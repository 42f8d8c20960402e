use Rattle.std.proofs.Common.{◌+◌, ap, ◌∙◌, sym}
use Rattle.std.proofs.lemmas.Result.{on_ok_weaker}
use Rattle.rb_sweep.proofs.Told.{told_ok, told_err}
use Rattle.rb_work.specs.View.{View, X_at}
use Rattle.rb_mass.specs.Mass.{AreMass, IsMassRefused}
use Rattle.rb_mass.proofs.Ways.{ups_same}
use Rattle.rb_mass.proofs.Told.{mass_found, mass_refused, told_answer}
use Rattle.rb_mass.proofs.MassEnclose.{left_encloses}
use Rattle.rb_mass.proofs.row.composite.Goals as goal

pub returns-clause-values : goal.returns-clause-values
returns-clause-values c =
    told_ok _ _ _ (AreMass c.args.robot.now) c.sweeps.ensures.exact (λ t e. mass_found c.args.robot.now c.bodies-tree.ensures.kept c.args.work.now t c.bodies-sizes.ensures.sized c.requires.room e)

pub returns-clause-refused : goal.returns-clause-refused
returns-clause-refused c =
    told_err _ _ _ (IsMassRefused c.args.robot.now c.args.work.now) c.sweeps.ensures.exact
    (λ d e. mass_refused c.args.robot.now c.bodies-tree.ensures.kept c.args.work.now d c.bodies-sizes.ensures.sized c.requires.room e)

pub returns-clause-answer : goal.returns-clause-answer
returns-clause-answer c =
    told_answer c.args.robot.now c.bodies-tree.ensures.kept c.sweeps.result c.args.work.now c.sweeps.new.work
    (c.bodies-sizes.ensures.sized.X ∙ ap (λ n. n + 1) c.requires.room.bodies)
    (ap (λ (w : View). w.up) c.sweeps.ensures.others ∙ ups_same c.args.robot.now _ c.requires.room.up)
    (λ i has. sym (ap (λ (w : View). X_at w i) c.sweeps.ensures.others))
    (told_ok _ _ _ (AreMass c.args.robot.now) c.sweeps.ensures.exact (λ t e. mass_found c.args.robot.now c.bodies-tree.ensures.kept c.args.work.now t c.bodies-sizes.ensures.sized c.requires.room e))
    (told_err _ _ _ (IsMassRefused c.args.robot.now c.args.work.now) c.sweeps.ensures.exact
    (λ d e. mass_refused c.args.robot.now c.bodies-tree.ensures.kept c.args.work.now d c.bodies-sizes.ensures.sized c.requires.room e))

pub returns-clause-encloses : goal.returns-clause-encloses
returns-clause-encloses c =
    on_ok_weaker c.sweeps.result (λ are. left_encloses _ c.args.work.now c.sweeps.new.work c.bodies-tree.ensures.kept c.requires.room c.sweeps.ensures.others are) (returns-clause-values c)
