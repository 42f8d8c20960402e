use Rattle.std.proofs.lemmas.Result.{on_ok_weaker}
use Rattle.rb_sweep.proofs.Told.{told_ok, told_err}
use Rattle.rb_constraint.specs.Constraints.{constraints_of}
use Rattle.rb_constraint.specs.Bias.{AreBias, IsBiasRefused}
use Rattle.rb_constraint.proofs.BiasPass.{bias_found, bias_refused}
use Rattle.rb_constraint.proofs.BiasLies.{bias_encloses}
use Rattle.rb_constraint.proofs.bias.fill_bias.Goals as goal

pub returns-clause-values : goal.returns-clause-values
returns-clause-values c =
    told_ok _ _ _ (AreBias (constraints_of c.args.cons.now)) c.sweep_bias.ensures.exact
    (λ t e. bias_found c.args.robot.now (constraints_of c.args.cons.now) c.requires.fit c.args.work.now t c.bodies-sizes.ensures.sized c.requires.rows e)

pub returns-clause-refused : goal.returns-clause-refused
returns-clause-refused c =
    told_err _ _ _ (IsBiasRefused c.args.robot.now (constraints_of c.args.cons.now) c.args.work.now) c.sweep_bias.ensures.exact
    (λ d e. bias_refused c.args.robot.now (constraints_of c.args.cons.now) c.requires.fit c.args.work.now d c.bodies-sizes.ensures.sized c.requires.rows e)

pub returns-clause-encloses : goal.returns-clause-encloses
returns-clause-encloses c =
    on_ok_weaker c.sweep_bias.result
    (λ are. bias_encloses c.args.robot.now (constraints_of c.args.cons.now) c.sweep_bias.new.work c.requires.fit are)
    (returns-clause-values c)
