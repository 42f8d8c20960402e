use Rattle.std.proofs.Common.{List, OnOk, IfErr, subst, length, arith}
use Rattle.std.proofs.lemmas.List.{length-replicate}
use Rattle.rb_num.specs.Interval.{Interval, zero_interval}
use Rattle.rb_sweep.specs.Sweep.{Answers}
use Rattle.rb_rnea.specs.Dynamics.{AreDynamics, IsRefused, answer_of, torques_in, EnclosesDynamics}
use Rattle.rb_rnea.proofs.row.unaccelerated_row.Goals as goal

pub dynamics-requires-clause-long : goal.dynamics-requires-clause-long
dynamics-requires-clause-long c = rw c.requires.zeros (omega (arith, length-replicate (length c.args.state.now.a) zero_interval, c.requires.fits.a))

pub returns-clause-values : goal.returns-clause-values
returns-clause-values c =
    subst (λ (xs : List Interval). OnOk c.dynamics.result (AreDynamics c.args.robot.now (record c.args.state.now { a = xs }) c.dynamics.new.work)) c.requires.zeros c.dynamics.ensures.values

pub returns-clause-refused : goal.returns-clause-refused
returns-clause-refused c =
    subst (λ (xs : List Interval). IfErr c.dynamics.result (IsRefused c.args.robot.now (record c.args.state.now { a = xs }))) c.requires.zeros c.dynamics.ensures.refused

pub returns-clause-answer : goal.returns-clause-answer
returns-clause-answer c =
    subst (λ (xs : List Interval). Answers c.dynamics.result (answer_of c.args.robot.now (record c.args.state.now { a = xs })) (torques_in c.args.robot.now c.dynamics.new.work)) c.requires.zeros c.dynamics.ensures.answer

pub returns-clause-encloses : goal.returns-clause-encloses
returns-clause-encloses c =
    subst (λ (xs : List Interval). OnOk c.dynamics.result (EnclosesDynamics c.args.robot.now (record c.args.state.now { a = xs }) c.dynamics.new.work)) c.requires.zeros c.dynamics.ensures.encloses
