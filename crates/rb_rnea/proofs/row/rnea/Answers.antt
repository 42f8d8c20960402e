use Rattle.std.proofs.Common.{List, OnOk, subst}
use Rattle.rb_num.specs.Interval.{Interval}
use Rattle.rb_rnea.specs.Dynamics.{EnclosesDynamics}
use Rattle.rb_rnea.proofs.row.rnea.Goals as goal

pub returns-clause-encloses : goal.returns-clause-encloses
returns-clause-encloses c =
    subst (λ (xs : List Interval). OnOk c.dynamics.result (EnclosesDynamics c.args.robot.now (record c.args.state.now { a = xs }) c.dynamics.new.work)) c.accelerations.ensures c.dynamics.ensures.encloses
