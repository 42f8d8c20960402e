use Rattle.std.proofs.lemmas.Result.{err_from_is_err_and, on_ok_weaker, IfErr-weaker}
use Rattle.rb_factor.specs.Solve.{RefusesSolve}
use Rattle.rb_contact.specs.Forward.{IsForwardRefused}
use Rattle.rb_contact.proofs.Assembled.{forward_from, solution_refused}
use Rattle.rb_contact.proofs.ForwardAnswer.{refused_is, told_forward}
use Rattle.rb_contact.proofs.RowEncloses.{forward_encloses}
use Rattle.rb_contact.proofs.row.forward.Goals as goal

pub returns-in_err-prepared-clause-refused : goal.returns-in_err-prepared-clause-refused
returns-in_err-prepared-clause-refused c =
    let p = err_from_is_err_and c.from_residual.result c.from_residual.ensures.1 in
    rw (p.1, p.2) (IsForwardRefused.in_preparation c.in_err-prepared.ensures.refused)

pub returns-in_err-prepared-clause-answer : goal.returns-in_err-prepared-clause-answer
returns-in_err-prepared-clause-answer c =
    let p = err_from_is_err_and c.from_residual.result c.from_residual.ensures.1 in
    rw (p.1, p.2) (refused_is c.args.robot.now c.args.state.now c.bodies-tree.ensures.kept _ (IsForwardRefused.in_preparation c.in_err-prepared.ensures.refused))

pub returns-clause-values : goal.returns-clause-values
returns-clause-values c =
    let done = c.in_ok-prepared.ensures in
    on_ok_weaker c.solve.result
    (λ h. forward_from c.args.robot.now c.args.state.now c.prepared.new.work c.solve.new.work done.factored done.driving done.right c.solve.ensures.others h)
    c.solve.ensures.values

pub returns-clause-refused : goal.returns-clause-refused
returns-clause-refused c =
    let tree = c.args.robot.now in
    let row = c.args.state.now in
    let d = c.prepared.new.work in
    let done = c.in_ok-prepared.ensures in
    IfErr-weaker c.solve.result (RefusesSolve d) (IsForwardRefused tree row) (λ e h. solution_refused tree row d e done.factored done.driving done.right h) c.solve.ensures.refused

pub returns-clause-answer : goal.returns-clause-answer
returns-clause-answer c =
    told_forward c.args.robot.now c.args.state.now c.bodies-tree.ensures.kept c.solve.result c.solve.new.work (returns-clause-values c) (returns-clause-refused c)

pub returns-clause-encloses : goal.returns-clause-encloses
returns-clause-encloses c =
    on_ok_weaker c.solve.result (λ h. forward_encloses c.args.robot.now c.args.state.now c.solve.new.work c.bodies-tree.ensures.kept h) (returns-clause-values c)
