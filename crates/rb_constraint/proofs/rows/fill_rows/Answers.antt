use Rattle.std.proofs.lemmas.Result.{on_ok_weaker}
use Rattle.rb_sweep.proofs.Told.{told_ok, told_err}
use Rattle.rb_constraint.specs.Constraints.{constraints_of}
use Rattle.rb_constraint.specs.Rows.{AreRows, IsRowRefused}
use Rattle.rb_constraint.proofs.RowPass.{rows_found, rows_refused}
use Rattle.rb_constraint.proofs.RowsEnclose.{rows_enclose}
use Rattle.rb_constraint.proofs.rows.fill_rows.Goals as goal

pub returns-clause-values : goal.returns-clause-values
returns-clause-values c =
    told_ok _ _ _ (AreRows c.args.robot.now (constraints_of c.args.cons.now)) c.fills.ensures.exact
    (λ t e. rows_found c.args.robot.now (constraints_of c.args.cons.now) c.bodies-tree.ensures.kept c.requires.fit c.args.work.now t c.bodies-sizes.ensures.sized c.requires.room c.requires.rows e)

pub returns-clause-refused : goal.returns-clause-refused
returns-clause-refused c =
    told_err _ _ _ (IsRowRefused c.args.robot.now (constraints_of c.args.cons.now) c.args.work.now) c.fills.ensures.exact
    (λ d e. rows_refused c.args.robot.now (constraints_of c.args.cons.now) c.bodies-tree.ensures.kept c.requires.fit c.args.work.now d c.bodies-sizes.ensures.sized c.requires.room c.requires.rows e)

pub returns-clause-encloses : goal.returns-clause-encloses
returns-clause-encloses c =
    on_ok_weaker c.fills.result
    (λ are. rows_enclose c.args.robot.now (constraints_of c.args.cons.now) c.fills.new.work c.bodies-tree.ensures.kept c.requires.fit are)
    (returns-clause-values c)
