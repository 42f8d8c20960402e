use Rattle.std.proofs.Common.{◌∙◌, inl, inr, sym, subst}
use Rattle.std.proofs.lemmas.Result.{err_from_is_err_and}
use Rattle.rb_constraint.specs.File.{IsFile}
use Rattle.rb_constraint.proofs.RowLaws.{rows_fit}
use Rattle.rb_constraint.proofs.FileLaws.{file-says, file-refused, file_kept}
use Rattle.rb_constraint.proofs.read.read_constraints.Goals as goal

pub returns-in_err-header-clause-err : goal.returns-in_err-header-clause-err
returns-in_err-header-clause-err c =
    let p = err_from_is_err_and c.from_residual.result c.from_residual.ensures.1 in
    rw (p.1, p.2) (inr (file-refused _ _ _ (c.in_err-header.ensures.err c.args.robot.now)))

pub returns-in_err-made-clause-err : goal.returns-in_err-made-clause-err
returns-in_err-made-clause-err c =
    let p = err_from_is_err_and c.from_residual-in_err-made.result c.from_residual-in_err-made.ensures.1 in
    rw (p.1, p.2) (elim c.in_err-made.ensures.gives [
      | inl none ↦ inl none
      | inr h ↦ inr (file-refused c.args.robot.now c.args.text.now _ (c.in_ok-header.ensures.ok c.args.robot.now ∙ h))
    ])

pub of-requires-clause-kept : goal.of-requires-clause-kept
of-requires-clause-kept c =
    file_kept c.args.robot.now c.args.text.now _ (file-says _ _ _ (c.in_ok-header.ensures.ok c.args.robot.now ∙ c.in_ok-made.ensures.gives)) c.in_ok-made.ensures.ordered

pub returns-clause-ok : goal.returns-clause-ok
returns-clause-ok c = subst (IsFile c.args.robot.now c.args.text.now) (sym c.in_ok-constraints.ensures) (file-says _ _ _ (c.in_ok-header.ensures.ok c.args.robot.now ∙ c.in_ok-made.ensures.gives))

pub returns-clause-fits : goal.returns-clause-fits
returns-clause-fits c = rows_fit c.args.robot.now c.args.text.now c.in_ok-constraints.constraints (returns-clause-ok c)
