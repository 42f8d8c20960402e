use Rattle.std.proofs.Common.{◌≡◌, ◌∙◌, ap, Err}
use Rattle.std.proofs.lemmas.Result.{err_from_is_err_and}
use Rattle.rb_rows.proofs.RowSteps.{row_of_record}
use Rattle.rb_rows.proofs.row.read_any_line.Goals as goal

pub returns-clause-ok : goal.returns-clause-ok
returns-clause-ok c =
    row_of_record c.args.header.now c.args.line.now c.args.into.now c.in_ok-one.one _ c.in_ok-one.ensures.one c.in_ok-one.ensures.fields ∙ c.in_ok-read_record.ensures.ok

pub returns-in_err-read_record-clause-err : goal.returns-in_err-read_record-clause-err
returns-in_err-read_record-clause-err c fault is =
    let p = err_from_is_err_and c.from_residual-in_err-read_record.result c.from_residual-in_err-read_record.ensures.1 in
    let answers = p.1 in
    let of_field = p.2 in
    let same : c.in_err-read_record.field-0.0 ≡ fault = cc in
    row_of_record c.args.header.now c.args.line.now c.args.into.now c.in_ok-one.one _ c.in_ok-one.ensures.one c.in_ok-one.ensures.fields ∙ c.in_err-read_record.ensures.err ∙ ap Err same
