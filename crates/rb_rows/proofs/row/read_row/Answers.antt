use Rattle.std.proofs.Common.{◌≡◌, ◌∙◌, ap, sym, Err}
use Rattle.std.proofs.lemmas.Result.{err_from_is_err_and}
use Rattle.rb_rows.proofs.PlainRows.{row_of_plain}
use Rattle.rb_rows.proofs.row.read_row.Goals as goal

pub returns-in_err-read_plain_line-clause-err : goal.returns-in_err-read_plain_line-clause-err
returns-in_err-read_plain_line-clause-err c fault is =
    let p = err_from_is_err_and c.from_residual.result c.from_residual.ensures.1 in
    let answers = p.1 in
    let of_field = p.2 in
    let same : c.in_err-read_plain_line.field-0.0 ≡ fault = cc in
    row_of_plain c.args.header.now c.args.line.now c.args.into.now (sym c.is_plain.ensures ∙ c.if-not-is_plain.false) ∙ c.in_err-read_plain_line.ensures.err ∙ ap Err same

pub returns-clause-ok : goal.returns-clause-ok
returns-clause-ok c =
    row_of_plain c.args.header.now c.args.line.now c.args.into.now (sym c.is_plain.ensures ∙ c.if-not-is_plain.false) ∙ c.in_ok-read_plain_line.ensures.ok
