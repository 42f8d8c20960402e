use Rattle.std.proofs.Common.{◌∙◌, ◌++◌, sym, ap}
use Rattle.rb_constraint.specs.Constraints.{own_rows, rows_of}
use Rattle.rb_constraint.proofs.RowLaws.{rows_of-push}
use Rattle.rb_constraint.proofs.constraints.Made.add.Goals as goal

pub returns-clause-rows : goal.returns-clause-rows
returns-clause-rows c =
    c.in_ok-put_rows.ensures ∙ ap (λ rows. rows ++ own_rows c.args.c) c.requires ∙ sym (rows_of-push _ _) ∙ ap rows_of (sym c.in_ok-push.ensures.items)
