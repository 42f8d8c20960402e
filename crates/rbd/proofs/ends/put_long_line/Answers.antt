use Rattle.std.proofs.Common.{List, ℕ, ◌++◌, ◌∙◌, ap, append_assoc, codes, decimal}
use Rattle.rbd.proofs.ends.put_long_line.Goals as goal

pub returns-clause-bytes : goal.returns-clause-bytes
returns-clause-bytes c =
    c.put_number.ensures.bytes ∙ ap (λ (text : List ℕ). text ++ decimal c.args.row) c.put.ensures.bytes
    ∙ append_assoc c.args.line.now.bytes (codes "rows: LineTooLong at row ") (decimal c.args.row)
