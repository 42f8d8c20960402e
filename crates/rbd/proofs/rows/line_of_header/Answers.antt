use Rattle.std.proofs.Common.{ap, ◌∙◌}
use Rattle.rbd.specs.Inputs.{rows_of_lines}
use Rattle.rbd.proofs.rows.line_of_header.Goals as goal

pub returns-in-None-clause-err : goal.returns-in-None-clause-err
returns-in-None-clause-err c = λ tree. ap (rows_of_lines tree) c.in-None.ensures.lines ∙ c.no_header.ensures tree
