use Rattle.std.proofs.Common.{◌∙◌, sym}
use Rattle.rb_constraint.proofs.RowLaws.{rows_of-none}
use Rattle.rb_constraint.proofs.constraints.Made.new.Goals as goal

pub returns-clause-rows : goal.returns-clause-rows
returns-clause-rows c = c.new-2.ensures.items ∙ sym rows_of-none
