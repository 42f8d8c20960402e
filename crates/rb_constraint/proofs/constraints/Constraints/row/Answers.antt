use Rattle.std.proofs.Common.{◌∙◌, ap}
use Rattle.rb_constraint.specs.Constraints.{rows_of}
use Rattle.rb_constraint.proofs.RowLaws.{axis_read}
use Rattle.rb_constraint.proofs.constraints.Constraints.row.Goals as goal

pub returns-clause-axis : goal.returns-clause-axis
returns-clause-axis c = axis_read c.args.self.now _ c.args.r c.index.result.now c.requires (c.self.invariant.0 ∙ ap rows_of c.self.view_is) c.index.ensures
