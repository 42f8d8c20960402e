use Rattle.std.proofs.Common.{◌∙◌, ap, map}
use Rattle.rb_constraint.specs.Constraints.{rows_of, compliance_of}
use Rattle.rb_constraint.proofs.RowLaws.{compliance_read, compliances_counted}
use Rattle.rb_constraint.proofs.constraints.Constraints.compliances.Goals as goal

pub returns-clause-count : goal.returns-clause-count
returns-clause-count c =
    compliances_counted c.args.self.now _
    (c.as_slice.ensures.value ∙ c.self.invariant.1 ∙ ap (map compliance_of) (c.self.invariant.0 ∙ ap rows_of c.self.view_is))

pub returns-clause-each : goal.returns-clause-each
returns-clause-each c =
    λ r there. compliance_read c.args.self.now _ r there
    (c.as_slice.ensures.value ∙ c.self.invariant.1 ∙ ap (map compliance_of) (c.self.invariant.0 ∙ ap rows_of c.self.view_is))
