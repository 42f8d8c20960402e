use Rattle.std.proofs.Common.{◌∙◌, sym, ap, map, subst}
use Rattle.rb_constraint.specs.Constraints.{rows_of, compliance_of, AreConstraints}
use Rattle.rb_constraint.proofs.RowLaws.{rows_of-none, none_kept, none_fit}
use Rattle.rb_constraint.proofs.constraints.Constraints.none.Goals as goal

pub invariant_of-result : goal.invariant_of-result
invariant_of-result c = (c.new-2.ensures.items ∙ sym rows_of-none ∙ ap rows_of (sym c.new.ensures.items), c.new-3.ensures.items ∙ ap (map compliance_of) (sym c.new-2.ensures.items), subst AreConstraints (sym c.new.ensures.items) none_kept)

pub returns-clause-fit : goal.returns-clause-fit
returns-clause-fit c = rw c.new.ensures.items none_fit
