use Rattle.rb_constraint.proofs.FieldLaws.{record_tested, record_found, record_none}
use Rattle.rb_constraint.proofs.record.read_record.Goals as goal

pub returns-then-one-clause-one : goal.returns-then-one-clause-one
returns-then-one-clause-one c = record_tested _ _ _ (c.in_ok-one.ensures.fields c.if-one.true) c.is_whole.ensures

pub returns-then-one-clause-fields : goal.returns-then-one-clause-fields
returns-then-one-clause-fields c = record_found _ _ _ (c.in_ok-one.ensures.fields c.if-one.true) c.is_whole.ensures

pub returns-else-one-clause-one : goal.returns-else-one-clause-one
returns-else-one-clause-one c = record_none _ _ c.in_ok-one.ensures.one c.if-one.false
