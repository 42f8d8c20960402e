use Rattle.rb_constraint.proofs.FieldLaws.{record_whole}
use Rattle.rb_constraint.proofs.read.constraint_in.Goals as goal

pub constraint_of-requires-clause-whole : goal.constraint_of-requires-clause-whole
constraint_of-requires-clause-whole c = record_whole c.args.line.now _ (c.in_ok-read_record.ensures.fields c.if-not-branch.false)
