use Rattle.csv.specs.Records.{fields_of}
use Rattle.rb_rows.proofs.RowSteps.{AreRead}
use Rattle.rb_rows.proofs.row.read_fields.Given as goal

abbrev pub invariant-loop-index : goal.invariant-loop-index
invariant-loop-index l = AreRead l.header (fields_of l.fields) l.fn.into l.into l.index
