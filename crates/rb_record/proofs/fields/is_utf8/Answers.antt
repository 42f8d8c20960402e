use Rattle.rb_record.proofs.Given.{text_tested}
use Rattle.rb_record.proofs.fields.is_utf8.Goals as goal

pub returns : goal.returns
returns c = text_tested c.args.text.now _ _ c.from_utf8.result c.is_ok.result c.from_utf8.ensures.cases c.is_ok.ensures.value
