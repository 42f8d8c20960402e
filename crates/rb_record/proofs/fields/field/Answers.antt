use Rattle.std.proofs.Common.{refl}
use Rattle.rb_record.proofs.Given.{field_got}
use Rattle.rb_record.proofs.fields.field.Goals as goal

pub returns : goal.returns
returns c = field_got _ _ c.get.result _ c.unwrap_or.result refl c.get.ensures.value c.unwrap_or.ensures
