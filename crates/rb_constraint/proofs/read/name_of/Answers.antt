use Rattle.std.proofs.Common.{◌∙◌, ap}
use Rattle.std.specs.Str.{is_utf8}
use Rattle.rb_constraint.proofs.FieldLaws.{name_is_text, text_read}
use Rattle.rb_constraint.proofs.read.name_of.Goals as goal

pub unwrap-requires : goal.unwrap-requires
unwrap-requires c = text_read _ _ _ c.from_utf8.result c.from_utf8.ensures.cases (ap is_utf8 c.field.ensures ∙ name_is_text _ c.requires)
