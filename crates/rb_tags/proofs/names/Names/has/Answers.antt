use Rattle.std.proofs.Common.{◌∙◌, ap}
use Rattle.std.specs.Prelude.{bytes_eq}
use Rattle.std.specs.List.{list_any}
use Rattle.rb_tags.proofs.Numbering.{has_text}
use Rattle.rb_tags.proofs.names.Names.has.Goals as goal

pub returns : goal.returns
returns c = c.contains.ensures ∙ has_text c.self.inside.names.keys c.args.name ∙ ap (list_any (bytes_eq c.args.name.now)) c.self.view_is
