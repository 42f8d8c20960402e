use Rattle.std.proofs.Common.{◌∙◌, not, ap}
use Rattle.std.specs.Prelude.{bytes_eq}
use Rattle.std.specs.List.{list_any}
use Rattle.rb_tags.proofs.Numbering.{has_text}
use Rattle.rb_rows.proofs.names.Names.add.Goals as goal

pub returns-clause-added : goal.returns-clause-added
returns-clause-added c =
    c.in_ok-insert.ensures.added
    ∙ ap not (has_text c.self.inside.names.keys c.args.name ∙ ap (list_any (bytes_eq c.args.name.now)) c.self.view_is)
