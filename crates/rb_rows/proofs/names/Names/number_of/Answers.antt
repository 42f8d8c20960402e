use Rattle.std.proofs.Common.{◌∙◌, ap}
use Rattle.rb_tags.specs.Names.{number_of_name}
use Rattle.rb_tags.proofs.Numbering.{number-of_set}
use Rattle.rb_rows.proofs.names.Names.number_of.Goals as goal

pub returns : goal.returns
returns c =
    c.get_index_of.ensures.index ∙ number-of_set c.self.inside.names.keys c.args.name.now
    ∙ ap (λ names. number_of_name names c.args.name.now) c.self.view_is
