use Rattle.std.proofs.Common.{◌∙◌, ap}
use Rattle.rb_tags.specs.Names.{number_of_name}
use Rattle.rb_tags.proofs.Numbering.{number-of_set}
use Rattle.rb_tags.proofs.names.Names.number_of.Goals as goal

pub returns-in-Some-clause-number : goal.returns-in-Some-clause-number
returns-in-Some-clause-number c =
    c.in-Some.ensures.index ∙ number-of_set c.self.inside.names.keys c.args.name.now
    ∙ ap (λ names. number_of_name names c.args.name.now) c.self.view_is

pub returns-in-None-clause-number : goal.returns-in-None-clause-number
returns-in-None-clause-number c =
    c.in-None.ensures.index ∙ number-of_set c.self.inside.names.keys c.args.name.now
    ∙ ap (λ names. number_of_name names c.args.name.now) c.self.view_is
