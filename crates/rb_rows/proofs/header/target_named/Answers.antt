use Rattle.std.proofs.Common.{◌∙◌, ap}
use Rattle.rb_tags.specs.Names.{number_of_name}
use Rattle.rb_rows.proofs.Targets.{number_within, target_numbered, no_target}
use Rattle.rb_rows.proofs.header.target_named.Goals as goal

pub target_at-requires-clause-there : goal.target_at-requires-clause-there
target_at-requires-clause-there c =
    number_within c.args.robot.now c.args.name.now c.in-Some.number (c.in-Some.ensures ∙ ap (λ names. number_of_name names c.args.name.now) c.requires.columns)

pub returns-in-Some : goal.returns-in-Some
returns-in-Some c =
    target_numbered c.args.robot.now c.args.name.now c.in-Some.number c.target_at.result (c.in-Some.ensures ∙ ap (λ names. number_of_name names c.args.name.now) c.requires.columns) c.target_at.ensures

pub returns-in-None : goal.returns-in-None
returns-in-None c = no_target c.args.robot.now c.args.name.now (c.in-None.ensures ∙ ap (λ names. number_of_name names c.args.name.now) c.requires.columns)
