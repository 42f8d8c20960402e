use Rattle.std.proofs.Common.{rules}
use Rattle.rb_body.specs.Raw.{link_brackets}
use Rattle.rb_body.specs.Inertia.{inertia_by}
use Rattle.rb_body.proofs.Links.{inertia_answer}
use Rattle.rb_body.proofs.Refusals.{link_range}
use Rattle.rb_body.proofs.inertia.inertia_of.Goals as goal

pub returns-in_err-body-clause-range : goal.returns-in_err-body-clause-range
unfolding inertia_by
returns-in_err-body-clause-range c = link_range (link_brackets c.args.link.now) _ (search rules)

pub returns-clause-encloses : goal.returns-clause-encloses
unfolding inertia_by
returns-clause-encloses c = inertia_answer (link_brackets c.args.link.now) _ (search rules)
