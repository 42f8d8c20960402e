use Rattle.std.proofs.Common.{◌∙◌, sym, arith}
use Rattle.rb_constraint.proofs.LinkSearch.{search_ends, search_fails}
use Rattle.rb_constraint.proofs.links.body_of_link.Goals as goal

pub returns-then-eq : goal.returns-then-eq
returns-then-eq c = search_ends _ _ _ c.loop-i.i c.loop-i.invariant.from c.loop-i.invariant.others c.link_name.ensures.name (sym c.eq.ensures ∙ c.if-eq.true)

pub returns : goal.returns
returns c = search_fails _ _ c.loop-i.i (omega (arith, c.bodies-i-end.ensures.count, c.loop-i-test.false)) c.loop-i.invariant.others
