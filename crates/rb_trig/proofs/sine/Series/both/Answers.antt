use Rattle.std.proofs.Common.{arith, ◌+◌, ◌∙◌}
use Rattle.rb_num.specs.declared.terms.TheConstants.{TERMS}
use Rattle.rb_trig.proofs.Short.{short_start, meet_first}
use Rattle.rb_trig.proofs.sine.Series.both.Goals as goal

pub nested-requires-clause-nested : goal.nested-requires-clause-nested
nested-requires-clause-nested c = short_start c.args.self c.args.square TERMS (omega arith)

pub nested-requires-in-None-clause-nested : goal.nested-requires-in-None-clause-nested
nested-requires-in-None-clause-nested c = short_start c.args.self c.args.square (TERMS + 1) (omega arith)

pub returns-in-Some-clause-more : goal.returns-in-Some-clause-more
returns-in-Some-clause-more c = c.nested-sum.ensures ∙ meet_first c.args.self c.args.square TERMS _ _ _ c.in-Some.ensures.last c.in-Some.ensures.few c.in-Some.ensures.more
