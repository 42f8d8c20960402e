use Rattle.rb_text.proofs.Grammar.{lower_is, upper_is, exponent_digits}
use Rattle.rb_text.proofs.bracket.range.Goals as goal

pub bracket-requires-clause-whole : goal.bracket-requires-clause-whole
bracket-requires-clause-whole c = (lower_is c.args.first.now _ c.in-Some-Some.ensures).plain_is.whole_digits

pub bracket-requires-clause-part : goal.bracket-requires-clause-part
bracket-requires-clause-part c = (lower_is c.args.first.now _ c.in-Some-Some.ensures).plain_is.part_digits

pub bracket-requires-clause-exponent : goal.bracket-requires-clause-exponent
bracket-requires-clause-exponent c = exponent_digits _ _ (lower_is c.args.first.now _ c.in-Some-Some.ensures).plain_is

pub bracket-requires-in-Some-Some-clause-whole : goal.bracket-requires-in-Some-Some-clause-whole
bracket-requires-in-Some-Some-clause-whole c = (upper_is c.args.second.now _ c.in-Some-Some.ensures').plain_is.whole_digits

pub bracket-requires-in-Some-Some-clause-part : goal.bracket-requires-in-Some-Some-clause-part
bracket-requires-in-Some-Some-clause-part c = (upper_is c.args.second.now _ c.in-Some-Some.ensures').plain_is.part_digits

pub bracket-requires-in-Some-Some-clause-exponent :
    goal.bracket-requires-in-Some-Some-clause-exponent
bracket-requires-in-Some-Some-clause-exponent c = exponent_digits _ _ (upper_is c.args.second.now _ c.in-Some-Some.ensures').plain_is
