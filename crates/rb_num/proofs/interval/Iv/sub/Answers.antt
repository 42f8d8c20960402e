use Rattle.std.proofs.Common.{OkIff, arith}
use Rattle.std.proofs.lemmas.Int.{ints}
use Rattle.rb_num.specs.Interval.{EndsFit, difference_of}
use Rattle.rb_num.proofs.Ends.{at_ends, ends_are}
use Rattle.rb_num.proofs.Fractions.{difference_result}
use Rattle.rb_num.proofs.Refused.{subtracted}
use Rattle.rb_num.proofs.interval.Iv.sub.Goals as goal
use Rattle.rb_num.proofs.interval.Iv.sub.Goals.{After-checked}

the_value : (c : After-checked) → OkIff c.checked.result (EndsFit (difference_of c.args.self c.args.other)) (difference_of c.args.self c.args.other)
the_value c =
    let a = ends_are c.self.invariant c.self.view_is in
    let b = ends_are c.other.invariant c.other.view_is in
    at_ends _ _ _ _ _ c.checked.ensures.exact (omega (arith, ints, a.lo, b.hi)) (omega (arith, ints, a.hi, b.lo))

pub returns-clause-exact : goal.returns-clause-exact
returns-clause-exact c = subtracted _ _ _ (the_value c) c.checked.ensures.fault

pub returns-clause-encloses : goal.returns-clause-encloses
returns-clause-encloses c = difference_result _ _ _ _ (the_value c)

pub returns-clause-value : goal.returns-clause-value
returns-clause-value c = the_value c
