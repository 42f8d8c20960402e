use Rattle.std.proofs.Common.{OkIff, arith}
use Rattle.std.proofs.lemmas.Int.{ints}
use Rattle.rb_num.specs.Interval.{EndsFit, sum_of}
use Rattle.rb_num.proofs.Ends.{at_ends, ends_are}
use Rattle.rb_num.proofs.Fractions.{sum_result}
use Rattle.rb_num.proofs.Refused.{added}
use Rattle.rb_num.proofs.interval.Iv.add.Goals as goal
use Rattle.rb_num.proofs.interval.Iv.add.Goals.{After-checked}

the_value : (c : After-checked) → OkIff c.checked.result (EndsFit (sum_of c.args.self c.args.other)) (sum_of c.args.self c.args.other)
the_value c =
    let a = ends_are c.self.invariant c.self.view_is in
    let b = ends_are c.other.invariant c.other.view_is in
    at_ends _ _ _ _ _ c.checked.ensures.exact (omega (arith, ints, a.lo, b.lo)) (omega (arith, ints, a.hi, b.hi))

pub returns-clause-exact : goal.returns-clause-exact
returns-clause-exact c = added _ _ _ (the_value c) c.checked.ensures.fault

pub returns-clause-encloses : goal.returns-clause-encloses
returns-clause-encloses c = sum_result _ _ _ _ (the_value c)

pub returns-clause-value : goal.returns-clause-value
returns-clause-value c = the_value c
