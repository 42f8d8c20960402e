use Rattle.std.proofs.Common.{rules}
use Rattle.rb_joint.proofs.AxisTurns.{times_zero, times_one, times_minus}
use Rattle.rb_joint.proofs.exact.part_times.Goals as goal

pub returns-then-is_exactly-clause-exact : goal.returns-then-is_exactly-clause-exact
returns-then-is_exactly-clause-exact c = times_zero _ _ (search rules)

pub returns-then-is_narrow-clause-exact : goal.returns-then-is_narrow-clause-exact
returns-then-is_narrow-clause-exact c = times_one _ _ (search rules) (search rules)

pub returns-then-is_narrow-2-clause-exact : goal.returns-then-is_narrow-2-clause-exact
returns-then-is_narrow-2-clause-exact c = times_minus _ _ _ (search rules) (search rules) c.neg.ensures.exact
