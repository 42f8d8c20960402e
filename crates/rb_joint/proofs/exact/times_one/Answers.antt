use Rattle.std.proofs.Common.{rules}
use Rattle.rb_joint.proofs.AxisTurns.{one_times}
use Rattle.rb_joint.proofs.exact.times_one.Goals as goal

pub returns-then-is_narrow-clause-exact : goal.returns-then-is_narrow-clause-exact
returns-then-is_narrow-clause-exact c = one_times _ (search rules)
