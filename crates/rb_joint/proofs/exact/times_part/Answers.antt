use Rattle.rb_joint.proofs.AxisTurns.{times_swapped}
use Rattle.rb_joint.proofs.exact.times_part.Goals as goal

pub returns-clause-exact : goal.returns-clause-exact
returns-clause-exact c = times_swapped _ _ _ c.part_times.ensures.exact
