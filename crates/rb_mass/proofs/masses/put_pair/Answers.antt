use Rattle.std.proofs.Common.{arith}
use Rattle.rb_mass.proofs.Ways.{length_ups}
use Rattle.rb_mass.proofs.masses.put_pair.Goals as goal

pub is_on-requires : goal.is_on-requires
is_on-requires c = rw c.requires.up (omega (arith, length_ups c.args.robot.now, c.requires.second.to))

pub set_M-requires-clause-first : goal.set_M-requires-clause-first
set_M-requires-clause-first c = rw c.requires.up (omega (arith, length_ups c.args.robot.now, c.requires.first.to))

pub set_M-requires-clause-second : goal.set_M-requires-clause-second
set_M-requires-clause-second c = rw c.requires.up (omega (arith, length_ups c.args.robot.now, c.requires.second.to))
