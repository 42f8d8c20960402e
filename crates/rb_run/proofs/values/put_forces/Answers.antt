use Rattle.std.proofs.Common.{arith}
use Rattle.rb_run.proofs.Taken.{taken_none, taken_more, taken_whole}
use Rattle.rb_run.proofs.values.put_forces.Goals as goal

pub loop-r-init : goal.loop-r-init
loop-r-init c = taken_none _ _ 0 1

pub loop-r-preserved : goal.loop-r-preserved
loop-r-preserved c = taken_more _ _ _ 0 1 c.loop-r.r _ _ (omega arith) (omega arith) (omega (arith, c.requires.length, c.rows-r-end.ensures.count)) c.row_force.ensures c.loop-r.invariant

pub returns-clause-forces : goal.returns-clause-forces
returns-clause-forces c = taken_whole _ _ _ c.loop-r.r _ (omega (arith, c.rows-r-end.ensures.count)) c.requires.length c.loop-r.invariant
