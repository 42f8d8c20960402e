use Rattle.std.proofs.Common.{arith}
use Rattle.rb_run.proofs.Taken.{taken_none, taken_more, taken_whole}
use Rattle.rb_run.proofs.values.put_speeds.Goals as goal

pub loop-c-init : goal.loop-c-init
loop-c-init c = taken_none _ _ 0 1

pub loop-c-preserved : goal.loop-c-preserved
loop-c-preserved c = taken_more _ _ _ 0 1 c.loop-c.c _ _ (omega arith) (omega arith) (omega (arith, c.requires.length, c.nv-c-end.ensures.count)) c.speed_after.ensures c.loop-c.invariant

pub returns-clause-speeds : goal.returns-clause-speeds
returns-clause-speeds c = taken_whole _ _ _ c.loop-c.c _ (omega (arith, c.nv-c-end.ensures.count)) c.requires.length c.loop-c.invariant
