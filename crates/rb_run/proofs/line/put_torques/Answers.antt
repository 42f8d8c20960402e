use Rattle.std.proofs.Common.{arith}
use Rattle.rb_run.proofs.Numbers.{numbers_none, numbers_more, numbers_whole}
use Rattle.rb_run.proofs.line.put_torques.Goals as goal

pub loop-place-init : goal.loop-place-init
loop-place-init c = numbers_none _ _ _ _

pub loop-place-preserved : goal.loop-place-preserved
loop-place-preserved c =
    numbers_more _ _ _ _ _ _ _ _ c.loop-place.place _ _ (omega arith) c.tau.ensures c.loop-place.invariant c.put_field.ensures.bytes c.put_field.ensures.spare c.put_field.ensures.short

pub returns-clause-bytes : goal.returns-clause-bytes
returns-clause-bytes c = (numbers_whole _ _ _ _ _ _ c.loop-place.place (omega arith) c.loop-place.invariant).bytes

pub returns-clause-spare : goal.returns-clause-spare
returns-clause-spare c = (numbers_whole _ _ _ _ _ _ c.loop-place.place (omega arith) c.loop-place.invariant).left

pub returns-clause-short : goal.returns-clause-short
returns-clause-short c = omega (arith, (numbers_whole _ _ _ _ _ _ c.loop-place.place (omega arith) c.loop-place.invariant).short, c.requires.count)
