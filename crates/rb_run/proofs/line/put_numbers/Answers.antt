use Rattle.std.proofs.Common.{arith}
use Rattle.rb_run.proofs.Numbers.{numbers_none, numbers_more, numbers_whole}
use Rattle.rb_run.proofs.line.put_numbers.Goals as goal

pub loop-number-init : goal.loop-number-init
loop-number-init c = numbers_none _ _ _ _

pub loop-number-preserved : goal.loop-number-preserved
loop-number-preserved c =
    numbers_more _ _ _ _ _ _ _ _ c.loop-number.number-index _ _ (omega arith) c.number-item.is c.loop-number.invariant c.put_field.ensures.bytes c.put_field.ensures.spare c.put_field.ensures.short

pub returns-clause-bytes : goal.returns-clause-bytes
returns-clause-bytes c = (numbers_whole _ _ _ _ _ _ c.loop-number.number-index (omega arith) c.loop-number.invariant).bytes

pub returns-clause-spare : goal.returns-clause-spare
returns-clause-spare c = (numbers_whole _ _ _ _ _ _ c.loop-number.number-index (omega arith) c.loop-number.invariant).left

pub returns-clause-short : goal.returns-clause-short
returns-clause-short c = (numbers_whole _ _ _ _ _ _ c.loop-number.number-index (omega arith) c.loop-number.invariant).short
