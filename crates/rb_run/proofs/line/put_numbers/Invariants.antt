use Rattle.rb_run.proofs.Numbers.{NumbersPut}
use Rattle.rb_run.proofs.line.put_numbers.Given as goal

abbrev pub invariant-loop-number : goal.invariant-loop-number
invariant-loop-number l = NumbersPut l.told l.numbers l.fn.out.bytes l.out.bytes l.fn.out.spare l.out.spare l.number-index
