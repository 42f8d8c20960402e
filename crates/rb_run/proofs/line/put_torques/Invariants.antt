use Rattle.rb_run.proofs.Numbers.{NumbersPut}
use Rattle.rb_run.proofs.line.put_torques.Given as goal

abbrev pub invariant-loop-place : goal.invariant-loop-place
invariant-loop-place l = NumbersPut l.told l.state.tau l.fn.out.bytes l.out.bytes l.fn.out.spare l.out.spare l.place
