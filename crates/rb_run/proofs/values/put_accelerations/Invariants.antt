use Rattle.rb_work.specs.View.{x_at}
use Rattle.rb_run.proofs.Taken.{Taken}
use Rattle.rb_run.proofs.values.put_accelerations.Given as goal

abbrev pub invariant-loop-c : goal.invariant-loop-c
invariant-loop-c l = Taken (x_at l.work) l.fn.accelerations l.accelerations 0 1 l.c
