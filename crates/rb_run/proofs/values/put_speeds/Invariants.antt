use Rattle.rb_work.specs.View.{y_at}
use Rattle.rb_run.proofs.Taken.{Taken}
use Rattle.rb_run.proofs.values.put_speeds.Given as goal

abbrev pub invariant-loop-c : goal.invariant-loop-c
invariant-loop-c l = Taken (y_at l.work) l.fn.speeds l.speeds 0 1 l.c
