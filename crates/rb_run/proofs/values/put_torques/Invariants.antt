use Rattle.rb_work.specs.View.{T_at}
use Rattle.rb_run.proofs.Taken.{Taken}
use Rattle.rb_run.proofs.values.put_torques.Given as goal

abbrev pub invariant-loop-c : goal.invariant-loop-c
invariant-loop-c l = Taken (T_at l.work) l.fn.torques l.torques 0 1 l.c
