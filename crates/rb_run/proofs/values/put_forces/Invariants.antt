use Rattle.rb_work.specs.View.{lam_at}
use Rattle.rb_run.proofs.Taken.{Taken}
use Rattle.rb_run.proofs.values.put_forces.Given as goal

abbrev pub invariant-loop-r : goal.invariant-loop-r
invariant-loop-r l = Taken (lam_at l.work) l.fn.forces l.forces 0 1 l.r
