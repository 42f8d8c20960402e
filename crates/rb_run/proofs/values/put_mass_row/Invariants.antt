use Rattle.rb_work.specs.View.{mass_at}
use Rattle.rb_run.proofs.Taken.{Taken}
use Rattle.rb_run.proofs.values.put_mass_row.Given as goal

abbrev pub invariant-loop-d : goal.invariant-loop-d
invariant-loop-d l = Taken (mass_at l.work l.c) l.fn.masses l.masses l.behind l.c l.d
