use Rattle.rb_work.specs.View.{columns_of}
use Rattle.rb_run.proofs.Pairs.{MassesTaken}
use Rattle.rb_run.proofs.values.put_masses.Given as goal

abbrev pub invariant-loop-c : goal.invariant-loop-c
invariant-loop-c l = MassesTaken l.work (columns_of l.work) l.fn.masses l.masses l.c l.behind
