use Rattle.std.proofs.Common.{◌≡◌, ◌<◌, ◌≤◌}
use Rattle.rb_sweep.specs.Sweep.{sweep}
use Rattle.rb_work.specs.Path.{IsOn, path}
use Rattle.rb_factor.specs.Sweeps.{entry_step, entries_of}
use Rattle.rb_factor.proofs.factors.divide_row.Given as goal

abbrev pub invariant-loop-d : goal.invariant-loop-d
invariant-loop-d l = record {
  to : l.d < l.c;
  of_column : 1 ≤ l.d → IsOn l.fn.work.up l.c l.d;
  others : l.work ≡ record l.fn.work { packed = l.work.packed };
  rest : sweep (entry_step l.fn.work.up l.c l.p) (path l.fn.work.up l.d) l.work.packed ≡ entries_of l.fn.work.up l.c l.p l.fn.work.packed;
}

abbrev pub decreases-loop-d : goal.decreases-loop-d
decreases-loop-d l = l.d
