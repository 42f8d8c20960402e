use Rattle.std.proofs.Common.{◌≡◌, ◌≤◌}
use Rattle.rb_sweep.specs.Sweep.{sweep}
use Rattle.rb_work.specs.Path.{IsOn, path}
use Rattle.rb_factor.specs.Sweeps.{update_step, updates_of}
use Rattle.rb_factor.proofs.factors.lessen_row.Given as goal

abbrev pub invariant-loop-e : goal.invariant-loop-e
invariant-loop-e l = record {
  to : l.e ≤ l.d;
  of_column : 1 ≤ l.e → IsOn l.fn.work.up l.c l.e;
  of_row : 1 ≤ l.e → IsOn l.fn.work.up l.d l.e;
  others : l.work ≡ record l.fn.work { packed = l.work.packed };
  rest : sweep (update_step l.fn.work.up l.c l.d l.m) (path l.fn.work.up l.e) l.work.packed ≡ updates_of l.fn.work.up l.c l.d l.m l.fn.work.packed;
}

abbrev pub decreases-loop-e : goal.decreases-loop-e
decreases-loop-e l = l.e
