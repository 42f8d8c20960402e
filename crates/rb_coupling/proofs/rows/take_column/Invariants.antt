use Rattle.std.proofs.Common.{◌≡◌, ◌<◌, ◌≤◌}
use Rattle.rb_sweep.specs.Sweep.{sweep}
use Rattle.rb_work.specs.Path.{IsOn, path}
use Rattle.rb_coupling.specs.Sweeps.{take_step, reduce_step}
use Rattle.rb_coupling.proofs.rows.take_column.Given as goal

abbrev pub invariant-loop-d : goal.invariant-loop-d
invariant-loop-d l = record {
  to : l.d < l.c;
  of_column : 1 ≤ l.d → IsOn l.fn.work.up l.c l.d;
  others : l.work ≡ record l.fn.work { Y = l.work.Y };
  rest : sweep (take_step l.fn.work.up l.fn.work.packed l.r l.c l.own) (path l.fn.work.up l.d) l.work.Y ≡ reduce_step l.fn.work.up l.fn.work.packed l.r l.c l.fn.work.Y;
}

abbrev pub decreases-loop-d : goal.decreases-loop-d
decreases-loop-d l = l.d
