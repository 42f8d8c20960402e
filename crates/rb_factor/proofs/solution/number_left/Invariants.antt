use Rattle.std.proofs.Common.{◌≡◌, ◌<◌, ◌≤◌}
use Rattle.rb_sweep.specs.Sweep.{sweep}
use Rattle.rb_work.specs.Path.{IsOn, path}
use Rattle.rb_factor.specs.Sweeps.{part_step, part_of}
use Rattle.rb_factor.proofs.solution.number_left.Given as goal

abbrev pub invariant-loop-d : goal.invariant-loop-d
invariant-loop-d l = record {
  to : l.d < l.c;
  of_column : 1 ≤ l.d → IsOn l.work.up l.c l.d;
  rest : sweep (part_step l.work.up l.work.packed l.work.x l.c) (path l.work.up l.d) l.part ≡ part_of l.work.up l.work.packed l.work.z l.work.x l.c;
}

abbrev pub decreases-loop-d : goal.decreases-loop-d
decreases-loop-d l = l.d
