use Rattle.std.proofs.Common.{◌≡◌, ◌+◌}
use Rattle.rb_sweep.specs.Sweep.{sweep, upward}
use Rattle.rb_coupling.specs.Sweeps.{part_step, part_of}
use Rattle.rb_coupling.proofs.forces.force_left.Given as goal

abbrev pub invariant-loop-q : goal.invariant-loop-q
invariant-loop-q l = record {
  rest : sweep (part_step l.work.rows l.work.pairs l.work.lam l.r) (upward l.q (l.rows + 1)) l.part ≡ part_of l.work.rows l.rows l.work.pairs l.work.e l.work.lam l.r;
}
