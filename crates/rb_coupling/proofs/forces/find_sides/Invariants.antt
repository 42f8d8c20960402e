use Rattle.std.proofs.Common.{◌≡◌, ◌+◌, length}
use Rattle.rb_sweep.specs.Sweep.{sweep, upward}
use Rattle.rb_coupling.specs.Sweeps.{side_step, sides_of}
use Rattle.rb_coupling.proofs.forces.find_sides.Given as goal

abbrev pub invariant-loop-r : goal.invariant-loop-r
invariant-loop-r l = record {
  others : l.work ≡ record l.fn.work { e = l.work.e };
  rest : sweep (side_step (length l.fn.work.up) l.fn.work.Y l.fn.work.z l.fn.work.g) (upward l.r (l.rows + 1)) l.work.e ≡ sides_of (length l.fn.work.up) l.rows l.fn.work.Y l.fn.work.z l.fn.work.g l.fn.work.e;
}
