use Rattle.std.proofs.Common.{◌≡◌, ◌+◌, length}
use Rattle.rb_sweep.specs.Sweep.{sweep, upward}
use Rattle.rb_factor.specs.Sweeps.{substitute_step, substitute_of}
use Rattle.rb_factor.proofs.solution.find_all.Given as goal

abbrev pub invariant-loop-c : goal.invariant-loop-c
invariant-loop-c l = record {
  others : l.work ≡ record l.fn.work { x = l.work.x };
  rest : sweep (substitute_step l.fn.work.up l.fn.work.packed l.fn.work.z) (upward l.c (length l.fn.work.up + 1)) l.work.x
      ≡ substitute_of l.fn.work.up l.fn.work.packed l.fn.work.z l.fn.work.x;
}
