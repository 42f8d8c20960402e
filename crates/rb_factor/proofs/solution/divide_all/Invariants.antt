use Rattle.std.proofs.Common.{◌≡◌, ◌+◌, length}
use Rattle.rb_sweep.specs.Sweep.{sweep, upward}
use Rattle.rb_factor.specs.Sweeps.{divide_step, divide_of}
use Rattle.rb_factor.proofs.solution.divide_all.Given as goal

abbrev pub invariant-loop-c : goal.invariant-loop-c
invariant-loop-c l = record {
  others : l.work ≡ record l.fn.work { z = l.work.z };
  rest : sweep (divide_step l.fn.work.up l.fn.work.packed l.fn.work.w) (upward l.c (length l.fn.work.up + 1)) l.work.z
      ≡ divide_of l.fn.work.up l.fn.work.packed l.fn.work.w l.fn.work.z;
}
