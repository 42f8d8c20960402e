use Rattle.std.proofs.Common.{◌≡◌}
use Rattle.rb_sweep.specs.Sweep.{sweep, downward}
use Rattle.rb_aba.specs.Steps.{up_step, ups_of}
use Rattle.rb_aba.proofs.articulated.sweep_up.Given as goal

abbrev pub invariant-loop-i : goal.invariant-loop-i
invariant-loop-i l = record {
  others : l.work ≡ record l.fn.work { c = l.work.c; IA = l.work.IA; p = l.work.p; U = l.work.U; packed = l.work.packed; u = l.work.u; Ia = l.work.Ia; pa = l.work.pa };
  rest : sweep (up_step l.robot l.state) (downward 1 l.i) l.work ≡ ups_of l.robot l.state l.fn.work;
}
