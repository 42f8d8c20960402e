use Rattle.std.proofs.Common.{◌≡◌}
use Rattle.rb_sweep.specs.Sweep.{sweep, upward}
use Rattle.rb_rnea.specs.Rates.{joint_columns}
use Rattle.rb_aba.specs.Steps.{moving, rate_step, rates_of}
use Rattle.rb_aba.proofs.accelerations.rates_give.Given as goal

abbrev pub invariant-loop-k : goal.invariant-loop-k
invariant-loop-k l = record {
  others : l.work ≡ record l.fn.work { x = l.work.x };
  rest : sweep (rate_step l.robot l.i) (upward l.k (joint_columns l.robot.bodies l.i)) (moving l.work l.y) ≡ rates_of l.robot l.i (moving l.fn.work l.fn.y);
}
