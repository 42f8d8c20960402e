use Rattle.std.proofs.Common.{◌≡◌, ◌+◌, length}
use Rattle.rb_sweep.specs.Sweep.{sweep, upward}
use Rattle.rb_constraint.specs.Steps.{turn_step, turns_of}
use Rattle.rb_constraint.proofs.rows.sweep_turns.Given as goal

abbrev pub invariant-loop-i : goal.invariant-loop-i
invariant-loop-i l = record {
  others : l.work ≡ record l.fn.work { O = l.work.O };
  rest : sweep (turn_step l.robot) (upward l.i (length l.robot.bodies + 1)) l.work ≡ turns_of l.robot l.fn.work;
}
