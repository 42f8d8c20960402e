use Rattle.std.proofs.Common.{◌≡◌, ◌+◌}
use Rattle.rb_sweep.specs.Sweep.{sweep, upward}
use Rattle.rb_constraint.specs.Constraints.{constraints_of}
use Rattle.rb_constraint.specs.Steps.{bias_step, bias_of}
use Rattle.rb_constraint.proofs.bias.sweep_bias.Given as goal

abbrev pub invariant-loop-r : goal.invariant-loop-r
invariant-loop-r l = record {
  others : l.work ≡ record l.fn.work { g = l.work.g };
  rest : sweep (bias_step (constraints_of l.cons)) (upward l.r ((constraints_of l.cons).rows + 1)) l.work ≡ bias_of (constraints_of l.cons) l.fn.work;
}
