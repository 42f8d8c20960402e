use Rattle.std.proofs.Common.{◌≡◌, ◌+◌}
use Rattle.rb_sweep.specs.Sweep.{sweep, upward}
use Rattle.rb_constraint.specs.Constraints.{constraints_of}
use Rattle.rb_impact.specs.Sides.{side_step, gains_of}
use Rattle.rb_impact.proofs.sides.find_sides.Given as goal

abbrev pub invariant-loop-r : goal.invariant-loop-r
invariant-loop-r l = record {
  others : l.work ≡ record l.fn.work { e = l.work.e };
  rest : sweep (side_step l.state (constraints_of l.cons)) (upward l.r ((constraints_of l.cons).rows + 1)) l.work ≡ gains_of l.state (constraints_of l.cons) l.fn.work;
}
