use Rattle.std.proofs.Common.{◌≡◌, ◌+◌}
use Rattle.rb_sweep.specs.Sweep.{sweep, upward}
use Rattle.rb_tree.specs.Columns.{column_count}
use Rattle.rb_mass.specs.Steps.{mass_step, masses_of}
use Rattle.rb_mass.proofs.masses.sweep_masses.Given as goal

abbrev pub invariant-loop-c : goal.invariant-loop-c
invariant-loop-c l = record {
  others : l.work ≡ record l.fn.work { packed = l.work.packed };
  rest : sweep (mass_step l.robot) (upward l.c (column_count l.robot.bodies + 1)) l.work ≡ masses_of l.robot l.fn.work;
}
