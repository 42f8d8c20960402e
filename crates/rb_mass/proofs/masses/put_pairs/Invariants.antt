use Rattle.std.proofs.Common.{◌≡◌, ◌+◌}
use Rattle.rb_sweep.specs.Sweep.{sweep, upward}
use Rattle.rb_tree.specs.Columns.{column_count}
use Rattle.rb_mass.specs.Steps.{pair_step}
use Rattle.rb_mass.proofs.masses.put_pairs.Given as goal

abbrev pub invariant-loop-d : goal.invariant-loop-d
invariant-loop-d l = record {
  others : l.work ≡ record l.fn.work { packed = l.work.packed };
  rest : sweep (pair_step l.robot l.c) (upward l.d (column_count l.robot.bodies + 1)) l.work ≡ sweep (pair_step l.robot l.c) (upward l.c (column_count l.robot.bodies + 1)) l.fn.work;
}
