use Rattle.std.proofs.Common.{◌≡◌, ◌+◌}
use Rattle.rb_sweep.specs.Sweep.{sweep, upward}
use Rattle.rb_tree.specs.Columns.{column_count}
use Rattle.rb_impact.specs.Pushes.{clear_step, cleared_of}
use Rattle.rb_impact.proofs.pushes.sweep_clear.Given as goal

abbrev pub invariant-loop-c : goal.invariant-loop-c
invariant-loop-c l = record {
  others : l.work ≡ record l.fn.work { w = l.work.w };
  rest : sweep clear_step (upward l.c (column_count l.robot.bodies + 1)) l.work ≡ cleared_of l.robot l.fn.work;
}
