use Rattle.std.proofs.Common.{◌≡◌, ◌≤◌, length}
use Rattle.rb_sweep.specs.Sweep.{sweep}
use Rattle.rb_work.specs.Path.{path}
use Rattle.rb_constraint.specs.Rows.{parents_of, at_body, start_of}
use Rattle.rb_constraint.proofs.ways.way_from.Given as goal

abbrev pub invariant-loop-a : goal.invariant-loop-a
invariant-loop-a l = record {
  there : l.a ≤ length l.robot.bodies;
  rest : sweep (at_body l.robot.bodies l.work) (path (parents_of l.robot.bodies) l.a) l.way
      ≡ sweep (at_body l.robot.bodies l.work) (path (parents_of l.robot.bodies) l.i) (start_of l.force);
}

abbrev pub decreases-loop-a : goal.decreases-loop-a
decreases-loop-a l = l.a
