use Rattle.std.proofs.Common.{◌≡◌, ◌≤◌}
use Rattle.rb_sweep.specs.Sweep.{sweep}
use Rattle.rb_work.specs.Path.{path}
use Rattle.rb_mass.specs.Steps.{parents_of, way_step}
use Rattle.rb_mass.proofs.entries.on_the_way.Given as goal

abbrev pub invariant-loop-a : goal.invariant-loop-a
invariant-loop-a l = record {
  upward : l.a ≤ l.of.body;
  others : l.work ≡ record l.fn.work { H = l.work.H };
  rest : sweep (way_step l.robot.bodies l.of.body l.of.k) (path (parents_of l.robot.bodies) l.a) (record { force = l.force; work = l.work })
      ≡ sweep (way_step l.robot.bodies l.of.body l.of.k) (path (parents_of l.robot.bodies) l.of.body) (record { force = l.fn.start; work = l.fn.work });
}

abbrev pub decreases-loop-a : goal.decreases-loop-a
decreases-loop-a l = l.a
