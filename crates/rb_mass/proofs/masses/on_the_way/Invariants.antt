use Rattle.std.proofs.Common.{◌≡◌, ◌≤◌}
use Rattle.rb_sweep.specs.Sweep.{sweep}
use Rattle.rb_work.specs.Path.{path}
use Rattle.rb_mass.specs.Steps.{parents_of}
use Rattle.rb_mass.specs.Table.{add_body}
use Rattle.rb_mass.proofs.masses.on_the_way.Given as goal

abbrev pub invariant-loop-a : goal.invariant-loop-a
invariant-loop-a l = record {
  upward : l.a ≤ l.of.body;
  rest : sweep (add_body l.robot.bodies l.work l.sought.c l.sought.d l.of.body l.of.k) (path (parents_of l.robot.bodies) l.a) l.sum
      ≡ sweep (add_body l.robot.bodies l.work l.sought.c l.sought.d l.of.body l.of.k) (path (parents_of l.robot.bodies) l.of.body) l.fn.start;
}

abbrev pub decreases-loop-a : goal.decreases-loop-a
decreases-loop-a l = l.a
