use Rattle.std.proofs.Common.{◌≡◌, ◌+◌, length}
use Rattle.rb_sweep.specs.Sweep.{sweep, upward}
use Rattle.rb_tree.specs.Steps.{place_step, places_of}
use Rattle.rb_tree.proofs.places.sweep_places.Given as goal

abbrev pub invariant-loop-i : goal.invariant-loop-i
invariant-loop-i l = record {
  others : l.work ≡ record l.fn.work { q = l.work.q; X = l.work.X };
  rest : sweep (place_step l.robot l.state) (upward l.i (length l.robot.bodies + 1)) l.work ≡ places_of l.robot l.state l.fn.work;
}
