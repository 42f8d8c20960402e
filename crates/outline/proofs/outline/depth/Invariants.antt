use Rattle.std.proofs.Common.{◌≡◌, ◌+◌, ◌≤◌}
use Rattle.outline.specs.Outline.{depth_of}
use Rattle.outline.proofs.outline.depth.Given as goal

abbrev pub invariant-loop-at : goal.invariant-loop-at
invariant-loop-at l = (l.depth + l.at ≤ l.i) × (depth_of l.robot.bodies l.i ≡ l.depth + depth_of l.robot.bodies l.at)

abbrev pub decreases-loop-at : goal.decreases-loop-at
decreases-loop-at l = l.at
