use Rattle.std.proofs.Common.{◌≤◌, ◌↔◌, length}
use Rattle.rb_tree.specs.Groups.{IsAtOrAbove}
use Rattle.rb_tree.proofs.groups.is_above.Given as goal

abbrev pub invariant-loop-body : goal.invariant-loop-body
invariant-loop-body l = record {
  there : l.body ≤ length l.bodies;
  same : IsAtOrAbove l.bodies l.above l.body ↔ IsAtOrAbove l.bodies l.above l.fn.body;
}

abbrev pub decreases-loop-body : goal.decreases-loop-body
decreases-loop-body l = l.body
