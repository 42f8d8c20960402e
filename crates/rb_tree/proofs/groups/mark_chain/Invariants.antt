use Rattle.std.proofs.Common.{◌≤◌, ◌<◌, length}
use Rattle.rb_tree.specs.Groups.{IsAtOrAbove}
use Rattle.rb_tree.specs.GroupMarks.{Adds}
use Rattle.rb_tree.proofs.groups.mark_chain.Given as goal

abbrev pub invariant-loop-body : goal.invariant-loop-body
invariant-loop-body l = record {
  there : l.body ≤ length l.bodies;
  above : IsAtOrAbove l.bodies l.base l.body;
  on_way : IsAtOrAbove l.bodies l.body l.tip;
  passed : Adds (λ i. (l.body < i) × IsAtOrAbove l.bodies i l.tip) l.initial.marks l.marks;
}

abbrev pub decreases-loop-body : goal.decreases-loop-body
decreases-loop-body l = l.body
