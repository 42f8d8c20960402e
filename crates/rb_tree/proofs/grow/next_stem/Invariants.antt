use Rattle.std.proofs.Common.{length}
use Rattle.rb_tree.specs.Grow.{parent_link, child_link, link_of, parent_of}
use Rattle.rb_tree.proofs.Placing.{IsAbove}
use Rattle.rb_tree.proofs.grow.next_stem.Given as goal

abbrev pub invariant-loop-body : goal.invariant-loop-body
invariant-loop-body l = IsAbove (length l.joints) (parent_link l.joints) (child_link l.joints) (length l.stems) (link_of l.stems) (parent_of l.stems) l.body

abbrev pub decreases-loop-body : goal.decreases-loop-body
decreases-loop-body l = l.body
