use Rattle.std.proofs.Common.{◌≡◌, ◌<◌, ℕ}
use Rattle.rb_tree.specs.Grow.{parent_link, child_link, HasLink}
use Rattle.rb_tree.proofs.grow.free_joint.Given as goal

abbrev pub invariant-loop-number : goal.invariant-loop-number
invariant-loop-number l = (j : ℕ) → j < l.number → parent_link l.joints j ≡ l.link → HasLink l.stems (child_link l.joints j)
