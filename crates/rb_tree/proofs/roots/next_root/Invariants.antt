use Rattle.std.proofs.Common.{ℕ, ◌<◌, ◌≤◌}
use Rattle.rb_tree.specs.Roots.{IsChild}
use Rattle.rb_tree.proofs.roots.next_root.Given as goal

abbrev pub invariant-loop-link : goal.invariant-loop-link
invariant-loop-link l = (link : ℕ) → l.from ≤ link → link < l.link → IsChild l.joints link
