use Rattle.std.proofs.Common.{ℕ, ◌<◌}
use Rattle.rb_tree.specs.Grow.{HasLink}
use Rattle.rb_tree.proofs.grow.first_apart.Given as goal

abbrev pub invariant-loop-link : goal.invariant-loop-link
invariant-loop-link l = (link : ℕ) → link < l.link → HasLink l.stems link
