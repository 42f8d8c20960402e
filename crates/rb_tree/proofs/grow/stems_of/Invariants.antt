use Rattle.std.proofs.Common.{◌-◌, length}
use Rattle.rb_tree.specs.Grow.{IsGrown}
use Rattle.rb_tree.proofs.grow.stems_of.Given as goal

abbrev pub invariant-loop-stem : goal.invariant-loop-stem
invariant-loop-stem l = IsGrown l.joints l.links l.root l.stems.items

abbrev pub decreases-loop-stem : goal.decreases-loop-stem
decreases-loop-stem l = l.links - length l.stems.items
