use Rattle.rb_work.specs.Path.{depth, AreUpTo}
use Rattle.rb_work.proofs.steps.depths_of.Given as goal

abbrev pub invariant-loop-above : goal.invariant-loop-above
invariant-loop-above l = AreUpTo l.above-index (depth l.up) l.depths.items
