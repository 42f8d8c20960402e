use Rattle.rb_srdf.proofs.LoopCounts.{AreCounted}
use Rattle.rb_srdf.proofs.reached.reach_counts.Given as goal

abbrev pub invariant-loop-k : goal.invariant-loop-k
invariant-loop-k l = AreCounted l.rows l.k l.counts.items
