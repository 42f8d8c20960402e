use Rattle.std.proofs.Common.{◌-◌, ◌^◌}
use Rattle.rb_srdf.proofs.LoopSearch.{IsSearched}
use Rattle.rb_srdf.proofs.reached.reached.Given as goal

abbrev pub invariant-loop-next : goal.invariant-loop-next
invariant-loop-next l = IsSearched l.rows l.from l.found.keys l.next

abbrev pub decreases-loop-next : goal.decreases-loop-next
decreases-loop-next l = 2 ^ 64 - l.next
