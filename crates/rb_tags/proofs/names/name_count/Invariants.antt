use Rattle.std.proofs.Common.{length}
use Rattle.rb_tags.proofs.Distinct.{NamesSoFar}
use Rattle.rb_tags.proofs.names.name_count.Given as goal

abbrev pub invariant-loop-rest : goal.invariant-loop-rest
invariant-loop-rest l = NamesSoFar l.attrs l.rest l.names

abbrev pub decreases-loop-rest : goal.decreases-loop-rest
decreases-loop-rest l = length l.rest
