use Rattle.rb_trig.proofs.Nested.{PartlyNested}
use Rattle.rb_trig.proofs.sine.Series.nested.Given as goal

abbrev pub invariant-loop-k : goal.invariant-loop-k
invariant-loop-k l = PartlyNested l.self l.square l.terms l.k l.sum
