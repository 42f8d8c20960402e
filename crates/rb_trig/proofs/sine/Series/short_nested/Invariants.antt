use Rattle.rb_trig.specs.Short.{ShortNested}
use Rattle.rb_trig.proofs.sine.Series.short_nested.Given as goal

abbrev pub invariant-loop-k : goal.invariant-loop-k
invariant-loop-k l = ShortNested l.fn.self l.fn.square l.fn.terms l.k l.lo l.hi
