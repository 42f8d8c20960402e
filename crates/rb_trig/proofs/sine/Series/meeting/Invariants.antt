use Rattle.std.proofs.Common.{◌+◌, ◌≤◌}
use Rattle.rb_num.specs.declared.terms.TheConstants.{TERMS}
use Rattle.rb_trig.specs.Short.{ShortNested}
use Rattle.rb_trig.proofs.sine.Series.meeting.Given as goal

abbrev pub invariant-loop-k : goal.invariant-loop-k
invariant-loop-k l = record {
  few : ShortNested l.fn.self l.fn.square TERMS l.k l.few_lo l.few_hi;
  more : ShortNested l.fn.self l.fn.square (TERMS + 1) l.k l.lo l.hi;
  few_ordered : l.few_lo ≤ l.few_hi;
  ordered : l.lo ≤ l.hi;
}
