use Rattle.std.proofs.Common.{◌≡◌}
use Rattle.rb_work.specs.Path.{packed_end, AreUpTo}
use Rattle.rb_work.proofs.steps.ends_of.Given as goal

abbrev pub invariant-loop-c : goal.invariant-loop-c
invariant-loop-c l = record {
  end : l.end ≡ packed_end l.up l.c;
  ends : AreUpTo l.c (packed_end l.up) l.ends.items;
}
