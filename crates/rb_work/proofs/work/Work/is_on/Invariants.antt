use Rattle.std.proofs.Common.{◌≡◌, ◌≤◌, ◌-◌, length}
use Rattle.rb_work.specs.Path.{is_on}
use Rattle.rb_work.proofs.work.Work.is_on.Given as goal

abbrev pub invariant-loop-at : goal.invariant-loop-at
invariant-loop-at l = record {
  to : l.at ≤ length l.self.up;
  same : is_on l.self.up l.at l.d ≡ is_on l.self.up l.c l.d;
}

abbrev pub decreases-loop-at : goal.decreases-loop-at
decreases-loop-at l = l.at - l.d
