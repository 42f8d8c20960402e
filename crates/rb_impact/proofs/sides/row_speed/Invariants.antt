use Rattle.std.proofs.Common.{◌≡◌, ◌-◌, length, take}
use Rattle.rb_work.specs.View.{J_at}
use Rattle.rb_coupling.specs.Steps.{pairs_of}
use Rattle.rb_impact.specs.Sides.{speed_before}
use Rattle.rb_impact.proofs.sides.row_speed.Given as goal

abbrev pub invariant-loop-c : goal.invariant-loop-c
invariant-loop-c l = record {
  long : length l.pairs ≡ 64;
  done : take (l.c - 1) l.pairs ≡ pairs_of (J_at l.work l.r) (speed_before l.state) (l.c - 1);
}
