use Rattle.std.proofs.Common.{◌≡◌, ◌-◌, length, take}
use Rattle.rb_factor.specs.Sweeps.{number_at}
use Rattle.rb_num.specs.declared.interval.TheConstants.{MAX_PAIRS}
use Rattle.rb_coupling.specs.Steps.{pairs_of}
use Rattle.rb_coupling.specs.Sweeps.{cell_at}
use Rattle.rb_coupling.proofs.sums.sum_of_row.Given as goal

abbrev pub invariant-loop-c : goal.invariant-loop-c
invariant-loop-c l = record {
  room : length l.pairs ≡ MAX_PAIRS;
  done : take (l.c - 1) l.pairs ≡ pairs_of (cell_at (length l.work.up) l.work.Y l.r) (number_at l.work.z) (l.c - 1);
}
