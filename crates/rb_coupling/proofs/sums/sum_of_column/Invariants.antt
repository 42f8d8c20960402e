use Rattle.std.proofs.Common.{◌≡◌, ◌-◌, length, take}
use Rattle.rb_factor.specs.Sweeps.{number_at}
use Rattle.rb_coupling.specs.Steps.{pairs_of}
use Rattle.rb_coupling.specs.Sweeps.{cell_at}
use Rattle.rb_coupling.proofs.sums.sum_of_column.Given as goal

abbrev pub invariant-loop-r : goal.invariant-loop-r
invariant-loop-r l = record {
  room : length l.pairs ≡ length l.fn.pairs;
  done : take (l.r - 1) l.pairs ≡ pairs_of (λ r. cell_at (length l.work.up) l.work.Y r l.c) (number_at l.work.lam) (l.r - 1);
}
