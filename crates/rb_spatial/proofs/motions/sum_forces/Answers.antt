use Rattle.std.proofs.Common.{rules}
use Rattle.rb_spatial.specs.Motions.{sum_spatial}
use Rattle.rb_num.proofs.Bridges.{to_intervals, ok_met}
use Rattle.rb_spatial.proofs.Keep.{sum_spatial_met}
use Rattle.rb_spatial.proofs.motions.sum_forces.Goals as goal

pub returns-clause-encloses : goal.returns-clause-encloses
unfolding sum_spatial
returns-clause-encloses c = record { at = λ p q hp hq. ok_met (search rules) (sum_spatial_met to_intervals hp hq) }
