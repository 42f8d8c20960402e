use Rattle.std.proofs.Common.{rules}
use Rattle.rb_spatial.specs.Inertias.{sum}
use Rattle.rb_num.proofs.Bridges.{to_intervals, ok_met}
use Rattle.rb_spatial.proofs.Keep.{sum_met}
use Rattle.rb_spatial.proofs.inertias.sum.Goals as goal

pub returns-clause-encloses : goal.returns-clause-encloses
unfolding sum
returns-clause-encloses c = record { at = λ p q hp hq. ok_met (search rules) (sum_met to_intervals hp hq) }
