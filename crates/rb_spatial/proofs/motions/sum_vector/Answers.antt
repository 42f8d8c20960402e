use Rattle.std.proofs.Common.{rules}
use Rattle.rb_spatial.specs.Motions.{sum_vector}
use Rattle.rb_num.proofs.Bridges.{to_intervals, ok_met}
use Rattle.rb_spatial.proofs.Keep.{sum_vector_met}
use Rattle.rb_spatial.proofs.motions.sum_vector.Goals as goal

pub returns-clause-encloses : goal.returns-clause-encloses
unfolding sum_vector
returns-clause-encloses c = record { at = λ p q hp hq. ok_met (search rules) (sum_vector_met to_intervals hp hq) }
