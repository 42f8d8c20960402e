use Rattle.std.proofs.Common.{rules}
use Rattle.rb_joint.specs.Turns.{axis_products}
use Rattle.rb_num.proofs.Bridges.{to_intervals, ok_met}
use Rattle.rb_joint.proofs.Keep.{axis_products_met}
use Rattle.rb_joint.proofs.turns.axis_products.Goals as goal

pub returns-clause-encloses : goal.returns-clause-encloses
unfolding axis_products
returns-clause-encloses c = record { at = λ a ha. ok_met (search rules) (axis_products_met to_intervals ha) }
