use Rattle.std.proofs.Common.{rules}
use Rattle.rb_joint.specs.Places.{outside}
use Rattle.rb_num.proofs.Bridges.{to_intervals, ok_met}
use Rattle.rb_joint.proofs.Keep.{outside_met}
use Rattle.rb_joint.proofs.places.outside.Goals as goal

pub returns-clause-encloses : goal.returns-clause-encloses
unfolding outside
returns-clause-encloses c = record { at = λ f p hf hp. ok_met (search rules) (outside_met to_intervals hf hp) }
