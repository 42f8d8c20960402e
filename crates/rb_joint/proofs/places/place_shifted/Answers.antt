use Rattle.std.proofs.Common.{rules}
use Rattle.rb_joint.specs.Places.{place_shifted}
use Rattle.rb_num.proofs.Bridges.{to_intervals, ok_met}
use Rattle.rb_joint.proofs.Keep.{place_shifted_met}
use Rattle.rb_joint.proofs.places.place_shifted.Goals as goal

pub returns-clause-encloses : goal.returns-clause-encloses
unfolding place_shifted
returns-clause-encloses c = record { at = λ f p hf hp. ok_met (search rules) (place_shifted_met to_intervals hf hp) }
