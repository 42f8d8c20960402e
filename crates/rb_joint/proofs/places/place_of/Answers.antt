use Rattle.std.proofs.Common.{rules}
use Rattle.rb_joint.specs.Places.{place_of}
use Rattle.rb_num.proofs.Bridges.{to_intervals, ok_met}
use Rattle.rb_joint.proofs.Keep.{place_of_met}
use Rattle.rb_joint.proofs.places.place_of.Goals as goal

pub returns-clause-encloses : goal.returns-clause-encloses
unfolding place_of
returns-clause-encloses c = record { at = λ f t p hf ht hp. ok_met (search rules) (place_of_met to_intervals hf ht hp) }
