use Rattle.std.proofs.Common.{rules}
use Rattle.rb_joint.specs.Turns.{turn_of}
use Rattle.rb_num.proofs.Bridges.{to_intervals, ok_met}
use Rattle.rb_joint.proofs.Keep.{turn_of_met}
use Rattle.rb_joint.proofs.turns.turn_of.Goals as goal

pub returns-clause-encloses : goal.returns-clause-encloses
unfolding turn_of
returns-clause-encloses c = record { at = λ q hq. ok_met (search rules) (turn_of_met to_intervals hq) }
