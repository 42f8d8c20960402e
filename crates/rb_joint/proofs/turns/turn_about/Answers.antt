use Rattle.std.proofs.Common.{rules}
use Rattle.rb_joint.specs.Turns.{turn_about}
use Rattle.rb_num.proofs.Bridges.{to_intervals, ok_met}
use Rattle.rb_joint.proofs.Keep.{turn_about_met}
use Rattle.rb_joint.proofs.turns.turn_about.Goals as goal

pub returns-clause-encloses : goal.returns-clause-encloses
unfolding turn_about
returns-clause-encloses c = record { at = λ a p t ha hp ht. ok_met (search rules) (turn_about_met to_intervals ha hp ht) }
