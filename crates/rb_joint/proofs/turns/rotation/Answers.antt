use Rattle.std.proofs.Common.{rules}
use Rattle.rb_joint.specs.Turns.{rotation}
use Rattle.rb_num.proofs.Bridges.{to_intervals, ok_met}
use Rattle.rb_joint.proofs.Keep.{rotation_met}
use Rattle.rb_joint.proofs.turns.rotation.Goals as goal

pub returns-clause-encloses : goal.returns-clause-encloses
unfolding rotation
returns-clause-encloses c = record { at = λ a b d ha hb hd. ok_met (search rules) (rotation_met to_intervals ha hb hd) }
