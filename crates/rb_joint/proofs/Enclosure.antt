-- A call that answers as its rule over intervals encloses the rule at fractions.
use Rattle.std.proofs.Common.{◌≡◌}
use Rattle.rb_frac.specs.Tables.{Table}
use Rattle.rb_frac.specs.Spatial.{SineCosine}
use Rattle.rb_num.specs.Interval.{Interval}
use Rattle.rb_num.specs.Arith.{intervals, signs_of}
use Rattle.rb_num.proofs.Bridges.{to_intervals}
use Rattle.rb_flat.specs.Turns.{about_z}
use Rattle.rb_joint.specs.Turns.{EnclosesTurnLevel}
use Rattle.rb_joint.proofs.Keep.{turn_level_rel}

pub turn_level_encloses : (t : SineCosine Interval) (r : Table Interval) → r ≡ about_z (signs_of intervals) t → EnclosesTurnLevel t r
turn_level_encloses t r e = record { at = λ p hp. rw e (turn_level_rel to_intervals hp) }
