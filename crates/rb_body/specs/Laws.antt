-- What the rules of a body mean at fractions.
use Rattle.rb_frac.specs.Frac.{Same, fracs}
use Rattle.rb_frac.specs.Spatial.{BodyInertias}
use Rattle.rb_num.specs.Arith.{fractions}
use Rattle.rb_flat.specs.Turns.{roll_pitch_yaw}
use Rattle.rb_flat.specs.Body.{BodyChoice, chosen_inertia}
use Rattle.rb_body.specs.Inertia.{body}

-- the rule of a body gives what the body relation gives
abbrev pub BodyIsRelation : Type 0
BodyIsRelation =
    (c : BodyChoice) → BodyInertias Same (body fractions (roll_pitch_yaw fracs c.roll c.pitch c.yaw) c.mass c.centre c.six) (chosen_inertia c)
