-- What the rules of joints mean at fractions.
use Rattle.rb_frac.specs.Ops.{signs, V3}
use Rattle.rb_frac.specs.Frac.{Frac, Same, fracs}
use Rattle.rb_frac.specs.Tables.{Table, Tables, identity}
use Rattle.rb_frac.specs.Spatial.{Frame, SineCosine, Quaternion, Places}
use Rattle.rb_num.specs.Arith.{fractions}
use Rattle.rb_flat.specs.Turns.{roll_pitch_yaw, about_axis, about_quaternion, placed}
use Rattle.rb_joint.specs.Turns.{rotation, axis_products, turn_about, turn_of}
use Rattle.rb_joint.specs.Places.{place_of, place_shifted}

abbrev pub RotationIsProduct : Type 0
RotationIsProduct =
    (roll pitch yaw : SineCosine Frac) → Tables Same (rotation fractions roll pitch yaw) (roll_pitch_yaw fracs roll pitch yaw)

abbrev pub TurnIsAboutAxis : Type 0
TurnIsAboutAxis =
    (a : V3 Frac) (t : SineCosine Frac) → Tables Same (turn_about fractions a (axis_products fractions a) t) (about_axis fracs a t)

abbrev pub TurnIsAboutQuaternion : Type 0
TurnIsAboutQuaternion = (q : Quaternion Frac) → Tables Same (turn_of fractions q) (about_quaternion fracs q)

abbrev pub PlaceIsProduct : Type 0
PlaceIsProduct =
    (f : Frame Frac) (turn : Table Frac) (p : V3 Frac) → Places Same (place_of fractions f turn p) (placed fracs f turn p)

abbrev pub ShiftedPlaceTurnsNot : Type 0
ShiftedPlaceTurnsNot =
    (f : Frame Frac) (p : V3 Frac) → Places Same (place_shifted fractions f p) (placed fracs f (identity (signs fracs)) p)
