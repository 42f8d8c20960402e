-- The body relation: the inertia that a choice of numbers gives a body. Featherstone, Rigid Body Dynamics Algorithms, chapter 2; the numbers
-- as in URDF.
use Rattle.rb_frac.specs.Ops.{V3}
use Rattle.rb_frac.specs.Frac.{Frac, fracs}
use Rattle.rb_frac.specs.Tables.{Table, Symmetric, full, upper, congruent}
use Rattle.rb_frac.specs.Spatial.{SineCosine, BodyInertia}
use Rattle.rb_frac.specs.Mechanics.{body_of}
use Rattle.rb_flat.specs.Turns.{roll_pitch_yaw}
use Rattle.rb_flat.specs.Joint.{HasAngles}

-- mass, centre, the angles of the inertial frame with their sines and cosines, and the six numbers in that frame
pub record BodyChoice : Type 0 where
  pub mass : Frac
  pub centre : V3 Frac
  pub rpy : V3 Frac
  pub roll : SineCosine Frac
  pub pitch : SineCosine Frac
  pub yaw : SineCosine Frac
  pub six : Symmetric Frac

abbrev pub IsBodyChoice : BodyChoice → Type 0
IsBodyChoice c = HasAngles c.rpy c.roll c.pitch c.yaw

-- Ic = R J R^T, about the centre
unfoldable pub about_centre : BodyChoice → Table Frac
about_centre c = congruent fracs (roll_pitch_yaw fracs c.roll c.pitch c.yaw) (full c.six)

-- the mass m, the first moment m c, and the inertia about the body's origin, Ic + m (c.c 1 - c c^T)
unfoldable pub chosen_inertia : BodyChoice → BodyInertia Frac
chosen_inertia c = body_of fracs c.mass c.centre (upper (about_centre c))
