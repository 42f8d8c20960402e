-- Frames from an origin and three angles, and what it is for one to enclose the joint relation. URDF `origin`.
use Rattle.std.specs.Prelude.{Result, Ok}
use Rattle.rb_frac.specs.Ops.{V3}
use Rattle.rb_frac.specs.Tables.{Vectors}
use Rattle.rb_frac.specs.Spatial.{Frame, Frames, SineCosine}
use Rattle.rb_num.specs.Interval.{Interval}
use Rattle.rb_num.specs.Fraction.{LiesIn}
use Rattle.rb_num.specs.Arith.{intervals}
use Rattle.rb_result.specs.Steps.{◌>>=◌, told_as}
use Rattle.rb_trig.specs.Sine.{IsAngle, sin_cos_of}
use Rattle.rb_flat.specs.Joint.{JointChoice, HasAngles, chosen_frame}
use Rattle.rb_joint.specs.declared.faults.JointFault.{JointFault}
use Rattle.rb_joint.specs.declared.faults.JointFault.TheVariants.{Range, Size}
use Rattle.rb_joint.specs.Turns.{rotation}

-- the sine and cosine of an angle
unfoldable pub sine_cosine_of : Interval → Result (SineCosine Interval) JointFault
sine_cosine_of x = told_as (λ _. Range) (sin_cos_of x) >>= λ p. Ok (record { sin = p.0; cos = p.1 })

-- the frame with this origin, turned by roll, pitch and yaw
unfoldable pub frame_by : V3 Interval → V3 Interval → Result (Frame Interval) JointFault
frame_by xyz rpy =
    sine_cosine_of rpy.x >>= λ roll.
    sine_cosine_of rpy.y >>= λ pitch.
    sine_cosine_of rpy.z >>= λ yaw.
    told_as (λ _. Size) (rotation intervals roll pitch yaw) >>= λ r.
    Ok (record { rot = r; at = xyz })

-- three angles that have a sine and a cosine
pub record AreAngles (rpy : V3 Interval) : Type 0 where
  pub roll : IsAngle rpy.x
  pub pitch : IsAngle rpy.y
  pub yaw : IsAngle rpy.z

-- the frame of the choice lies in f
pub record HasFrame (f : Frame Interval) (c : JointChoice) : Type 0 where
  pub frame : Frames LiesIn (chosen_frame c) f

-- the frame of each choice with its origin in xyz and its angles in rpy lies in f
pub record EnclosesFrame (xyz rpy : V3 Interval) (f : Frame Interval) : Type 0 where
  pub at : (c : JointChoice) → HasAngles c.rpy c.roll c.pitch c.yaw → Vectors LiesIn c.origin xyz → Vectors LiesIn c.rpy rpy → HasFrame f c
