-- The model that a joint's brackets give, or the first refusal. URDF `joint`; Featherstone, Rigid Body Dynamics Algorithms, chapter 4.
use Rattle.std.specs.Prelude.{◌≡◌, ℕ, Result, Ok, Err, IsOk, List}
use Rattle.std.specs.List.{AllZip}
use Rattle.rb_frac.specs.Ops.{V3}
use Rattle.rb_frac.specs.Spatial.{Frame, Place, Places, Motions}
use Rattle.rb_num.specs.Interval.{Interval, zero_interval}
use Rattle.rb_num.specs.Fraction.{LiesIn}
use Rattle.rb_num.specs.Arith.{intervals}
use Rattle.rb_num.specs.Quotient.{HasZero}
use Rattle.rb_result.specs.Steps.{◌>>=◌, told_as}
use Rattle.rb_spatial.specs.Vectors.{vector_of}
use Rattle.rb_spatial.specs.Motions.{multiple}
use Rattle.rb_trig.specs.Axis.{AxisFits, MakesUnit, squared_length, unit_scale_of}
use Rattle.rb_flat.specs.Joint.{JointChoice, chosen_place, chosen_column}
use Rattle.rb_flat.specs.Choice.{JointChosen}
use Rattle.rb_joint.specs.declared.any.AnyJoint.{AnyJoint}
use Rattle.rb_joint.specs.declared.any.AnyJoint.TheVariants as Variant
use Rattle.rb_joint.specs.Frames.{frame_by}
use Rattle.rb_joint.specs.Models.{Axial, axial_by}
use Rattle.rb_joint.specs.Any as Model
use Rattle.rb_urdf.specs.declared.robot.UrdfKind.{UrdfKind}
use Rattle.rb_urdf.specs.declared.robot.UrdfKind.TheVariants.{Fixed, Revolute, Prismatic, Continuous, Planar, Floating}
use Rattle.rb_urdf.specs.Numbers.{zeros}
use Rattle.rb_body.specs.declared.faults.BodyFault.{BodyFault}
use Rattle.rb_body.specs.declared.raw.JointRaw.{JointRaw}
use Rattle.rb_body.specs.Faults.{of_frame, of_axis, of_number}
use Rattle.rb_body.specs.Raw.{kind_of, HasAxis, joint_brackets}

-- the factor of the axis, and the axis taken times it
unfoldable pub axis_by : V3 Interval → Result (Interval × V3 Interval) BodyFault
axis_by v =
    told_as of_axis (unit_scale_of v.x v.y v.z) >>= λ k. told_as of_number (multiple intervals k v) >>= λ a. Ok (k, a)

-- a model, and the numbers that it is made of
abbrev pub Answer : Type 0
Answer = Result (AnyJoint × JointRaw) BodyFault

abbrev pub raw : UrdfKind → List Interval → List Interval → List Interval → Interval → JointRaw
raw kind xyz rpy axis k = record { kind = kind; xyz = xyz; rpy = rpy; axis = axis; factor = k }

-- of a kind without an axis
unfoldable pub plain_by : UrdfKind → AnyJoint → List Interval → List Interval → AnyJoint × JointRaw
plain_by kind m xyz rpy = (m, raw kind xyz rpy zeros zero_interval)

-- of a hinge, which may have an angle or its cosine and sine
abbrev pub hinge : UrdfKind → Axial → AnyJoint
hinge Continuous m = Variant.Continuous m
hinge _ m = Variant.Revolute m

unfoldable pub hinge_model : UrdfKind → Frame Interval → V3 Interval → Result AnyJoint BodyFault
hinge_model kind f a = told_as of_number (axial_by f a) >>= λ m. Ok (hinge kind m)

unfoldable pub hinge_by : UrdfKind → Frame Interval → List Interval → List Interval → List Interval → Answer
hinge_by kind f xyz rpy axis =
    axis_by (vector_of axis) >>= λ a. hinge_model kind f a.1 >>= λ m. Ok (m, raw kind xyz rpy axis a.0)

unfoldable pub slider_by : Frame Interval → List Interval → List Interval → List Interval → Answer
slider_by f xyz rpy axis =
    axis_by (vector_of axis) >>= λ a. Ok (Variant.Prismatic (record { frame = f; axis = a.1 }), raw Prismatic xyz rpy axis a.0)

-- in the frame
abbrev pub joint_in : UrdfKind → Frame Interval → List Interval → List Interval → List Interval → Answer
joint_in Fixed f xyz rpy axis = Ok (plain_by Fixed (Variant.Fixed (record { frame = f })) xyz rpy)
joint_in Revolute f xyz rpy axis = hinge_by Revolute f xyz rpy axis
joint_in Prismatic f xyz rpy axis = slider_by f xyz rpy axis
joint_in Continuous f xyz rpy axis = hinge_by Continuous f xyz rpy axis
joint_in Planar f xyz rpy axis = Ok (plain_by Planar (Variant.Planar (record { frame = f })) xyz rpy)
joint_in Floating f xyz rpy axis = Ok (plain_by Floating (Variant.Free (record { frame = f })) xyz rpy)

unfoldable pub joint_by : UrdfKind → List Interval → List Interval → List Interval → Answer
joint_by kind xyz rpy axis =
    told_as of_frame (frame_by (vector_of xyz) (vector_of rpy)) >>= λ f. joint_in kind f xyz rpy axis

-- the frame is not refused, and the joint needs an axis, which may be zero
pub record IsZeroAxis (kind : UrdfKind) (xyz rpy axis : V3 Interval) : Type 0 where
  pub frame : IsOk (frame_by xyz rpy)
  pub needed : HasAxis kind
  pub fits : AxisFits axis.x axis.y axis.z
  pub zero : HasZero (squared_length axis.x axis.y axis.z)

-- the kind, the origin, the angles and the axis are those given, with a factor that makes the axis one unit long; without an axis both are
-- zero
pub record HasNumbers (k : UrdfKind) (xyz rpy a : List Interval) (j : JointRaw) : Type 0 where
  pub kind : j.kind ≡ k
  pub origin : j.xyz ≡ xyz
  pub angles : j.rpy ≡ rpy
  pub axis : HasAxis k → j.axis ≡ a
  pub unit : HasAxis k → MakesUnit (vector_of a).x (vector_of a).y (vector_of a).z j.factor
  pub zero : ¬ HasAxis k → (j.axis ≡ zeros) × (j.factor ≡ zero_interval)

-- the model is of the kind of the joint, and has the frame and the axis of each choice of the joint: so its place and its columns enclose
-- those of the joint relation
pub record EnclosesJoint (m : AnyJoint) (j : JointRaw) : Type 0 where
  pub kind : Model.kind_of m ≡ kind_of j.kind
  pub choice : (c : JointChoice) → JointChosen (kind_of j.kind) c (joint_brackets j) → Model.IsOfModel m c
  pub place : (c : JointChoice) (q : List Interval) (p : Place Interval) → JointChosen (kind_of j.kind) c (joint_brackets j) → AllZip LiesIn c.entries q → Model.any_place m q ≡ Ok p → Places LiesIn (chosen_place (kind_of j.kind) c) p
  pub column : (c : JointChoice) (k : ℕ) → JointChosen (kind_of j.kind) c (joint_brackets j) → Motions LiesIn (chosen_column (kind_of j.kind) c k) (Model.any_column m k)
