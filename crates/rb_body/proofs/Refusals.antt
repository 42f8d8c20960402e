-- Which faults the constants of a body are refused with.
use Rattle.std.proofs.Common.{◌≡◌, ◌↔◌, Result, Ok, Err, List, refl}
use Rattle.std.specs.Result.{IsOk}
use Rattle.rb_frac.specs.Ops.{V3}
use Rattle.rb_num.specs.declared.interval.NumFault.{NumFault}
use Rattle.rb_num.specs.Interval.{Interval}
use Rattle.rb_num.specs.Arith.{intervals}
use Rattle.rb_num.specs.Quotient.{HasZero}
use Rattle.rb_frac.specs.Spatial.{Frame, BodyInertia}
use Rattle.rb_spatial.specs.Vectors.{vector_of}
use Rattle.rb_trig.specs.declared.axis.AxisFault.{AxisFault}
use Rattle.rb_trig.specs.declared.axis.AxisFault.TheVariants as Axis
use Rattle.rb_trig.specs.Axis.{AxisFits, squared_length, unit_scale_of}
use Rattle.rb_trig.proofs.Factor.{zeros}
use Rattle.rb_flat.specs.Choice.{LinkBrackets}
use Rattle.rb_joint.specs.declared.any.AnyJoint.{AnyJoint}
use Rattle.rb_joint.specs.declared.faults.JointFault.{JointFault}
use Rattle.rb_joint.specs.declared.faults.JointFault.TheVariants as Frame
use Rattle.rb_joint.specs.Frames.{AreAngles, frame_by}
use Rattle.rb_joint.specs.Models.{Axial, axial_by}
use Rattle.rb_joint.proofs.Ranges.{frame_range}
use Rattle.rb_body.specs.declared.faults.BodyFault.{BodyFault}
use Rattle.rb_body.specs.declared.faults.BodyFault.TheVariants.{AngleRange, ZeroAxis, Size}
use Rattle.rb_urdf.specs.declared.robot.UrdfKind.{UrdfKind}
use Rattle.rb_urdf.specs.declared.robot.UrdfKind.TheVariants.{Fixed, Revolute, Prismatic, Continuous, Planar, Floating}
use Rattle.rb_body.specs.declared.raw.JointRaw.{JointRaw}
use Rattle.rb_body.specs.Faults.{of_frame, of_axis, of_number}
use Rattle.rb_result.specs.Steps.{◌>>=◌, told_as}
use Rattle.rb_body.specs.Raw.{HasAxis}
use Rattle.rb_spatial.specs.Motions.{multiple}
use Rattle.rb_body.specs.Inertia.{body, inertia_by}
use Rattle.rb_body.specs.Joint.{axis_by, hinge, hinge_model, hinge_by, slider_by, joint_in, joint_by, IsZeroAxis}

-- ---- steps
-- a step of numbers is refused with `Size` alone
sized : {A : Type 0} (r : Result A NumFault) (e : BodyFault) → told_as of_number r ≡ Err e → e ≡ Size
sized (Ok x) e h = cc
sized (Err d) e h = cc

-- two steps are refused as the first is, where the second is never refused so
next_refused : {A B : Type 0} (e : BodyFault) (r : Result A BodyFault) (g : A → Result B BodyFault) → ((x : A) → g x ≡ Err e → ⊥) → ((r >>= g) ≡ Err e) ↔ (r ≡ Err e)
next_refused e (Ok x) g h = (λ k. absurd (h x k), λ k. cc)
next_refused e (Err d) g h = (λ k. cc, λ k. cc)

-- ---- frames
framed_range : {B : Type 0} (N : Type 0) (r : Result (Frame Interval) JointFault) (g : Frame Interval → Result B BodyFault) → ((f : Frame Interval) → g f ≡ Err AngleRange → ⊥) → (r ≡ Err Frame.Range) ↔ N → ((told_as of_frame r >>= g) ≡ Err AngleRange) ↔ N
framed_range N (Ok f) g h i = (λ k. absurd (h f k), λ n. let e = i.1 n in cc)
framed_range N (Err Frame.Range) g h i = (λ k. i.0 refl, λ n. refl)
framed_range N (Err Frame.NotUnit) g h i = (λ k. cc, λ n. let e = i.1 n in cc)
framed_range N (Err Frame.Size) g h i = (λ k. cc, λ n. let e = i.1 n in cc)

framed_axis : {B : Type 0} (r : Result (Frame Interval) JointFault) (g : Frame Interval → Result B BodyFault) → (told_as of_frame r >>= g) ≡ Err ZeroAxis → (f : Frame Interval) × (r ≡ Ok f) × (g f ≡ Err ZeroAxis)
framed_axis (Ok f) g h = (f, refl, h)
framed_axis (Err Frame.Range) g h = cc
framed_axis (Err Frame.NotUnit) g h = cc
framed_axis (Err Frame.Size) g h = cc

-- ---- links
pub link_range : (l : LinkBrackets) (r : Result (BodyInertia Interval) BodyFault) → r ≡ inertia_by l → (r ≡ Err AngleRange) ↔ (¬ AreAngles l.rpy)
unfolding inertia_by
link_range l r e =
    rw e (framed_range _ (frame_by l.centre l.rpy) _ (λ f h. let s = sized (body intervals f.rot l.mass l.centre l.six) _ h in cc) (frame_range l.centre l.rpy _ refl))

pub link_axis : (l : LinkBrackets) (r : Result (BodyInertia Interval) BodyFault) → r ≡ inertia_by l → r ≡ Err ZeroAxis → ⊥
unfolding inertia_by
link_axis l r e h =
    let k = framed_axis (frame_by l.centre l.rpy) _ (rw e at h) in
    let s = sized (body intervals k.0.rot l.mass l.centre l.six) _ k.2 in
    cc

-- ---- axes
-- the second step of `axis_by`
abbrev times : Interval → Result (V3 Interval) NumFault → Result (Interval × V3 Interval) BodyFault
times k r = told_as of_number r >>= λ a. Ok (k, a)

times_sized : (k : Interval) (r : Result (V3 Interval) NumFault) (e : BodyFault) → times k r ≡ Err e → e ≡ Size
times_sized k (Ok a) e h = cc
times_sized k (Err d) e h = cc

axis_range : (v : V3 Interval) → axis_by v ≡ Err AngleRange → ⊥
unfolding axis_by
axis_range v h = go (unit_scale_of v.x v.y v.z) h
  where
    go : (r : Result Interval AxisFault) → (told_as of_axis r >>= λ k. times k (multiple intervals k v)) ≡ Err AngleRange → ⊥
    go (Ok k) h = let e = times_sized k (multiple intervals k v) AngleRange h in cc
    go (Err Axis.Size) h = cc
    go (Err Axis.ZeroAxis) h = cc

-- the axis may be zero, and is within the limit
abbrev MayBeZero : V3 Interval → Type 0
MayBeZero v = AxisFits v.x v.y v.z × HasZero (squared_length v.x v.y v.z)

axis_zero : (v : V3 Interval) → (axis_by v ≡ Err ZeroAxis) ↔ MayBeZero v
unfolding axis_by
axis_zero v = go (unit_scale_of v.x v.y v.z) (zeros v.x v.y v.z _ refl)
  where
    go : (r : Result Interval AxisFault) → (r ≡ Err Axis.ZeroAxis) ↔ MayBeZero v → ((told_as of_axis r >>= λ k. times k (multiple intervals k v)) ≡ Err ZeroAxis) ↔ MayBeZero v
    go (Ok k) i = (λ h. let e = times_sized k (multiple intervals k v) ZeroAxis h in cc, λ z. let e = i.1 z in cc)
    go (Err Axis.Size) i = (λ h. cc, λ z. let e = i.1 z in cc)
    go (Err Axis.ZeroAxis) i = (λ h. i.0 refl, λ z. refl)

-- ---- joints
abbrev Made : Type 0
Made = Result (AnyJoint × JointRaw) BodyFault

hinge_sized : (kind : UrdfKind) (f : Frame Interval) (a : V3 Interval) (e : BodyFault) → hinge_model kind f a ≡ Err e → e ≡ Size
unfolding hinge_model
hinge_sized kind f a e h = go (axial_by f a) h
  where
    go : (r : Result Axial NumFault) → (◌>>=◌ {B = AnyJoint} (told_as of_number r) (λ m. Ok (hinge kind m))) ≡ Err e → e ≡ Size
    go (Ok x) h = cc
    go (Err d) h = cc

-- a hinge or a slider is refused as its axis is, but for `Size`
hinge_refused : (kind : UrdfKind) (f : Frame Interval) (xyz rpy axis : List Interval) (e : BodyFault) → (e ≡ Size → ⊥) → (hinge_by kind f xyz rpy axis ≡ Err e) ↔ (axis_by (vector_of axis) ≡ Err e)
unfolding hinge_by
hinge_refused kind f xyz rpy axis e n = next_refused e (axis_by (vector_of axis)) _ (λ a h. n (hinge_sized kind f a.1 e (told_next (hinge_model kind f a.1) _ h)))
  where
    told_next : {A B : Type 0} (r : Result A BodyFault) (g : A → B) → (r >>= λ x. Ok (g x)) ≡ Err e → r ≡ Err e
    told_next (Ok x) g h = cc
    told_next (Err d) g h = cc

slider_refused : (f : Frame Interval) (xyz rpy axis : List Interval) (e : BodyFault) → (slider_by f xyz rpy axis ≡ Err e) ↔ (axis_by (vector_of axis) ≡ Err e)
unfolding slider_by
slider_refused f xyz rpy axis e = next_refused e (axis_by (vector_of axis)) _ (λ a h. cc)

no_range : (kind : UrdfKind) (f : Frame Interval) (xyz rpy axis : List Interval) → joint_in kind f xyz rpy axis ≡ Err AngleRange → ⊥
no_range Fixed f xyz rpy axis h = cc
no_range Revolute f xyz rpy axis h = axis_range _ ((hinge_refused Revolute f xyz rpy axis AngleRange (λ e. cc)).0 h)
no_range Prismatic f xyz rpy axis h = axis_range _ ((slider_refused f xyz rpy axis AngleRange).0 h)
no_range Continuous f xyz rpy axis h = axis_range _ ((hinge_refused Continuous f xyz rpy axis AngleRange (λ e. cc)).0 h)
no_range Planar f xyz rpy axis h = cc
no_range Floating f xyz rpy axis h = cc

pub joint_range : (kind : UrdfKind) (xyz rpy axis : List Interval) (r : Made) → r ≡ joint_by kind xyz rpy axis → (r ≡ Err AngleRange) ↔ (¬ AreAngles (vector_of rpy))
unfolding joint_by
joint_range kind xyz rpy axis r e =
    rw e (framed_range _ (frame_by (vector_of xyz) (vector_of rpy)) _ (λ f h. no_range kind f xyz rpy axis h) (frame_range (vector_of xyz) (vector_of rpy) _ refl))

in_zero : (kind : UrdfKind) (f : Frame Interval) (xyz rpy axis : List Interval) → (joint_in kind f xyz rpy axis ≡ Err ZeroAxis) ↔ (HasAxis kind × MayBeZero (vector_of axis))
in_zero Fixed f xyz rpy axis = (λ h. cc, λ z. absurd z.0)
in_zero Revolute f xyz rpy axis =
    let r = hinge_refused Revolute f xyz rpy axis ZeroAxis (λ e. cc) in
    (λ h. (tt, (axis_zero _).0 (r.0 h)), λ z. r.1 ((axis_zero _).1 z.1))
in_zero Prismatic f xyz rpy axis =
    let r = slider_refused f xyz rpy axis ZeroAxis in
    (λ h. (tt, (axis_zero _).0 (r.0 h)), λ z. r.1 ((axis_zero _).1 z.1))
in_zero Continuous f xyz rpy axis =
    let r = hinge_refused Continuous f xyz rpy axis ZeroAxis (λ e. cc) in
    (λ h. (tt, (axis_zero _).0 (r.0 h)), λ z. r.1 ((axis_zero _).1 z.1))
in_zero Planar f xyz rpy axis = (λ h. cc, λ z. absurd z.0)
in_zero Floating f xyz rpy axis = (λ h. cc, λ z. absurd z.0)

pub joint_zero : (kind : UrdfKind) (xyz rpy axis : List Interval) (r : Made) → r ≡ joint_by kind xyz rpy axis → (r ≡ Err ZeroAxis) ↔ IsZeroAxis kind (vector_of xyz) (vector_of rpy) (vector_of axis)
unfolding joint_by
joint_zero kind xyz rpy axis r e = rw e (to, from)
  where
    to : (told_as of_frame (frame_by (vector_of xyz) (vector_of rpy)) >>= λ f. joint_in kind f xyz rpy axis) ≡ Err ZeroAxis → IsZeroAxis kind (vector_of xyz) (vector_of rpy) (vector_of axis)
    to h =
        let k = framed_axis (frame_by (vector_of xyz) (vector_of rpy)) _ h in
        let z = (in_zero kind k.0 xyz rpy axis).0 k.2 in
        record { frame = rw k.1 refl; needed = z.0; fits = z.1.0; zero = z.1.1 }

    from : IsZeroAxis kind (vector_of xyz) (vector_of rpy) (vector_of axis) → (told_as of_frame (frame_by (vector_of xyz) (vector_of rpy)) >>= λ f. joint_in kind f xyz rpy axis) ≡ Err ZeroAxis
    from z = go (frame_by (vector_of xyz) (vector_of rpy)) z.frame
      where
        go : (s : Result (Frame Interval) JointFault) → IsOk s → (told_as of_frame s >>= λ f. joint_in kind f xyz rpy axis) ≡ Err ZeroAxis
        go (Ok f) i = (in_zero kind f xyz rpy axis).1 (z.needed, (z.fits, z.zero))
        go (Err d) i = cc
