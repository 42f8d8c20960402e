-- The model of a joint encloses the joint relation.
use Rattle.std.proofs.Common.{◌≡◌, ℕ, List, Result, Ok, Err, IfOk, refl, sym, ◌∙◌, subst}
use Rattle.std.proofs.lemmas.Result.{IfOk-at_ok}
use Rattle.rb_frac.specs.Ops.{V3}
use Rattle.rb_frac.specs.Tables.{Symmetric, Vectors}
use Rattle.rb_frac.specs.Spatial.{Frame, Place, Places, Motions}
use Rattle.rb_num.specs.declared.interval.NumFault.{NumFault}
use Rattle.rb_num.specs.Interval.{Interval, zero_interval}
use Rattle.rb_num.specs.Fraction.{LiesIn}
use Rattle.rb_num.specs.Arith.{intervals}
use Rattle.rb_num.proofs.Bridges.{to_intervals, ok_met}
use Rattle.rb_result.specs.Steps.{◌>>=◌, told_as}
use Rattle.rb_result.proofs.Results.{told-ok}
use Rattle.rb_spatial.specs.Vectors.{vector_of}
use Rattle.rb_spatial.specs.Motions.{multiple}
use Rattle.rb_spatial.proofs.Keep.{multiple_met}
use Rattle.rb_spatial.proofs.Identities.{multiple-scaled}
use Rattle.rb_trig.specs.declared.axis.AxisFault.{AxisFault}
use Rattle.rb_trig.specs.Axis.{unit_scale_of, MakesUnit}
use Rattle.rb_flat.specs.Joint.{Kind, JointChoice, IsJointChoice, chosen_axis, chosen_place, chosen_column, joint_column}
use Rattle.rb_flat.specs.Choice.{JointChosen}
use Rattle.rb_joint.specs.declared.any.AnyJoint.{AnyJoint}
use Rattle.rb_joint.specs.declared.any.AnyJoint.TheVariants as Variant
use Rattle.rb_joint.specs.Turns.{axis_products}
use Rattle.rb_joint.specs.Frames.{frame_by, HasFrame}
use Rattle.rb_joint.specs.Model.{EnclosesPlace, HasFrameAndAxis}
use Rattle.rb_joint.specs.Models.{Axial, axial_by}
use Rattle.rb_joint.specs.Any as Model
use Rattle.rb_joint.specs.Any.{any_place, any_column}
use Rattle.rb_joint.proofs.Choices.{vectors_same, frame_answer, fixed_answer, revolute_answer, continuous_answer, prismatic_answer, planar_answer, free_answer, revolute_column, continuous_column, prismatic_column, planar_column_lies, free_column_lies}
use Rattle.rb_urdf.specs.declared.robot.UrdfKind.{UrdfKind}
use Rattle.rb_urdf.specs.declared.robot.UrdfKind.TheVariants.{Fixed, Revolute, Prismatic, Continuous, Planar, Floating}
use Rattle.rb_urdf.specs.Numbers.{zeros}
use Rattle.rb_body.specs.declared.faults.BodyFault.{BodyFault}
use Rattle.rb_body.specs.declared.raw.JointRaw.{JointRaw}
use Rattle.rb_body.specs.Faults.{of_frame, of_axis, of_number}
use Rattle.rb_body.specs.Raw.{kind_of, HasAxis, joint_brackets}
use Rattle.rb_body.specs.Joint.{axis_by, plain_by, hinge, hinge_model, hinge_by, slider_by, joint_in, joint_by, raw, HasNumbers, EnclosesJoint}
use Rattle.rb_body.proofs.Links.{next_ok}

-- ---- models
place_lies : (m : AnyJoint) (q : List Interval) (p : Place Interval) → Model.any_place m q ≡ Ok p → EnclosesPlace (Model.kind_of m) (Model.IsOfModel m) q p
unfolding any_place
place_lies (Variant.Fixed m) q p e = fixed_answer m.frame q p e
place_lies (Variant.Revolute m) q p e = revolute_answer m.frame m.axis q p e
place_lies (Variant.Continuous m) q p e = continuous_answer m.frame m.axis q p e
place_lies (Variant.Prismatic m) q p e = prismatic_answer m.frame m.axis q p e
place_lies (Variant.Planar m) q p e = planar_answer m.frame q p e
place_lies (Variant.Free m) q p e = free_answer m.frame q p e

column_lies : (m : AnyJoint) (c : JointChoice) (k : ℕ) → Model.IsOfModel m c → Motions LiesIn (chosen_column (Model.kind_of m) c k) (Model.any_column m k)
unfolding chosen_column joint_column any_column
column_lies (Variant.Fixed m) c k h = record {
  lin = record { x = to_intervals.zero; y = to_intervals.zero; z = to_intervals.zero };
  ang = record { x = to_intervals.zero; y = to_intervals.zero; z = to_intervals.zero };
}
column_lies (Variant.Revolute m) c k h = (revolute_column m.frame m.axis k _ refl).at c h
column_lies (Variant.Continuous m) c k h = (continuous_column m.frame m.axis k _ refl).at c h
column_lies (Variant.Prismatic m) c k h = (prismatic_column m.frame m.axis k _ refl).at c h
column_lies (Variant.Planar m) c k h = (planar_column_lies m.frame k _ refl).at c h
column_lies (Variant.Free m) c k h = (free_column_lies m.frame k _ refl).at c h

-- a model of the kind of the joint that has each choice of it
encloses_by : (m : AnyJoint) (j : JointRaw) → Model.kind_of m ≡ kind_of j.kind → ((c : JointChoice) → JointChosen (kind_of j.kind) c (joint_brackets j) → Model.IsOfModel m c) → EnclosesJoint m j
encloses_by m j e h = record {
  kind = e;
  choice = h;
  place = λ c q p k l i.
      let t : IsJointChoice (Model.kind_of m) c = subst (λ (n : Kind). IsJointChoice n c) (sym e) k.is in
      subst (λ (n : Kind). Places LiesIn (chosen_place n c) p) e ((place_lies m q p i).at c t (h c k) l);
  column = λ c n k. subst (λ (a : Kind). Motions LiesIn (chosen_column a c n) (Model.any_column m n)) e (column_lies m c n (h c k));
}

-- ---- axes
-- the multiple of the axis, where there is one
axis_is : (v : V3 Interval) (a : Interval × V3 Interval) → axis_by v ≡ Ok a → multiple intervals a.0 v ≡ Ok a.1
unfolding axis_by
axis_is v a e = go (unit_scale_of v.x v.y v.z) e
  where
    inner : (k : Interval) (r : Result (V3 Interval) NumFault) → multiple intervals k v ≡ r → ◌>>=◌ {B = Interval × V3 Interval} (told_as of_number r) (λ b. Ok (k, b)) ≡ Ok a → multiple intervals a.0 v ≡ Ok a.1
    inner k (Ok b) h e = let p : (k, b) ≡ a = cc in subst (λ (t : Interval × V3 Interval). multiple intervals t.0 v ≡ Ok t.1) p h
    inner k (Err d) h e = cc

    go : (r : Result Interval AxisFault) → (told_as of_axis r >>= λ k. ◌>>=◌ {B = Interval × V3 Interval} (told_as of_number (multiple intervals k v)) (λ b. Ok (k, b))) ≡ Ok a → multiple intervals a.0 v ≡ Ok a.1
    go (Ok k) e = inner k (multiple intervals k v) refl e
    go (Err d) e = cc

axis_lies : (v : V3 Interval) (a : Interval × V3 Interval) → axis_by v ≡ Ok a → (c : JointChoice) → Vectors LiesIn c.axis v → LiesIn c.factor a.0 → Vectors LiesIn (chosen_axis c) a.1
unfolding chosen_axis
axis_lies v a e c h k =
    vectors_same (multiple-scaled c.factor c.axis) (ok_met (axis_is v a e) (multiple_met to_intervals k h))

-- ---- joints
frame_lies : (f : Frame Interval) (j : JointRaw) → frame_by (vector_of j.xyz) (vector_of j.rpy) ≡ Ok f → (c : JointChoice) → JointChosen (kind_of j.kind) c (joint_brackets j) → HasFrame f c
frame_lies f j e c h = (frame_answer (vector_of j.xyz) (vector_of j.rpy) f e).at c h.is.frame h.origin h.rpy

abbrev Encloses : AnyJoint × JointRaw → Type 0
Encloses r = EnclosesJoint r.0 r.1

plain_encloses : (kind : UrdfKind) (m : AnyJoint) (f : Frame Interval) (xyz rpy : List Interval) → frame_by (vector_of xyz) (vector_of rpy) ≡ Ok f → Model.kind_of m ≡ kind_of kind →
    ((c : JointChoice) → HasFrame f c → Model.IsOfModel m c) → Encloses (plain_by kind m xyz rpy)
unfolding plain_by
plain_encloses kind m f xyz rpy e k has =
    let j = raw kind xyz rpy zeros zero_interval in
    encloses_by m j k (λ c h. has c (frame_lies f j e c h))

hinge_is : (kind : UrdfKind) (f : Frame Interval) (a : V3 Interval) (m : AnyJoint) → hinge_model kind f a ≡ Ok m → hinge kind (record { frame = f; axis = a }) ≡ m
unfolding hinge_model axial_by
hinge_is kind f a m e = go (axis_products intervals a) e
  where
    go : (r : Result (Symmetric Interval) NumFault) →
        (◌>>=◌ {B = AnyJoint} (told_as of_number (◌>>=◌ {B = Axial} r (λ p. Ok (record { frame = f; axis = a })))) (λ x. Ok (hinge kind x))) ≡ Ok m → hinge kind (record { frame = f; axis = a }) ≡ m
    go (Ok p) e = cc
    go (Err d) e = cc

hinge_encloses : (kind : UrdfKind) (f : Frame Interval) (xyz rpy axis : List Interval) → frame_by (vector_of xyz) (vector_of rpy) ≡ Ok f →
    ((m : Axial) → Model.kind_of (hinge kind m) ≡ kind_of kind) → ((m : Axial) (c : JointChoice) → HasFrameAndAxis m.frame m.axis c → Model.IsOfModel (hinge kind m) c) →
    IfOk (hinge_by kind f xyz rpy axis) Encloses
unfolding hinge_by
hinge_encloses kind f xyz rpy axis e same has =
    next_ok _ (axis_by (vector_of axis)) _ (λ a i.
    next_ok _ (hinge_model kind f a.1) _ (λ m k.
    let j = raw kind xyz rpy axis a.0 in
    let made : Axial = record { frame = f; axis = a.1 } in
    subst (λ (t : AnyJoint). EnclosesJoint t j) (hinge_is kind f a.1 m k)
    (encloses_by (hinge kind made) j (same made) (λ c h. has made c (record {
      frame = (frame_lies f j e c h).frame;
      axis = axis_lies (vector_of axis) a i c h.axis h.factor;
    })))))

slider_encloses : (f : Frame Interval) (xyz rpy axis : List Interval) → frame_by (vector_of xyz) (vector_of rpy) ≡ Ok f → IfOk (slider_by f xyz rpy axis) Encloses
unfolding slider_by
slider_encloses f xyz rpy axis e =
    next_ok _ (axis_by (vector_of axis)) _ (λ a i.
    let j = raw Prismatic xyz rpy axis a.0 in
    encloses_by (Variant.Prismatic (record { frame = f; axis = a.1 })) j refl (λ c h. record {
      frame = (frame_lies f j e c h).frame;
      axis = axis_lies (vector_of axis) a i c h.axis h.factor;
    }))

in_encloses : (kind : UrdfKind) (f : Frame Interval) (xyz rpy axis : List Interval) → frame_by (vector_of xyz) (vector_of rpy) ≡ Ok f → IfOk (joint_in kind f xyz rpy axis) Encloses
in_encloses Fixed f xyz rpy axis e = plain_encloses Fixed (Variant.Fixed (record { frame = f })) f xyz rpy e refl (λ c h. h)
in_encloses Revolute f xyz rpy axis e = hinge_encloses Revolute f xyz rpy axis e (λ m. refl) (λ m c h. h)
in_encloses Prismatic f xyz rpy axis e = slider_encloses f xyz rpy axis e
in_encloses Continuous f xyz rpy axis e = hinge_encloses Continuous f xyz rpy axis e (λ m. refl) (λ m c h. h)
in_encloses Planar f xyz rpy axis e = plain_encloses Planar (Variant.Planar (record { frame = f })) f xyz rpy e refl (λ c h. h)
in_encloses Floating f xyz rpy axis e = plain_encloses Floating (Variant.Free (record { frame = f })) f xyz rpy e refl (λ c h. h)

pub joint_encloses : (kind : UrdfKind) (xyz rpy axis : List Interval) (r : Result (AnyJoint × JointRaw) BodyFault) → r ≡ joint_by kind xyz rpy axis → IfOk r (λ r. EnclosesJoint r.0 r.1)
unfolding joint_by
joint_encloses kind xyz rpy axis r e =
    rw e (next_ok _ (told_as of_frame (frame_by (vector_of xyz) (vector_of rpy))) _ (λ f k. in_encloses kind f xyz rpy axis (told-ok of_frame _ f k)))

pub joint_answer : (kind : UrdfKind) (xyz rpy axis : List Interval) (r : AnyJoint × JointRaw) → joint_by kind xyz rpy axis ≡ Ok r → EnclosesJoint r.0 r.1
joint_answer kind xyz rpy axis r e = IfOk-at_ok (λ (r : AnyJoint × JointRaw). EnclosesJoint r.0 r.1) e (joint_encloses kind xyz rpy axis _ refl)

-- ---- numbers
pub numbers_with_axis : (k : UrdfKind) (xyz rpy a : List Interval) (f : Interval) → HasAxis k → MakesUnit (vector_of a).x (vector_of a).y (vector_of a).z f → HasNumbers k xyz rpy a (raw k xyz rpy a f)
numbers_with_axis k xyz rpy a f h u = record { kind = refl; origin = refl; angles = refl; axis = λ i. refl; unit = λ i. u; zero = λ n. absurd (n h) }

pub plain_numbers : (k : UrdfKind) (m : AnyJoint) (xyz rpy a : List Interval) (r : AnyJoint × JointRaw) → (HasAxis k → ⊥) → r ≡ plain_by k m xyz rpy → HasNumbers k xyz rpy a r.1
unfolding plain_by
plain_numbers k m xyz rpy a r none e =
    rw e (record { kind = refl; origin = refl; angles = refl; axis = λ h. absurd (none h); unit = λ h. absurd (none h); zero = λ n. (refl, refl) })
