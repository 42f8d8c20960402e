-- What is known of turns, joints and inertias, whatever the sines and cosines are: they need not lie on one circle.
use Rattle.std.specs.Prelude.{◌≡◌, ℕ, ◌<◌, ◌==◌, if◌then◌else◌, List, [], ◌∷◌, length}
use Rattle.rb_frac.specs.Ops.{V3, signs, vadd, vdot, vcross}
use Rattle.rb_frac.specs.Frac.{Frac, Same, fracs}
use Rattle.rb_frac.specs.Tables.{Table, Symmetric, Vectors, Tables, transpose, full, vector, unit, cross_table, table_times, table_product, table_scaled, congruent}
use Rattle.rb_frac.specs.Spatial.{SineCosine, Quaternion, Frame, Place, SineCosines, Places, coordinate}
use Rattle.rb_frac.specs.Mechanics.{parallel_axes}
use Rattle.rb_flat.specs.Turns.{about_x, about_y, about_z, roll_pitch_yaw, about_axis, about_quaternion, placed}
use Rattle.rb_flat.specs.Joint.{Kind, Fixed, Revolute, Continuous, Prismatic, Planar, Free, entry_count, HasAngle, JointChoice, IsJointChoice, chosen_frame, chosen_place, chosen_column}
use Rattle.rb_flat.specs.Body.{BodyChoice, chosen_inertia}

-- a turn leaves its axis
abbrev pub TurnKeepsAxis : Type 0
TurnKeepsAxis = (a : V3 Frac) (t : SineCosine Frac) → Vectors Same (table_times fracs (about_axis fracs a t) a) a

abbrev pub QuaternionKeepsVector : Type 0
QuaternionKeepsVector =
    (q : Quaternion Frac) → Vectors Same (table_times fracs (about_quaternion fracs q) (vector q.x q.y q.z)) (vector q.x q.y q.z)

-- the turn about a unit vector is that about the coordinate axis
pub record TurnsAboutCoordinates (t : SineCosine Frac) : Type 0 where
  pub x : Tables Same (about_axis fracs (unit (signs fracs) 0) t) (about_x (signs fracs) t)
  pub y : Tables Same (about_axis fracs (unit (signs fracs) 1) t) (about_y (signs fracs) t)
  pub z : Tables Same (about_axis fracs (unit (signs fracs) 2) t) (about_z (signs fracs) t)

-- vectors are turned by roll about x first, then by pitch about y, and then by yaw about z, which stay where they are
abbrev pub RollPitchYawInTurn : Type 0
RollPitchYawInTurn = (roll pitch yaw : SineCosine Frac) (v : V3 Frac) →
    Vectors Same
    (table_times fracs (roll_pitch_yaw fracs roll pitch yaw) v)
    (table_times fracs (about_z (signs fracs) yaw) (table_times fracs (about_y (signs fracs) pitch) (table_times fracs (about_x (signs fracs) roll) v)))

-- where a point v of a body stands in the parent, r + E^T v: the joint turns and shifts it, and then the frame does
abbrev pub PointsInTurn : Type 0
PointsInTurn = (f : Frame Frac) (turn : Table Frac) (p v : V3 Frac) →
    Vectors Same
    (vadd fracs (placed fracs f turn p).r (table_times fracs (transpose (placed fracs f turn p).e) v))
    (vadd fracs f.at (table_times fracs f.rot (vadd fracs p (table_times fracs turn v))))

-- ---- joints
-- the angle zero has but one sine and one cosine
abbrev pub ZeroHasOnePair : Type 0
ZeroHasOnePair = (t : SineCosine Frac) → HasAngle fracs.nul t → SineCosines Same t (record { sin = fracs.nul; cos = fracs.one })

-- where a body stands that its joint has not moved from the joint's frame
abbrev pub unmoved : JointChoice → Place Frac
unmoved c = record { e = transpose (chosen_frame c).rot; r = (chosen_frame c).at }

-- the entries of a joint at rest: zeros, the cosine and the sine of the angle zero, and the quaternion of no turn
abbrev pub neutral_entries : Kind → List Frac
neutral_entries Fixed = []
neutral_entries Revolute = fracs.nul ∷ []
neutral_entries Continuous = fracs.one ∷ fracs.nul ∷ []
neutral_entries Prismatic = fracs.nul ∷ []
neutral_entries Planar = fracs.nul ∷ fracs.nul ∷ fracs.one ∷ fracs.nul ∷ []
neutral_entries Free = fracs.nul ∷ fracs.nul ∷ fracs.nul ∷ fracs.nul ∷ fracs.nul ∷ fracs.nul ∷ fracs.one ∷ []

abbrev pub NeutralFits : Type 0
NeutralFits = (k : Kind) → length (neutral_entries k) ≡ entry_count k

-- a fixed joint does not move its body, and no joint does at rest
abbrev pub FixedIsUnmoved : Type 0
FixedIsUnmoved = (c : JointChoice) → Places Same (chosen_place Fixed c) (unmoved c)

abbrev pub NeutralIsUnmoved : Type 0
NeutralIsUnmoved =
    (k : Kind) (c : JointChoice) → IsJointChoice k c → c.entries ≡ neutral_entries k → Places Same (chosen_place k c) (unmoved c)

-- the joint with other entries
abbrev pub with_entries : JointChoice → List Frac → JointChoice
with_entries c q = record c { entries = q }

-- a continuous joint at the cosine and the sine of a revolute joint's angle has its place and its column
pub record ContinuousIsRevolute (c : JointChoice) : Type 0 where
  pub place : chosen_place Continuous (with_entries c (c.angle.cos ∷ c.angle.sin ∷ [])) ≡ chosen_place Revolute c
  pub column : chosen_column Continuous c 0 ≡ chosen_column Revolute c 0

-- a planar joint is a free one that shifts along x and y and turns about z: by half its angle, of sine z and cosine w, where its own cosine is
-- 1 - 2 z z and its sine 2 w z
pub record PlanarIsFree (c : JointChoice) : Type 0 where
  pub place : (x y z w : Frac)
      → (let two = fracs.add fracs.one fracs.one in
      Places Same
      (chosen_place Planar (with_entries c (x ∷ y ∷ fracs.add fracs.one (fracs.neg (fracs.mul two (fracs.mul z z))) ∷ fracs.mul two (fracs.mul w z) ∷ [])))
      (chosen_place Free (with_entries c (x ∷ y ∷ fracs.nul ∷ fracs.nul ∷ fracs.nul ∷ z ∷ w ∷ []))))
  pub column_x : chosen_column Planar c 0 ≡ chosen_column Free c 0
  pub column_y : chosen_column Planar c 1 ≡ chosen_column Free c 1
  pub column_turn : chosen_column Planar c 2 ≡ chosen_column Free c 5

-- column k of a free joint is the k-th unit motion
abbrev pub FreeMovesAll : Type 0
FreeMovesAll =
    (c : JointChoice) (j k : ℕ) → j < 6 → k < 6 → coordinate (chosen_column Free c k) j ≡ (if j == k then fracs.one else fracs.nul)

-- ---- inertias
-- R J R^T is symmetric where J is
abbrev pub CongruentIsSymmetric : Type 0
CongruentIsSymmetric =
    (r : Table Frac) (j : Symmetric Frac) → Tables Same (congruent fracs r (full j)) (transpose (congruent fracs r (full j)))

-- about an axis w: what the six numbers are about it in their own frame, and the mass by the square of w x c (Steiner)
abbrev pub InertiaAboutAxis : Type 0
InertiaAboutAxis = (b : BodyChoice) (w : V3 Frac) →
    let u = table_times fracs (transpose (roll_pitch_yaw fracs b.roll b.pitch b.yaw)) w in
    let d = vcross fracs w b.centre in
    Same
    (vdot fracs w (table_times fracs (full (chosen_inertia b).six) w))
    (fracs.add (vdot fracs u (table_times fracs (full b.six) u)) (fracs.mul b.mass (vdot fracs d d)))

-- m (c.c 1 - c c^T) = -m (c x)(c x)
abbrev pub ParallelAxesIsSquare : Type 0
ParallelAxesIsSquare =
    (m : Frac) (c : V3 Frac) → Tables Same (parallel_axes fracs m c) (table_scaled fracs (fracs.neg m) (table_product fracs (cross_table (signs fracs) c) (cross_table (signs fracs) c)))
