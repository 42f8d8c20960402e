-- The joint models: the places of their rules over any numbers, and what the code answers.
use Rattle.std.specs.Prelude.{ℕ, suc, Result, Ok, Err, IsOkAnd, List, [], ◌∷◌, get_or, pos, if◌then◌else◌}
use Rattle.rb_frac.specs.Ops.{V3}
use Rattle.rb_frac.specs.Tables.{Symmetric, vector, nothing}
use Rattle.rb_frac.specs.Spatial.{Motion, Place, Frame, SineCosine, Quaternion}
use Rattle.rb_num.specs.declared.interval.NumFault.{NumFault}
use Rattle.rb_num.specs.Interval.{Interval, interval, zero_interval}
use Rattle.rb_num.specs.Hull.{Meet, do_meet}
use Rattle.rb_num.specs.Arith.{Arith, intervals, signs_of}
use Rattle.rb_result.specs.Steps.{◌>>=◌, told_as}
use Rattle.rb_spatial.specs.Motions.{multiple}
use Rattle.rb_joint.specs.declared.faults.JointFault.{JointFault}
use Rattle.rb_joint.specs.declared.faults.JointFault.TheVariants.{NotUnit, Size}
use Rattle.rb_flat.specs.Joint.{Planar, Free, joint_column}
use Rattle.rb_flat.specs.Turns.{about_z}
use Rattle.rb_joint.specs.Turns.{axis_products, turn_about, turn_of}
use Rattle.rb_joint.specs.Places.{place_of, place_shifted}
use Rattle.rb_joint.specs.Frames.{sine_cosine_of}

module _ (R : Arith) where
  unfoldable pub place_fixed : Frame R.N → R.M (Place R.N)
  place_fixed f = place_shifted R f (nothing (signs_of R))

  -- turned about the axis a
  unfoldable pub place_turned : Frame R.N → V3 R.N → SineCosine R.N → R.M (Place R.N)
  place_turned f a t =
      R.bind (axis_products R a) (λ p. R.bind (turn_about R a p t) (λ turn. place_of R f turn (nothing (signs_of R))))

  -- shifted by d along the axis a
  unfoldable pub place_along : Frame R.N → V3 R.N → R.N → R.M (Place R.N)
  place_along f a d = R.bind (multiple R d a) (λ p. place_shifted R f p)

  -- shifted by p, and turned about the third axis by t
  unfoldable pub place_level : Frame R.N → V3 R.N → SineCosine R.N → R.M (Place R.N)
  place_level f p t = place_of R f (about_z (signs_of R) t) p

  -- shifted by p, and turned by the quaternion
  unfoldable pub place_free : Frame R.N → V3 R.N → Quaternion R.N → R.M (Place R.N)
  place_free f p q = R.bind (turn_of R q) (λ turn. place_of R f turn p)

  -- the squared length of a cosine and sine, and of a quaternion
  unfoldable pub square_of_pair : SineCosine R.N → R.M R.N
  square_of_pair t = R.dot ((t.cos, t.cos) ∷ (t.sin, t.sin) ∷ [])

  unfoldable pub square_of_quaternion : Quaternion R.N → R.M R.N
  square_of_quaternion q = R.dot ((q.x, q.x) ∷ (q.y, q.y) ∷ (q.z, q.z) ∷ (q.w, q.w) ∷ [])

-- ---- entries of a position
-- entry k, from 0
abbrev pub entry_at : List Interval → ℕ → Interval
entry_at q k = get_or q k zero_interval

-- the cosine and the sine from entry k on
abbrev pub pair_from : List Interval → ℕ → SineCosine Interval
pair_from q k = record { sin = entry_at q (suc k); cos = entry_at q k }

-- the shift of a planar joint, and of a free one
abbrev pub level_shift : List Interval → V3 Interval
level_shift q = vector (entry_at q 0) (entry_at q 1) zero_interval

abbrev pub free_shift : List Interval → V3 Interval
free_shift q = vector (entry_at q 0) (entry_at q 1) (entry_at q 2)

-- the quaternion of a free joint
abbrev pub free_turn : List Interval → Quaternion Interval
free_turn q = record { x = entry_at q 3; y = entry_at q 4; z = entry_at q 5; w = entry_at q 6 }

-- ---- lengths
-- from 0.999 to 1.001
abbrev pub near_one : Interval
near_one = interval (pos 999000000000) (pos 1001000000000)

-- the squared length is within the limit, and shares no number with 0.999..1.001
abbrev pub IsNotOne : Result Interval NumFault → Type 0
IsNotOne r = IsOkAnd r (λ s. ¬ Meet s near_one)

-- the test of a squared length
unfoldable pub check_unit : Result Interval NumFault → Result (Unit {0}) JointFault
check_unit r = told_as (λ _. Size) r >>= λ s. (if do_meet s near_one then Ok tt else Err NotUnit)

-- ---- the places of the joint models, of the entries that they have
unfoldable pub fixed_place : Frame Interval → Result (Place Interval) JointFault
fixed_place f = told_as (λ _. Size) (place_fixed intervals f)

unfoldable pub revolute_place : Frame Interval → V3 Interval → Interval → Result (Place Interval) JointFault
revolute_place f a x = sine_cosine_of x >>= λ t. told_as (λ _. Size) (place_turned intervals f a t)

unfoldable pub continuous_place : Frame Interval → V3 Interval → SineCosine Interval → Result (Place Interval) JointFault
continuous_place f a t =
    check_unit (square_of_pair intervals t) >>= λ _. told_as (λ _. Size) (place_turned intervals f a t)

unfoldable pub prismatic_place : Frame Interval → V3 Interval → Interval → Result (Place Interval) JointFault
prismatic_place f a d = told_as (λ _. Size) (place_along intervals f a d)

unfoldable pub planar_place : Frame Interval → V3 Interval → SineCosine Interval → Result (Place Interval) JointFault
planar_place f p t =
    check_unit (square_of_pair intervals t) >>= λ _. told_as (λ _. Size) (place_level intervals f p t)

unfoldable pub free_place : Frame Interval → V3 Interval → Quaternion Interval → Result (Place Interval) JointFault
free_place f p q =
    check_unit (square_of_quaternion intervals q) >>= λ _. told_as (λ _. Size) (place_free intervals f p q)

-- ---- the columns of those without an axis
abbrev pub planar_column : ℕ → Motion Interval
planar_column k = joint_column (signs_of intervals) Planar (nothing (signs_of intervals)) k

abbrev pub free_column : ℕ → Motion Interval
free_column k = joint_column (signs_of intervals) Free (nothing (signs_of intervals)) k

-- a frame and an axis in it
pub record Axial : Type 0 where
  pub frame : Frame Interval
  pub axis : V3 Interval

-- both, refused where a product of two parts of the axis is
unfoldable pub axial_by : Frame Interval → V3 Interval → Result Axial NumFault
axial_by f a = axis_products intervals a >>= λ p. Ok (record { frame = f; axis = a })

-- the products of an axis, where they are within the limit
abbrev pub kept : Result (Symmetric Interval) NumFault → Symmetric Interval
kept (Ok p) = p
kept (Err e) = record { xx = zero_interval; xy = zero_interval; xz = zero_interval; yy = zero_interval; yz = zero_interval; zz = zero_interval }
