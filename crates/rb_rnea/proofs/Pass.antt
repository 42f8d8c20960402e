-- The premises: what a pass of the recursive Newton-Euler algorithm is given and what it finds, by body and by column. Featherstone, Rigid Body
-- Dynamics Algorithms, chapter 5.
use Rattle.std.specs.Prelude.{◌≡◌, ℕ, ◌+◌, ◌-◌, ◌<◌, ◌≤◌, ◌==◌, if◌then◌else◌, [], ◌∷◌, Some, Result, Ok}
use Rattle.rb_result.specs.Steps.{◌>>=◌}
use Rattle.rb_sweep.specs.Sweep.{sweep, upward, downward}
use Rattle.rb_frac.specs.Ops.{V3}
use Rattle.rb_frac.specs.Frac.{Frac, fracs}
use Rattle.rb_frac.specs.Tables.{Vectors, vector, nothing}
use Rattle.rb_frac.specs.Spatial.{Motion, Force, Place, BodyInertia, Motions, Forces, Places, BodyInertias}
use Rattle.rb_frac.specs.Mechanics.{body_of}
use Rattle.rb_num.specs.declared.interval.NumFault.{NumFault}
use Rattle.rb_num.specs.Interval.{Interval, negative_of}
use Rattle.rb_num.specs.Dot.{iv_dot}
use Rattle.rb_num.specs.Refusing.{iv_add}
use Rattle.rb_num.specs.Fraction.{LiesIn}
use Rattle.rb_num.specs.Arith.{intervals, signs_of}
use Rattle.rb_spatial.specs.Motions.{apply, apply_dual, cross, cross_dual, power, sum_spatial}
use Rattle.rb_spatial.specs.Inertias.{table, times}
use Rattle.rb_flat.specs.Shape.{Shape, HasBody, HasColumn}
use Rattle.rb_flat.specs.Joint.{column_count}
use Rattle.rb_flat.specs.Mechanism.{Mechanism}
use Rattle.rb_flat.specs.Dynamics.{Unknowns, follows, joint_motion}
use Rattle.rb_rnea.proofs.Enclosed.{SpatialWithin}

-- ---- what it is given
-- gravity; by body its place in its parent, the columns of its joint, from 0, its inertia, by how much its joint follows another, and the motions
-- over the joint at its speeds and at its accelerations
pub record Given : Type 0 where
  pub gravity : V3 Interval
  pub place : ℕ → Place Interval
  pub column : ℕ → ℕ → Motion Interval
  pub inertia : ℕ → BodyInertia Interval
  pub multiplier : ℕ → Interval
  pub velocity_over : ℕ → Result (Motion Interval) NumFault
  pub acceleration_over : ℕ → Result (Motion Interval) NumFault

-- the numbers of a mechanism lie in it
pub record BodyWithin (shape : Shape) (m : Mechanism Frac) (g : Given) (i : ℕ) : Type 0 where
  pub place : Places LiesIn (m.place i) (g.place i)
  pub column : (k : ℕ) → k < column_count (shape.kind i) → Motions LiesIn (m.column i k) (g.column i k)
  pub inertia : BodyInertias LiesIn (body_of fracs (m.mass i) (m.centre i) (m.inertia i)) (g.inertia i)
  pub multiplier : (master : ℕ) → shape.mimic i ≡ Some master → LiesIn (m.multiplier i) (g.multiplier i)
  pub velocity_over : SpatialWithin (joint_motion fracs shape m m.speed i) (g.velocity_over i)
  pub acceleration_over : SpatialWithin (joint_motion fracs shape m m.acceleration i) (g.acceleration_over i)

pub record IsWithin (shape : Shape) (m : Mechanism Frac) (g : Given) : Type 0 where
  pub gravity : Vectors LiesIn m.gravity g.gravity
  pub each : (i : ℕ) → HasBody shape i → BodyWithin shape m g i

-- ---- what it finds
-- by body its velocity, how the motion over its joint changes, its acceleration, what it needs, what its joint bears, and that along each of the
-- joint's columns, from 0; by column its torque
pub record Found : Type 0 where
  pub v : ℕ → Motion Interval
  pub c : ℕ → Motion Interval
  pub a : ℕ → Motion Interval
  pub b : ℕ → Force Interval
  pub f : ℕ → Force Interval
  pub t : ℕ → ℕ → Interval
  pub T : ℕ → Interval

abbrev pub at_rest : Motion Interval
at_rest = record { lin = nothing (signs_of intervals); ang = nothing (signs_of intervals) }

abbrev pub against : V3 Interval → Motion Interval
against u =
    record { lin = vector (negative_of u.x) (negative_of u.y) (negative_of u.z); ang = nothing (signs_of intervals) }

-- one more body: a child of body i adds what its joint bears, seen from body i
abbrev pub add_child : Shape → Given → Found → ℕ → ℕ → Force Interval → Result (Force Interval) NumFault
add_child shape g w i j sum =
    if shape.parent j == i then (apply_dual intervals (g.place j) (w.f j) >>= λ x. sum_spatial intervals sum x) else Ok sum

-- one more body: a joint that follows that of body i adds what it bears along column k, times its multiplier
abbrev pub add_follower : Shape → Given → Found → ℕ → ℕ → ℕ → Interval → Result Interval NumFault
add_follower shape g w i k j sum =
    if follows (shape.mimic j) i then (iv_dot ((g.multiplier j, w.t j k) ∷ []) >>= λ x. iv_add sum x) else Ok sum

-- each value is what its rule gives
pub record IsPass (shape : Shape) (g : Given) (w : Found) : Type 0 where
  pub world_v : w.v 0 ≡ at_rest
  pub world_a : w.a 0 ≡ against g.gravity
  pub each_v : (i : ℕ) → HasBody shape i →
      (apply intervals (g.place i) (w.v (shape.parent i)) >>= λ m. g.velocity_over i >>= λ j. sum_spatial intervals m j) ≡ Ok (w.v i)
  pub each_c : (i : ℕ) → HasBody shape i → (g.velocity_over i >>= λ j. cross intervals (w.v i) j) ≡ Ok (w.c i)
  pub each_a : (i : ℕ) → HasBody shape i →
      (g.acceleration_over i >>= λ j. apply intervals (g.place i) (w.a (shape.parent i)) >>= λ m. sum_spatial intervals m j >>= λ n. sum_spatial intervals n (w.c i))
      ≡ Ok (w.a i)
  pub each_b : (i : ℕ) → HasBody shape i →
      (times intervals (table intervals (g.inertia i)) (w.a i) >>= λ f.
      times intervals (table intervals (g.inertia i)) (w.v i) >>= λ h.
      cross_dual intervals (w.v i) h >>= λ x.
      sum_spatial intervals f x)
      ≡ Ok (w.b i)
  pub each_f : (i : ℕ) → HasBody shape i → sweep (add_child shape g w i) (downward (i + 1) (shape.bodies + 1)) (w.b i) ≡ Ok (w.f i)
  pub each_t : (i k : ℕ) → HasBody shape i → k < column_count (shape.kind i) → power intervals (g.column i k) (w.f i) ≡ Ok (w.t i k)
  pub each_T : (c : ℕ) → HasColumn shape c →
      (let i = shape.owner c in
      let k = c - shape.first_column i in
      sweep (add_follower shape g w i k) (upward 1 (shape.bodies + 1)) (w.t i k))
      ≡ Ok (w.T c)

-- ---- what lies in it
pub record SolutionLies (shape : Shape) (w : Found) (s : Unknowns Frac) : Type 0 where
  pub speed : (i : ℕ) → i ≤ shape.bodies → Motions LiesIn (s.speed i) (w.v i)
  pub acceleration : (i : ℕ) → i ≤ shape.bodies → Motions LiesIn (s.acceleration i) (w.a i)
  pub needed : (i : ℕ) → HasBody shape i → Forces LiesIn (s.needed i) (w.b i)
  pub joint_force : (i : ℕ) → HasBody shape i → Forces LiesIn (s.joint_force i) (w.f i)
  pub torque : (c : ℕ) → HasColumn shape c → LiesIn (s.torque c) (w.T c)
