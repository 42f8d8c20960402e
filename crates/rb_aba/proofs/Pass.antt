-- The premises: what the articulated-body algorithm over intervals is given and what it finds, by body and by column of its joint. Featherstone,
-- Rigid Body Dynamics Algorithms, chapter 7.
use Rattle.std.specs.Prelude.{◌≡◌, ℕ, suc, ◌+◌, ◌<◌, ◌≤◌, ◌==◌, if◌then◌else◌, Result, Ok}
use Rattle.rb_result.specs.Steps.{◌>>=◌}
use Rattle.rb_sweep.specs.Sweep.{sweep, downward}
use Rattle.rb_frac.specs.Ops.{V3}
use Rattle.rb_frac.specs.Frac.{Frac, Same, fracs}
use Rattle.rb_frac.specs.Tables.{Vectors}
use Rattle.rb_frac.specs.Spatial.{Motion, Force, Place, BodyInertia, Inertia, Motions, Forces, Places, BodyInertias, Inertias}
use Rattle.rb_frac.specs.Mechanics.{plus, body_of}
use Rattle.rb_num.specs.declared.interval.NumFault.{NumFault}
use Rattle.rb_num.specs.Interval.{Interval}
use Rattle.rb_num.specs.Fraction.{LiesIn}
use Rattle.rb_num.specs.Arith.{fractions, intervals, interval_field}
use Rattle.rb_spatial.specs.Motions.{apply, apply_dual, cross, cross_dual, power, sum_spatial}
use Rattle.rb_spatial.specs.Inertias.{table, times, less_outer, sum as sum_of_two}
use Rattle.rb_spatial.specs.Carrying.{carry}
use Rattle.rb_flat.specs.Shape.{Shape, HasBody, HasColumn}
use Rattle.rb_flat.specs.Joint.{column_count}
use Rattle.rb_flat.specs.Mechanism.{Mechanism}
use Rattle.rb_flat.specs.Dynamics.{Unknowns, joint_motion, ForwardDynamics, no_force, SameUnknowns, HasOneSolution}
use Rattle.rb_composite.specs.Composite.{HasJointColumn}
use Rattle.rb_articulated.specs.Rules.{and_multiple, less_power, over}
use Rattle.rb_articulated.specs.Articulated.{Articulated, Accelerated}
use Rattle.rb_rnea.proofs.Enclosed.{SpatialWithin}
use Rattle.rb_rnea.proofs.Pass.{at_rest, against}

-- ---- what it is given
-- gravity; by body its place in its parent, the columns of its joint, from 0, its inertia, and the motion over the joint at its speeds; by column of
-- the tree its torque
pub record Given : Type 0 where
  pub gravity : V3 Interval
  pub place : ℕ → Place Interval
  pub column : ℕ → ℕ → Motion Interval
  pub inertia : ℕ → BodyInertia Interval
  pub velocity_over : ℕ → Result (Motion Interval) NumFault
  pub torque : ℕ → Interval

-- the numbers of a mechanism lie in it
pub record BodyWithin (shape : Shape) (m : Mechanism Frac) (g : Given) (i : ℕ) : Type 0 where
  pub place : Places LiesIn (m.place i) (g.place i)
  pub column : (k : ℕ) → k < column_count (shape.kind i) → Motions LiesIn (m.column i k) (g.column i k)
  pub inertia : BodyInertias LiesIn (body_of fracs (m.mass i) (m.centre i) (m.inertia i)) (g.inertia i)
  pub velocity_over : SpatialWithin (joint_motion fracs shape m m.speed i) (g.velocity_over i)

pub record IsWithin (shape : Shape) (m : Mechanism Frac) (g : Given) : Type 0 where
  pub gravity : Vectors LiesIn m.gravity g.gravity
  pub each : (i : ℕ) → HasBody shape i → BodyWithin shape m g i
  pub torque : (c : ℕ) → HasColumn shape c → LiesIn (m.torque c) (g.torque c)

-- ---- what it finds from the leaves to the root
-- one more body: a child of body i adds its inertia, carried to body i, and what it bears besides
abbrev pub add_inertia : Shape → Given → Articulated Interval → ℕ → ℕ → Inertia Interval → Result (Inertia Interval) NumFault
add_inertia shape g w i j sum =
    if shape.parent j == i then (carry intervals (g.place j) (w.IA j 0) >>= λ x. sum_of_two intervals sum x) else Ok sum

abbrev pub add_bias : Shape → Given → Articulated Interval → ℕ → ℕ → Force Interval → Result (Force Interval) NumFault
add_bias shape g w i j sum =
    if shape.parent j == i then (apply_dual intervals (g.place j) (w.pa j) >>= λ x. sum_spatial intervals sum x) else Ok sum

-- column k of the joint of body i gives way
pub record IsElimination (shape : Shape) (g : Given) (w : Articulated Interval) (i k : ℕ) : Type 0 where
  pub U : times intervals (w.IA i (suc k)) (g.column i k) ≡ Ok (w.U i k)
  pub D : power intervals (g.column i k) (w.U i k) ≡ Ok (w.D i k)
  pub u : less_power intervals (g.torque (shape.first_column i + k)) (g.column i k) (w.p i (suc k)) ≡ Ok (w.u i k)
  pub W : over interval_field (w.U i k) (w.D i k) ≡ Ok (w.W i k)
  pub IA : less_outer intervals (w.IA i (suc k)) (w.U i k) (w.W i k) ≡ Ok (w.IA i k)
  pub p : and_multiple intervals (w.p i (suc k)) (w.u i k) (w.W i k) ≡ Ok (w.p i k)

-- each value is what its rule gives
pub record IsPass (shape : Shape) (g : Given) (w : Articulated Interval) : Type 0 where
  pub world : w.v 0 ≡ at_rest
  pub each_v : (i : ℕ) → HasBody shape i →
      (apply intervals (g.place i) (w.v (shape.parent i)) >>= λ m. g.velocity_over i >>= λ j. sum_spatial intervals m j) ≡ Ok (w.v i)
  pub each_c : (i : ℕ) → HasBody shape i → (g.velocity_over i >>= λ j. cross intervals (w.v i) j) ≡ Ok (w.c i)
  pub each_IA : (i : ℕ) → HasBody shape i →
      sweep (add_inertia shape g w i) (downward (i + 1) (shape.bodies + 1)) (table intervals (g.inertia i)) ≡ Ok (w.IA i (column_count (shape.kind i)))
  pub each_p : (i : ℕ) → HasBody shape i →
      (times intervals (table intervals (g.inertia i)) (w.v i) >>= λ h.
      cross_dual intervals (w.v i) h >>= λ b.
      sweep (add_bias shape g w i) (downward (i + 1) (shape.bodies + 1)) b)
      ≡ Ok (w.p i (column_count (shape.kind i)))
  pub each_column : (i k : ℕ) → HasJointColumn shape i k → IsElimination shape g w i k
  pub each_pa : (i : ℕ) → HasBody shape i → (times intervals (w.IA i 0) (w.c i) >>= λ f. sum_spatial intervals (w.p i 0) f) ≡ Ok (w.pa i)

-- ---- what it finds from the root on
pub record IsReturn (shape : Shape) (g : Given) (w : Articulated Interval) (x : Accelerated Interval) : Type 0 where
  pub world : x.a 0 ≡ against g.gravity
  pub each_start : (i : ℕ) → HasBody shape i → (apply intervals (g.place i) (x.a (shape.parent i)) >>= λ m. sum_spatial intervals m (w.c i)) ≡ Ok (x.y i 0)
  pub each_x : (i k : ℕ) → HasJointColumn shape i k →
      (less_power intervals (w.u i k) (x.y i k) (w.U i k) >>= λ r. interval_field.div r (w.D i k)) ≡ Ok (x.x i k)
  pub each_y : (i k : ℕ) → HasJointColumn shape i k → and_multiple intervals (x.y i k) (x.x i k) (g.column i k) ≡ Ok (x.y i (suc k))
  pub each_a : (i : ℕ) → HasBody shape i → x.a i ≡ x.y i (column_count (shape.kind i))

-- ---- what lies in it
pub record ArticulatedLies (shape : Shape) (t : Articulated Frac) (w : Articulated Interval) : Type 0 where
  pub v : (i : ℕ) → i ≤ shape.bodies → Motions LiesIn (t.v i) (w.v i)
  pub c : (i : ℕ) → HasBody shape i → Motions LiesIn (t.c i) (w.c i)
  pub IA : (i : ℕ) → HasBody shape i → Inertias LiesIn (t.IA i (column_count (shape.kind i))) (w.IA i (column_count (shape.kind i)))
  pub p : (i : ℕ) → HasBody shape i → Forces LiesIn (t.p i (column_count (shape.kind i))) (w.p i (column_count (shape.kind i)))
  pub U : (i k : ℕ) → HasJointColumn shape i k → Forces LiesIn (t.U i k) (w.U i k)
  pub D : (i k : ℕ) → HasJointColumn shape i k → LiesIn (t.D i k) (w.D i k)
  pub u : (i k : ℕ) → HasJointColumn shape i k → LiesIn (t.u i k) (w.u i k)

pub record AcceleratedLies (shape : Shape) (d : Accelerated Frac) (found : Accelerated Interval) : Type 0 where
  pub a : (i : ℕ) → i ≤ shape.bodies → Motions LiesIn (d.a i) (found.a i)
  pub x : (i k : ℕ) → HasJointColumn shape i k → LiesIn (d.x i k) (found.x i k)

-- an inertia and a bias with which the joint of body i bears it lie in those before its n columns give way
pub record JointBears (w : Articulated Interval) (s : Unknowns Frac) (i n : ℕ) : Type 0 where
  pub inertia : Inertia Frac
  pub bias : Force Frac
  pub inertia_lies : Inertias LiesIn inertia (w.IA i n)
  pub bias_lies : Forces LiesIn bias (w.p i n)
  pub bears : Forces Same (s.joint_force i) (plus fracs (times fractions inertia (s.acceleration i)) bias)

pub record SolutionLies (shape : Shape) (w : Articulated Interval) (x : Accelerated Interval) (s : Unknowns Frac) : Type 0 where
  pub speed : (i : ℕ) → i ≤ shape.bodies → Motions LiesIn (s.speed i) (w.v i)
  pub acceleration : (i : ℕ) → i ≤ shape.bodies → Motions LiesIn (s.acceleration i) (x.a i)
  pub joint_acceleration : (i k : ℕ) → HasJointColumn shape i k → LiesIn (s.joint_acceleration (shape.first_column i + k)) (x.x i k)
  pub joint_force : (i : ℕ) → HasBody shape i → JointBears w s i (column_count (shape.kind i))

-- forward dynamics has exactly one solution, and it lies in what is found
pub record ForwardLies (shape : Shape) (m : Mechanism Frac) (w : Articulated Interval) (x : Accelerated Interval) : Type 0 where
  pub one : HasOneSolution (SameUnknowns Same shape) (ForwardDynamics fracs shape m Same (no_force fracs))
  pub lies : (s : Unknowns Frac) → ForwardDynamics fracs shape m Same (no_force fracs) s → SolutionLies shape w x s
