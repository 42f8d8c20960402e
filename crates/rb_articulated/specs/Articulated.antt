-- The articulated-body algorithm over exact fractions, for trees in which no joint follows another: what it finds from the leaves to the root, and
-- then from the root on. Featherstone, Rigid Body Dynamics Algorithms, chapter 7.
use Rattle.std.specs.Prelude.{◌≡◌, ℕ, suc, ◌+◌, pos}
use Rattle.rb_frac.specs.Ops.{signs, vneg}
use Rattle.rb_frac.specs.Frac.{Frac, Same, fracs}
use Rattle.rb_frac.specs.Tables.{nothing}
use Rattle.rb_frac.specs.Spatial.{Motion, Force, Inertia, Motions, Forces, Inertias}
use Rattle.rb_frac.specs.Mechanics.{plus}
use Rattle.rb_num.specs.Arith.{fractions, fraction_field}
use Rattle.rb_spatial.specs.Motions.{apply, cross, cross_dual, power}
use Rattle.rb_spatial.specs.Inertias.{times, sum, less_outer}
use Rattle.rb_flat.specs.Shape.{Shape, HasBody}
use Rattle.rb_flat.specs.Joint.{column_count}
use Rattle.rb_flat.specs.Mechanism.{Mechanism}
use Rattle.rb_flat.specs.Dynamics.{none, joint_motion, children_force}
use Rattle.rb_composite.specs.Composite.{ancestor, HasJointColumn, own_inertia, children_inertia}
use Rattle.rb_articulated.specs.Rules.{and_multiple, less_power, over}

-- ---- what is found
-- By body: its velocity v, and how the motion over its joint changes as it moves along with it, c. By body and column k of its joint, from 0: once
-- the columns from k on may give way, the inertia IA and the bias p with which the body and all that it bears answer an acceleration; what IA needs
-- for the column, U; its power there, the pivot D; W = U / D; and u, what is left of the torque. By body again, p with what c adds: pa.
pub record Articulated (A : Type 0) : Type 0 where
  pub v : ℕ → Motion A
  pub c : ℕ → Motion A
  pub IA : ℕ → ℕ → Inertia A
  pub p : ℕ → ℕ → Force A
  pub U : ℕ → ℕ → Force A
  pub D : ℕ → ℕ → A
  pub W : ℕ → ℕ → Force A
  pub u : ℕ → ℕ → A
  pub pa : ℕ → Force A

-- By body and column of its joint: the acceleration y that the columns before k give the body, and that of the column, x. By body its own, a.
pub record Accelerated (A : Type 0) : Type 0 where
  pub y : ℕ → ℕ → Motion A
  pub x : ℕ → ℕ → A
  pub a : ℕ → Motion A

-- body j stands above body i, and is not body i
abbrev pub IsAbove : Shape → ℕ → ℕ → Type 0
IsAbove shape j i = (n : ℕ) × (ancestor shape i (suc n) ≡ j)

module _ (shape : Shape) (m : Mechanism Frac) where
  abbrev pub columns : ℕ → ℕ
  columns i = column_count (shape.kind i)

  -- the motion over the joint of body i at the given speeds
  abbrev pub speed_over : ℕ → Motion Frac
  speed_over i = joint_motion fracs shape m m.speed i

  -- ---- from the leaves to the root
  -- column k of the joint of body i gives way to its torque
  pub record GivesWay (t : Articulated Frac) (i k : ℕ) : Type 0 where
    pub U : Forces Same (t.U i k) (times fractions (t.IA i (suc k)) (m.column i k))
    pub D : Same (t.D i k) (power fractions (m.column i k) (t.U i k))
    pub W : Forces Same (t.W i k) (over fraction_field (t.U i k) (t.D i k))
    pub u : Same (t.u i k) (less_power fractions (m.torque (shape.first_column i + k)) (m.column i k) (t.p i (suc k)))
    pub IA : Inertias Same (t.IA i k) (less_outer fractions (t.IA i (suc k)) (t.U i k) (t.W i k))
    pub p : Forces Same (t.p i k) (and_multiple fractions (t.p i (suc k)) (t.u i k) (t.W i k))

  pub record AreArticulated (t : Articulated Frac) : Type 0 where
    -- the world stands still, and a body moves as its parent does, and as its joint
    pub world : Motions Same (t.v 0) (none fracs)
    pub speeds : (i : ℕ) → HasBody shape i → Motions Same (t.v i) (plus fracs (apply fractions (m.place i) (t.v (shape.parent i))) (speed_over i))
    pub turnings : (i : ℕ) → HasBody shape i → Motions Same (t.c i) (cross fractions (t.v i) (speed_over i))
    -- before a column gives way: the body's own inertia and bias v x* (I v), and what the children add
    pub inertias : (i : ℕ) → HasBody shape i → Inertias Same (t.IA i (columns i)) (sum fractions (own_inertia shape m i) (children_inertia shape m (λ j. t.IA j 0) i))
    pub biases : (i : ℕ) → HasBody shape i → Forces Same (t.p i (columns i))
        (plus fracs (cross_dual fractions (t.v i) (times fractions (own_inertia shape m i) (t.v i))) (children_force fracs shape m t.pa i))
    -- the columns give way from the last on
    pub eliminated : (i k : ℕ) → HasJointColumn shape i k → GivesWay t i k
    pub handed : (i : ℕ) → HasBody shape i → Forces Same (t.pa i) (plus fracs (t.p i 0) (times fractions (t.IA i 0) (t.c i)))

  -- no pivot is zero, of all bodies and of those that body i bears
  pub record HasPivots (t : Articulated Frac) : Type 0 where
    pub each : (i k : ℕ) → HasJointColumn shape i k → ¬ ((t.D i k).num ≡ pos 0)

  pub record HasPivotsBelow (t : Articulated Frac) (i : ℕ) : Type 0 where
    pub each : (j k : ℕ) → HasJointColumn shape j k → IsAbove shape i j → ¬ ((t.D j k).num ≡ pos 0)

  -- ---- from the root on
  pub record AreAccelerated (t : Articulated Frac) (s : Accelerated Frac) : Type 0 where
    -- the world accelerates against gravity
    pub world : Motions Same (s.a 0) (record { lin = vneg fracs m.gravity; ang = nothing (signs fracs) })
    -- a body accelerates as its parent does, as c says, and then as column after column of its joint
    pub starts : (i : ℕ) → HasBody shape i → Motions Same (s.y i 0) (plus fracs (apply fractions (m.place i) (s.a (shape.parent i))) (t.c i))
    pub rates : (i k : ℕ) → HasJointColumn shape i k → Same (s.x i k) (fraction_field.div (less_power fractions (t.u i k) (s.y i k) (t.U i k)) (t.D i k))
    pub parts : (i k : ℕ) → HasJointColumn shape i k → Motions Same (s.y i (suc k)) (and_multiple fractions (s.y i k) (s.x i k) (m.column i k))
    pub ends : (i : ℕ) → HasBody shape i → Motions Same (s.a i) (s.y i (columns i))
