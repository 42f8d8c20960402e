-- The articulated-body algorithm solves forward dynamics. Featherstone, Rigid Body Dynamics Algorithms, chapter 7.
use Rattle.std.specs.Prelude.{◌≡◌, ℕ, ◌+◌, ◌≤◌, None}
use Rattle.rb_frac.specs.Frac.{Frac, Same, fracs}
use Rattle.rb_frac.specs.Spatial.{Motions, Forces}
use Rattle.rb_frac.specs.Mechanics.{plus}
use Rattle.rb_num.specs.Arith.{fractions}
use Rattle.rb_spatial.specs.Inertias.{times}
use Rattle.rb_flat.specs.Shape.{Shape, HasBody, ParentsComeFirst, ColumnsFit}
use Rattle.rb_flat.specs.Mechanism.{Mechanism}
use Rattle.rb_flat.specs.Dynamics.{Unknowns, ForwardDynamics, no_force, SameUnknowns, HasOneSolution}
use Rattle.rb_composite.specs.Composite.{HasJointColumn}
use Rattle.rb_articulated.specs.Articulated.{Articulated, Accelerated, columns, AreArticulated, HasPivots, HasPivotsBelow, AreAccelerated}

-- no joint follows another
abbrev pub AllLead : Shape → Type 0
AllLead shape = (i : ℕ) → HasBody shape i → shape.mimic i ≡ None

-- in every solution the joint of a body bears what the articulated inertia needs for the body's acceleration, and the bias
abbrev pub JointsBear : Type 0
JointsBear =
    (shape : Shape) (m : Mechanism Frac) (t : Articulated Frac) (s : Unknowns Frac) → ParentsComeFirst shape → ColumnsFit shape → AllLead shape →
    AreArticulated shape m t → ForwardDynamics fracs shape m Same (no_force fracs) s → (i : ℕ) → HasBody shape i → HasPivotsBelow shape m t i →
    Forces Same (s.joint_force i) (plus fracs (times fractions (t.IA i (columns shape m i)) (s.acceleration i)) (t.p i (columns shape m i)))

-- there is exactly one solution where no pivot is zero
abbrev pub ForwardHasSolution : Type 0
ForwardHasSolution =
    (shape : Shape) (m : Mechanism Frac) (t : Articulated Frac) → ParentsComeFirst shape → ColumnsFit shape → AllLead shape →
    AreArticulated shape m t → HasPivots shape m t → HasOneSolution (SameUnknowns Same shape) (ForwardDynamics fracs shape m Same (no_force fracs))

-- the accelerations of a solution are those that are found
pub record AreSameAccelerations (shape : Shape) (s : Unknowns Frac) (d : Accelerated Frac) : Type 0 where
  pub bodies : (i : ℕ) → i ≤ shape.bodies → Motions Same (s.acceleration i) (d.a i)
  pub joints : (i k : ℕ) → HasJointColumn shape i k → Same (s.joint_acceleration (shape.first_column i + k)) (d.x i k)

abbrev pub FoundIsSolution : Type 0
FoundIsSolution =
    (shape : Shape) (m : Mechanism Frac) (t : Articulated Frac) (d : Accelerated Frac) (s : Unknowns Frac) →
    ParentsComeFirst shape → ColumnsFit shape → AllLead shape → AreArticulated shape m t → HasPivots shape m t → AreAccelerated shape m t d →
    ForwardDynamics fracs shape m Same (no_force fracs) s → AreSameAccelerations shape s d

-- every tree has articulated inertias and biases
abbrev pub HasArticulated : Type 0
HasArticulated = (shape : Shape) (m : Mechanism Frac) → ParentsComeFirst shape → (t : Articulated Frac) × AreArticulated shape m t

-- and, for any of these, accelerations
abbrev pub HasFound : Type 0
HasFound = (shape : Shape) (m : Mechanism Frac) (t : Articulated Frac) → ParentsComeFirst shape → (d : Accelerated Frac) × AreAccelerated shape m t d
