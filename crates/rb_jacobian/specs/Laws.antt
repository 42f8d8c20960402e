-- The Jacobian of rows of constraints gives their speeds, their accelerations and what their forces do to the torques, and borders the mass table.
-- Featherstone, Rigid Body Dynamics Algorithms, chapter 8.
use Rattle.std.specs.Prelude.{ℕ, suc, ◌≤◌, Bool}
use Rattle.rb_frac.specs.Ops.{V3, sum}
use Rattle.rb_frac.specs.Frac.{Frac, Same, fracs, add, sub, mul}
use Rattle.rb_frac.specs.Tables.{Table, Tables}
use Rattle.rb_frac.specs.Spatial.{Motion, Force, Forces}
use Rattle.rb_num.specs.Arith.{fractions}
use Rattle.rb_flat.specs.Shape.{Shape, HasColumn, MimicsFit, ParentsComeFirst, ColumnsFit}
use Rattle.rb_flat.specs.Mechanism.{Mechanism}
use Rattle.rb_flat.specs.Dynamics.{Unknowns, Moves, InverseDynamics, no_force, unaccelerated, HasOneSolution, IsMassTable}
use Rattle.rb_flat.specs.Contact.{Constraints, HasRow, RowsFit, row_acceleration, row_force, rows_on, AreTurns, ContactUnknowns, ContactDynamics, SameContact}
use Rattle.rb_bordered.specs.Equations.{AreBordered, IsOneBorderedSolution}
use Rattle.rb_jacobian.specs.Rules.{row_vector, row_value}
use Rattle.rb_jacobian.specs.Jacobian.{row_speeds, row_accelerations, MovesAt, IsJacobian}

-- ---- rows
-- the vector of a row is its force of size 1
abbrev pub VectorIsUnitForce : Type 0
VectorIsUnitForce = (turns : Bool) (d q : V3 Frac) → Forces Same (row_vector fractions turns d q) (row_force fracs turns d q fracs.one)

-- the rule of a row's value gives the acceleration along the row
abbrev pub ValueIsAcceleration : Type 0
ValueIsAcceleration =
    (turns : Bool) (d q : V3 Frac) (v a : Motion Frac) → Same (row_value fractions turns q (row_vector fractions turns d q) v a) (row_acceleration fracs turns d q v a)

-- ---- the Jacobian
-- a row times the rates of the columns is the difference of speeds that the row holds
abbrev pub JacobianGivesSpeeds : Type 0
JacobianGivesSpeeds =
    (shape : Shape) (m : Mechanism Frac) (k : Constraints Frac) (turn : ℕ → Table Frac) (J : ℕ → ℕ → Frac) (rate : ℕ → Frac) (v : ℕ → Motion Frac) →
    ParentsComeFirst shape → ColumnsFit shape → RowsFit shape k → IsJacobian shape m k turn J → MovesAt shape m rate v →
    (r : ℕ) → HasRow k r → Same (row_speeds k turn v r) (sum fracs shape.columns (λ c. mul (J r (suc c)) (rate (suc c))))

-- its difference of accelerations is that times the accelerations of the joints, and the bias, where no joint accelerates; whatever acts from outside
abbrev pub JacobianGivesAccelerations : Type 0
JacobianGivesAccelerations =
    (shape : Shape) (m : Mechanism Frac) (k : Constraints Frac) (turn : ℕ → Table Frac) (J : ℕ → ℕ → Frac) (outside other : ℕ → Force Frac) (s bias : Unknowns Frac) →
    ParentsComeFirst shape → ColumnsFit shape → RowsFit shape k → IsJacobian shape m k turn J →
    Moves fracs shape m Same outside s → InverseDynamics fracs shape (unaccelerated fracs m) Same other bias →
    (r : ℕ) → HasRow k r
    → Same (row_accelerations k turn s r) (add (sum fracs shape.columns (λ c. mul (J r (suc c)) (s.joint_acceleration (suc c)))) (row_accelerations k turn bias r))

-- the forces of the rows take from the torques what the transpose makes of them, where the joints accelerate alike
abbrev pub JacobianGivesTorques : Type 0
JacobianGivesTorques =
    (shape : Shape) (m : Mechanism Frac) (k : Constraints Frac) (turn : ℕ → Table Frac) (J : ℕ → ℕ → Frac) (lam : ℕ → Frac) (s t : Unknowns Frac) →
    ParentsComeFirst shape → MimicsFit shape → ColumnsFit shape → RowsFit shape k → IsJacobian shape m k turn J →
    Moves fracs shape m Same (rows_on fracs k turn lam) s → Moves fracs shape m Same (no_force fracs) t →
    ((c : ℕ) → HasColumn shape c → Same (s.joint_acceleration c) (t.joint_acceleration c)) →
    (c : ℕ) → HasColumn shape c → Same (s.torque c) (sub (t.torque c) (sum fracs k.rows (λ r. mul (J (suc r) c) (lam (suc r)))))

-- there is one, whatever the turns
abbrev pub HasJacobian : Type 0
HasJacobian =
    (shape : Shape) (m : Mechanism Frac) (k : Constraints Frac) (turn : ℕ → Table Frac) → ParentsComeFirst shape → RowsFit shape k →
    (J : ℕ → ℕ → Frac) × IsJacobian shape m k turn J

abbrev pub JacobianIsOne : Type 0
JacobianIsOne =
    (shape : Shape) (m : Mechanism Frac) (k : Constraints Frac) (turn : ℕ → Table Frac) (J J' : ℕ → ℕ → Frac) → ParentsComeFirst shape → ColumnsFit shape → RowsFit shape k →
    IsJacobian shape m k turn J → IsJacobian shape m k turn J' → (r c : ℕ) → HasRow k r → HasColumn shape c → Same (J r c) (J' r c)

-- ---- turns
abbrev pub HasTurns : Type 0
HasTurns = (shape : Shape) (m : Mechanism Frac) → ParentsComeFirst shape → (turn : ℕ → Table Frac) × AreTurns fracs shape m Same turn

abbrev pub TurnsAreOne : Type 0
TurnsAreOne =
    (shape : Shape) (m : Mechanism Frac) (turn turn' : ℕ → Table Frac) → ParentsComeFirst shape → AreTurns fracs shape m Same turn → AreTurns fracs shape m Same turn' →
    (i : ℕ) → i ≤ shape.bodies → Tables Same (turn i) (turn' i)

-- ---- the bordered equations
-- the mass table bordered by the Jacobian: what is left of the torques drives the columns, and the rows have their compliances and the bias
abbrev pub IsBordered : Shape → Mechanism Frac → Constraints Frac → (ℕ → Table Frac) → (ℕ → ℕ → Frac) → (ℕ → ℕ → Frac) → Unknowns Frac → (ℕ → Frac) → (ℕ → Frac) → Type 0
IsBordered shape m k turn table J bias x lam =
    AreBordered shape.columns k.rows table J (λ r. (k.numbers r).compliance) (λ c. sub (m.torque c) (bias.torque c)) (row_accelerations k turn bias) x lam

abbrev pub IsOneBordered : Shape → Mechanism Frac → Constraints Frac → (ℕ → Table Frac) → (ℕ → ℕ → Frac) → (ℕ → ℕ → Frac) → Unknowns Frac → (ℕ → Frac) → (ℕ → Frac) → Type 0
IsOneBordered shape m k turn table J bias x lam =
    IsOneBorderedSolution shape.columns k.rows table J (λ r. (k.numbers r).compliance) (λ c. sub (m.torque c) (bias.torque c)) (row_accelerations k turn bias) x lam

-- where a tree moves under the forces of the rows, its accelerations and these forces solve the bordered equations
abbrev pub ContactIsBordered : Type 0
ContactIsBordered =
    (shape : Shape) (m : Mechanism Frac) (k : Constraints Frac) (table J : ℕ → ℕ → Frac) (bias : Unknowns Frac) (s : ContactUnknowns Frac) →
    ParentsComeFirst shape → MimicsFit shape → ColumnsFit shape → RowsFit shape k → IsMassTable shape m table → IsJacobian shape m k s.turn J →
    InverseDynamics fracs shape (unaccelerated fracs m) Same (no_force fracs) bias → ContactDynamics fracs shape m Same k s →
    IsBordered shape m k s.turn table J bias s.tree.joint_acceleration s.row_force

-- a tree moves under the forces of the rows with these turns, accelerations and forces
pub record MovesWith (shape : Shape) (m : Mechanism Frac) (k : Constraints Frac) (turn : ℕ → Table Frac) (x lam : ℕ → Frac) : Type 0 where
  pub unknowns : ContactUnknowns Frac
  pub solves : ContactDynamics fracs shape m Same k unknowns
  pub turns : (i : ℕ) → i ≤ shape.bodies → Tables Same (unknowns.turn i) (turn i)
  pub accelerations : (c : ℕ) → HasColumn shape c → Same (unknowns.tree.joint_acceleration c) (x c)
  pub forces : (r : ℕ) → HasRow k r → Same (unknowns.row_force r) (lam r)

-- and each solution of the bordered equations comes from such a motion
abbrev pub ContactFromBordered : Type 0
ContactFromBordered =
    (shape : Shape) (m : Mechanism Frac) (k : Constraints Frac) (turn : ℕ → Table Frac) (table J : ℕ → ℕ → Frac) (bias : Unknowns Frac) (x lam : ℕ → Frac) →
    ParentsComeFirst shape → MimicsFit shape → ColumnsFit shape → RowsFit shape k → AreTurns fracs shape m Same turn → IsMassTable shape m table →
    IsJacobian shape m k turn J → InverseDynamics fracs shape (unaccelerated fracs m) Same (no_force fracs) bias →
    IsBordered shape m k turn table J bias x lam → MovesWith shape m k turn x lam

-- there is exactly one motion, with these accelerations and forces
pub record MovesOnlyWith (shape : Shape) (m : Mechanism Frac) (k : Constraints Frac) (x lam : ℕ → Frac) : Type 0 where
  pub one : HasOneSolution (SameContact Same shape k) (ContactDynamics fracs shape m Same k)
  pub accelerations : (c : ℕ) → HasColumn shape c → Same (one.solution.tree.joint_acceleration c) (x c)
  pub forces : (r : ℕ) → HasRow k r → Same (one.solution.row_force r) (lam r)

-- so it is where the bordered equations have exactly one solution
abbrev pub ContactHasOneSolution : Type 0
ContactHasOneSolution =
    (shape : Shape) (m : Mechanism Frac) (k : Constraints Frac) (turn : ℕ → Table Frac) (table J : ℕ → ℕ → Frac) (bias : Unknowns Frac) (x lam : ℕ → Frac) →
    ParentsComeFirst shape → MimicsFit shape → ColumnsFit shape → RowsFit shape k → AreTurns fracs shape m Same turn → IsMassTable shape m table →
    IsJacobian shape m k turn J → InverseDynamics fracs shape (unaccelerated fracs m) Same (no_force fracs) bias →
    IsOneBordered shape m k turn table J bias x lam → MovesOnlyWith shape m k x lam
