-- Forward dynamics has exactly one solution where no pivot is zero, and its accelerations are those that are found.
use Rattle.std.proofs.Common.{◌≡◌, ℕ, suc, ◌+◌, ◌-◌, sym, ◌∙◌, subst, ap, arith}
use Rattle.rb_frac.specs.Frac.{Frac, Same, fracs}
use Rattle.rb_frac.specs.Spatial.{Spatials}
use Rattle.rb_frac.specs.Mechanics.{plus}
use Rattle.rb_frac.proofs.Reduce.{same_sym, same_trans}
use Rattle.rb_frac.proofs.Rational.{ℚ, ◌+ℚ◌, cls}
use Rattle.rb_num.specs.Arith.{fractions}
use Rattle.rb_spatial.specs.Inertias.{times}
use Rattle.rb_flat.specs.Shape.{Shape, HasBody, HasColumn, ParentsComeFirst, ColumnsFit}
use Rattle.rb_flat.specs.Mechanism.{Mechanism}
use Rattle.rb_flat.specs.Dynamics.{Unknowns, Moves, InverseDynamics, ForwardDynamics, no_force, SameUnknowns, HasOneSolution}
use Rattle.rb_flat.proofs.Equality.{same_fractions}
use Rattle.rb_flat.proofs.OneSolution.{has_one_solution, moves_agree}
use Rattle.rb_flat.proofs.Powers.{power, power-plus}
use Rattle.rb_flat.proofs.Superposed.{other_accelerations}
use Rattle.rb_composite.specs.Composite.{HasJointColumn}
use Rattle.rb_composite.proofs.Forms.{form_is}
use Rattle.rb_composite.proofs.Rigid.{by_powers}
use Rattle.rb_articulated.specs.Articulated.{Articulated, Accelerated, columns, AreArticulated, HasPivots, HasPivotsBelow, AreAccelerated}
use Rattle.rb_articulated.specs.Laws.{AllLead, JointsBear, ForwardHasSolution, FoundIsSolution, AreSameAccelerations}
use Rattle.rb_articulated.proofs.Borne.{is_balanced, has_torque}
use Rattle.rb_articulated.proofs.Moving.{motion_at, motion_next}
use Rattle.rb_articulated.proofs.Bearing.{BearsFrom, BearsAll, IsBalancedAt, bears_at, bears_all}
use Rattle.rb_articulated.proofs.Torques.{joint_column, column_again, at_joint, torques_given, given_torque}
use Rattle.rb_articulated.proofs.Found.{found_balanced, balanced_found, partly_same, found_accelerations}
use Rattle.rb_articulated.proofs.Exists.{accelerated}

module _ (shape : Shape) (m : Mechanism Frac) (t : Articulated Frac) (parents : ParentsComeFirst shape) (fit : ColumnsFit shape) (lead : AllLead shape)
    (art : AreArticulated shape m t) where
  -- ---- any solution
  module _ (s : Unknowns Frac) (h : ForwardDynamics fracs shape m Same (no_force fracs) s) where
    balance : (i k : ℕ) → HasJointColumn shape i k → BearsFrom shape m t s parents lead art h.moves i (suc k) → IsBalancedAt shape m t s parents lead art h.moves i k
    balance i k col bears =
        is_balanced shape m t i k (art.eliminated i k col) (s.joint_force i)
        (motion_at shape m t s parents lead art h.moves i k) (motion_at shape m t s parents lead art h.moves i (suc k)) (s.joint_acceleration (shape.first_column i + k))
        (motion_next shape m t s parents lead art h.moves i k) bears
        (given_torque shape m fit lead s h.moves h.given i k col)

    pub bears : (i : ℕ) → HasBody shape i → HasPivotsBelow shape m t i
        → Spatials Same (s.joint_force i) (plus fracs (times fractions (t.IA i (columns shape m i)) (s.acceleration i)) (t.p i (columns shape m i)))
    bears i there some =
        let all : BearsAll shape m t s parents lead art h.moves i = bears_all shape m t s parents lead art h.moves balance i there some in
        let need = times fractions (t.IA i (columns shape m i)) (s.acceleration i) in
        let rest = t.p i (columns shape m i) in
        by_powers (s.joint_force i) (plus fracs need rest)
        (λ z. all.at z
        ∙ ap (λ (r : ℚ). r +ℚ power z rest) (form_is (t.IA i (columns shape m i)) z (s.acceleration i))
        ∙ sym (power-plus z need rest))

    pub found_is : HasPivots shape m t → (d : Accelerated Frac) → AreAccelerated shape m t d → AreSameAccelerations shape s d
    found_is some d acc = found_accelerations shape m t s parents lead art h.moves d acc same_rate
      where
        bears_next : (i k : ℕ) → HasJointColumn shape i k → BearsFrom shape m t s parents lead art h.moves i (suc k)
        bears_next i k col =
            bears_at shape m t s parents lead art h.moves i col.there
            (bears_all shape m t s parents lead art h.moves balance i col.there (record { each = λ j l at above. some.each j l at }))
            (λ l at. some.each i l at) (balance i) (suc k) (omega (arith, col.below))

        same_rate : (i k : ℕ) → HasJointColumn shape i k → Spatials Same (motion_at shape m t s parents lead art h.moves i k) (d.y i k)
            → Same (s.joint_acceleration (shape.first_column i + k)) (d.x i k)
        same_rate i k col e =
            balanced_found shape m t d acc i k col (some.each i k col) (motion_at shape m t s parents lead art h.moves i k) e
            (s.joint_acceleration (shape.first_column i + k)) (balance i k col (bears_next i k col))

  -- ---- the one that is found
  module _ (some : HasPivots shape m t) (d : Accelerated Frac) (acc : AreAccelerated shape m t d) where
    rates : ℕ → Frac
    rates c = d.x (shape.owner c) (c - shape.first_column (shape.owner c))

    abbrev driven : Mechanism Frac
    driven = record m { acceleration = rates }

    one : HasOneSolution (SameUnknowns Same shape) (InverseDynamics fracs shape driven Same (no_force fracs))
    one = has_one_solution same_fractions shape driven (no_force fracs) parents fit

    s : Unknowns Frac
    s = one.solution

    solves : InverseDynamics fracs shape driven Same (no_force fracs) s
    unfolding s
    solves = one.solves

    moves : Moves fracs shape m Same (no_force fracs) s
    moves = other_accelerations shape m (no_force fracs) rates s solves.moves

    rates-at : (i k : ℕ) → HasJointColumn shape i k → rates (shape.first_column i + k) ≡ d.x i k
    unfolding rates
    rates-at i k col = at_joint shape fit lead d.x i k col

    own_rate : (i k : ℕ) → HasJointColumn shape i k → Same (s.joint_acceleration (shape.first_column i + k)) (d.x i k)
    own_rate i k col =
        subst (λ (x : Frac). Same (s.joint_acceleration (shape.first_column i + k)) x) (rates-at i k col)
        (solves.given (shape.first_column i + k) (fit.there i k col.there col.below))

    own_balance : (i k : ℕ) → HasJointColumn shape i k → IsBalancedAt shape m t s parents lead art moves i k
    own_balance i k col =
        found_balanced shape m t d acc i k col (some.each i k col) (motion_at shape m t s parents lead art moves i k)
        (partly_same shape m t s parents lead art moves d acc (λ j l at e. own_rate j l at) i k col)
        (s.joint_acceleration (shape.first_column i + k)) (own_rate i k col)

    own_bears : (i k : ℕ) → HasJointColumn shape i k → BearsFrom shape m t s parents lead art moves i (suc k)
    own_bears i k col =
        bears_at shape m t s parents lead art moves i col.there
        (bears_all shape m t s parents lead art moves (λ j l at b. own_balance j l at) i col.there (record { each = λ j l at above. some.each j l at }))
        (λ l at. some.each i l at) (λ l at b. own_balance i l at) (suc k) (omega (arith, col.below))

    own_torque : (i k : ℕ) → HasJointColumn shape i k → power (m.column i k) (s.joint_force i) ≡ cls (m.torque (shape.first_column i + k))
    own_torque i k col =
        has_torque shape m t i k (art.eliminated i k col) (s.joint_force i)
        (motion_at shape m t s parents lead art moves i k) (motion_at shape m t s parents lead art moves i (suc k)) (s.joint_acceleration (shape.first_column i + k))
        (motion_next shape m t s parents lead art moves i k) (own_bears i k col) (own_balance i k col)

    solution_solves : ForwardDynamics fracs shape m Same (no_force fracs) s
    solution_solves = record { moves = moves; given = torques_given shape m fit lead s moves own_torque }

    -- the rate of a column of the tree
    given_rate : (other : Unknowns Frac) → AreSameAccelerations shape other d → (c : ℕ) → HasColumn shape c → Same (other.joint_acceleration c) (rates c)
    unfolding rates
    given_rate other are c there =
        subst (λ (e : ℕ). Same (other.joint_acceleration e) (d.x (shape.owner c) (c - shape.first_column (shape.owner c)))) (column_again shape fit lead c there)
        (are.joints (shape.owner c) (c - shape.first_column (shape.owner c)) (joint_column shape fit lead c there))

    only : (other : Unknowns Frac) → ForwardDynamics fracs shape m Same (no_force fracs) other → SameUnknowns Same shape other s
    only other h =
        moves_agree same_fractions shape m (no_force fracs) parents fit other s h.moves moves
        (λ c there. same_trans (other.joint_acceleration c) (rates c) (s.joint_acceleration c)
        (given_rate other (found_is other h some d acc) c there)
        (same_sym (s.joint_acceleration c) (rates c) (solves.given c there)))

    pub has_solution : HasOneSolution (SameUnknowns Same shape) (ForwardDynamics fracs shape m Same (no_force fracs))
    has_solution = record { solution = s; solves = solution_solves; only = only }

pub joints_bear : JointsBear
joints_bear shape m t s parents fit lead art h i there some = bears shape m t parents fit lead art s h i there some

pub found_is_solution : FoundIsSolution
found_is_solution shape m t d s parents fit lead art some acc h = found_is shape m t parents fit lead art s h some d acc

pub forward_has_solution : ForwardHasSolution
forward_has_solution shape m t parents fit lead art some =
    let found = accelerated shape m parents t in
    has_solution shape m t parents fit lead art some found.0 found.1
