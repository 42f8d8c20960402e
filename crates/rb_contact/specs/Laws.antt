-- Forward dynamics by the factors of the mass table, over exact fractions. Featherstone, Rigid Body Dynamics Algorithms, chapter 6.
use Rattle.std.specs.Prelude.{ℕ}
use Rattle.rb_frac.specs.Frac.{Frac, Same, fracs, sub}
use Rattle.rb_frac.specs.Spatial.{Force}
use Rattle.rb_elimination.specs.Factors.{fraction_steps}
use Rattle.rb_elimination.specs.Solving.{IsFound}
use Rattle.rb_elimination.specs.Laws.{ArePivots, IsFactored}
use Rattle.rb_flat.specs.Shape.{Shape, HasColumn, ParentsComeFirst, ColumnsFit}
use Rattle.rb_flat.specs.Mechanism.{Mechanism}
use Rattle.rb_flat.specs.Dynamics.{Unknowns, InverseDynamics, ForwardDynamics, unaccelerated, SameUnknowns, HasOneSolution, IsMassTable}

-- forward dynamics has exactly one solution where no pivot of the mass table is zero
abbrev pub FactorsGiveOneSolution : Type 0
FactorsGiveOneSolution =
    (shape : Shape) (m : Mechanism Frac) (outside : ℕ → Force Frac) (mass : ℕ → ℕ → Frac) (up : ℕ → ℕ) (table : ℕ → ℕ → ℕ → Frac) (L : ℕ → ℕ → Frac) (D : ℕ → Frac) →
    ParentsComeFirst shape → ColumnsFit shape → IsMassTable shape m mass → IsFactored shape.columns up mass table L D → ArePivots shape.columns D →
    HasOneSolution (SameUnknowns Same shape) (ForwardDynamics fracs shape m Same outside)

-- what the mass table has to give: the given torques less the bias
abbrev pub IsDriving : Shape → Mechanism Frac → Unknowns Frac → (ℕ → Frac) → Type 0
IsDriving shape m bias right = (c : ℕ) → HasColumn shape c → Same (right c) (sub (m.torque c) (bias.torque c))

-- the accelerations of the joints are what the factors of the mass table find for it
abbrev pub FactorsGiveAccelerations : Type 0
FactorsGiveAccelerations =
    (shape : Shape) (m : Mechanism Frac) (outside : ℕ → Force Frac) (mass : ℕ → ℕ → Frac) (up : ℕ → ℕ) (table : ℕ → ℕ → ℕ → Frac) (L : ℕ → ℕ → Frac) (D : ℕ → Frac)
    (s bias : Unknowns Frac) (right x : ℕ → Frac) →
    ParentsComeFirst shape → ColumnsFit shape → IsMassTable shape m mass → IsFactored shape.columns up mass table L D → ArePivots shape.columns D →
    InverseDynamics fracs shape (unaccelerated fracs m) Same outside bias → ForwardDynamics fracs shape m Same outside s →
    IsDriving shape m bias right → IsFound fraction_steps shape.columns up L D right x →
    (c : ℕ) → HasColumn shape c → Same (s.joint_acceleration c) (x c)
