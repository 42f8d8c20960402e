-- The composite inertias give the mass table. Featherstone, Rigid Body Dynamics Algorithms, chapter 6.
use Rattle.std.specs.Prelude.{◌≡◌, ℕ, suc, None}
use Rattle.rb_frac.specs.Ops.{sum}
use Rattle.rb_frac.specs.Frac.{Frac, Same, fracs, add, mul}
use Rattle.rb_frac.specs.Spatial.{Force, Inertia, Forces}
use Rattle.rb_num.specs.Arith.{fractions}
use Rattle.rb_spatial.specs.Inertias.{times}
use Rattle.rb_flat.specs.Shape.{Shape, HasBody, HasColumn, MimicsFit, ParentsComeFirst, ColumnsFit}
use Rattle.rb_flat.specs.Mechanism.{Mechanism}
use Rattle.rb_flat.specs.Dynamics.{Unknowns, Moves, InverseDynamics, no_force, unaccelerated, at_rest, IsMassTable}
use Rattle.rb_composite.specs.Composite.{AreApart, AreComposites, ArePairs, gathered, gathered_once, IsCompositeTable}

-- where no joint moves, the joint of a body bears against gravity what the composite inertia of the body needs
abbrev pub CompositeIsRigid : Type 0
CompositeIsRigid =
    (shape : Shape) (m : Mechanism Frac) (inertia : ℕ → Inertia Frac) (s : Unknowns Frac) → ParentsComeFirst shape → ColumnsFit shape →
    AreComposites shape m inertia → Moves fracs shape (at_rest fracs m) Same (no_force fracs) s →
    ((c : ℕ) → HasColumn shape c → Same (s.joint_acceleration c) fracs.nul) →
    (i : ℕ) → HasBody shape i → Forces Same (s.joint_force i) (times fractions (inertia i) (s.acceleration i))

-- every mechanism has such a table
abbrev pub HasCompositeTable : Type 0
HasCompositeTable = (shape : Shape) (m : Mechanism Frac) → ParentsComeFirst shape → (table : ℕ → ℕ → Frac) × IsCompositeTable shape m table

-- its entries are the torques of the unit accelerations, whatever the tables of the places, and with joints that follow others
abbrev pub CompositeIsMassTable : Type 0
CompositeIsMassTable =
    (shape : Shape) (m : Mechanism Frac) (table : ℕ → ℕ → Frac) → ParentsComeFirst shape → MimicsFit shape → ColumnsFit shape →
    IsCompositeTable shape m table → IsMassTable shape m table

-- they are the same on both sides of the diagonal
abbrev pub CompositeIsSymmetric : Type 0
CompositeIsSymmetric =
    (shape : Shape) (m : Mechanism Frac) (table : ℕ → ℕ → Frac) → ParentsComeFirst shape → MimicsFit shape → ColumnsFit shape →
    IsCompositeTable shape m table → (c d : ℕ) → HasColumn shape c → HasColumn shape d → Same (table c d) (table d c)

-- the torques are the bias, and the table times the accelerations of the joints
abbrev pub CompositeGivesTorques : Type 0
CompositeGivesTorques =
    (shape : Shape) (m : Mechanism Frac) (outside : ℕ → Force Frac) (table : ℕ → ℕ → Frac) (s bias : Unknowns Frac) →
    ParentsComeFirst shape → MimicsFit shape → ColumnsFit shape → IsCompositeTable shape m table →
    Moves fracs shape m Same outside s → InverseDynamics fracs shape (unaccelerated fracs m) Same outside bias →
    (c : ℕ) → HasColumn shape c → Same (s.torque c) (add (bias.torque c) (sum fracs shape.columns (λ d. mul (table c (suc d)) (s.joint_acceleration (suc d)))))

-- where no joint follows another, two columns whose bodies are apart have the entry zero
abbrev pub ApartIsZero : Type 0
ApartIsZero =
    (shape : Shape) (m : Mechanism Frac) (table : ℕ → ℕ → Frac) → ColumnsFit shape → ((i : ℕ) → HasBody shape i → shape.mimic i ≡ None) →
    IsCompositeTable shape m table →
    (c d : ℕ) → HasColumn shape c → HasColumn shape d → AreApart shape (shape.owner c) (shape.owner d) → Same (table c d) fracs.nul

-- the sum over each pair once, along the paths, is the sum over all pairs
abbrev pub EachPairOnce : Type 0
EachPairOnce =
    (shape : Shape) (m : Mechanism Frac) (inertia : ℕ → Inertia Frac) (pair : ℕ → ℕ → ℕ → ℕ → Frac) → ParentsComeFirst shape →
    ArePairs shape m inertia pair → (c d : ℕ) → Same (gathered_once shape m pair c d) (gathered shape m pair c d)
