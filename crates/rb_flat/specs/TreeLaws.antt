-- What is known of the equations of motion of a tree, of those of rows of constraints and of an impact. Featherstone, Rigid Body Dynamics
-- Algorithms, chapters 2, 5, 6, 8 and 11.
use Rattle.std.specs.Prelude.{ℕ, suc}
use Rattle.rb_frac.specs.Ops.{signs, sum, V3, vneg, vscale, vcross}
use Rattle.rb_frac.specs.Frac.{Frac, Same, fracs, add, mul}
use Rattle.rb_frac.specs.System.{HasPivots}
use Rattle.rb_frac.specs.Tables.{Table, Symmetric, Vectors, Tables, cross_table, table_times, table_product}
use Rattle.rb_frac.specs.Spatial.{Motion, Force, Motions, Forces}
use Rattle.rb_frac.specs.Mechanics.{plus, opposite, power_of, needed}
use Rattle.rb_flat.specs.Shape.{Shape, HasBody, HasColumn, MimicsFit, ParentsComeFirst, ColumnsFit}
use Rattle.rb_flat.specs.Mechanism.{Mechanism}
use Rattle.rb_flat.specs.Rates.{Moving, moving, still_vector, vector_rate, table_now, table_rate, spatial_now, spatial_rate}
use Rattle.rb_flat.specs.Dynamics.{Unknowns, none, joint_motion, torque_of, Moves, InverseDynamics, ForwardDynamics, no_force, at_unit, unaccelerated, at_rest, SameUnknowns, HasOneSolution, IsMassTable}
use Rattle.rb_flat.specs.Contact.{Constraints, RowsFit, point_speed, point_acceleration, row_speed, difference, rows_on}
use Rattle.rb_flat.specs.Impact.{needed_impulse}

-- ---- solutions
-- inverse dynamics has exactly one solution, whatever the tree, its numbers and the forces from outside
abbrev pub InverseHasOneSolution : Type 0
InverseHasOneSolution =
    (shape : Shape) (m : Mechanism Frac) (outside : ℕ → Force Frac) → ParentsComeFirst shape → ColumnsFit shape →
    HasOneSolution (SameUnknowns Same shape) (InverseDynamics fracs shape m Same outside)

-- ---- work
-- virtual work: at any rates of the columns the torques have the power that the forces of the joints have at the motions over the joints
abbrev pub VirtualWork : Type 0
VirtualWork =
    (shape : Shape) (m : Mechanism Frac) (f : ℕ → Force Frac) (rate : ℕ → Frac) → MimicsFit shape → ColumnsFit shape →
    Same
    (sum fracs shape.columns (λ c. mul (rate (suc c)) (torque_of fracs shape m f (suc c))))
    (sum fracs shape.bodies (λ i. power_of fracs (joint_motion fracs shape m rate (suc i)) (f (suc i))))

-- d'Alembert's principle: the torque of a column is the power, at the unit acceleration of the column, of what the bodies need and nothing from
-- outside gives
abbrev pub TorqueIsVirtualPower : Type 0
TorqueIsVirtualPower =
    (shape : Shape) (m : Mechanism Frac) (outside : ℕ → Force Frac) (s unit : Unknowns Frac) (c : ℕ) →
    ParentsComeFirst shape → MimicsFit shape → ColumnsFit shape → HasColumn shape c →
    Moves fracs shape m Same outside s → InverseDynamics fracs shape (at_unit fracs m c) Same (no_force fracs) unit →
    Same (s.torque c) (sum fracs shape.bodies (λ i. power_of fracs (unit.acceleration (suc i)) (plus fracs (s.needed (suc i)) (opposite fracs (outside (suc i))))))

-- a body at rest needs what bears its weight at its centre, where h is gravity as each body sees it
abbrev pub RestNeedsWeight : Type 0
RestNeedsWeight =
    (shape : Shape) (m : Mechanism Frac) (outside : ℕ → Force Frac) (s : Unknowns Frac) (h : ℕ → V3 Frac) →
    ParentsComeFirst shape → ColumnsFit shape → Moves fracs shape (at_rest fracs m) Same outside s →
    ((c : ℕ) → HasColumn shape c → Same (s.joint_acceleration c) fracs.nul) →
    Vectors Same (h 0) m.gravity → ((i : ℕ) → HasBody shape i → Vectors Same (h i) (table_times fracs (m.place i).e (h (shape.parent i)))) →
    (i : ℕ) → HasBody shape i → Forces Same (s.needed i)
    (let weight = vscale fracs (m.mass i) (vneg fracs (h i)) in record { lin = weight; ang = vcross fracs (m.centre i) weight })

-- ---- the mass table
-- there is a mass table
abbrev pub HasMassTable : Type 0
HasMassTable = (shape : Shape) (m : Mechanism Frac) → ParentsComeFirst shape → ColumnsFit shape → (table : ℕ → ℕ → Frac) × IsMassTable shape m table

-- and its entries are the same on both sides of the diagonal
abbrev pub MassTableIsSymmetric : Type 0
MassTableIsSymmetric =
    (shape : Shape) (m : Mechanism Frac) (table : ℕ → ℕ → Frac) → ParentsComeFirst shape → MimicsFit shape → ColumnsFit shape → IsMassTable shape m table →
    (c d : ℕ) → HasColumn shape c → HasColumn shape d → Same (table c d) (table d c)

-- the torques are the bias, and the mass table times the accelerations of the joints
abbrev pub TorqueIsLinear : Type 0
TorqueIsLinear =
    (shape : Shape) (m : Mechanism Frac) (outside : ℕ → Force Frac) (table : ℕ → ℕ → Frac) (s bias : Unknowns Frac) →
    ParentsComeFirst shape → ColumnsFit shape → IsMassTable shape m table →
    Moves fracs shape m Same outside s → InverseDynamics fracs shape (unaccelerated fracs m) Same outside bias →
    (c : ℕ) → HasColumn shape c → Same (s.torque c) (add (bias.torque c) (sum fracs shape.columns (λ d. mul (table c (suc d)) (s.joint_acceleration (suc d)))))

-- forward dynamics has exactly one solution where the elimination of the mass table, from the last column on, meets no zero
abbrev pub ForwardHasOneSolution : Type 0
ForwardHasOneSolution =
    (shape : Shape) (m : Mechanism Frac) (outside : ℕ → Force Frac) (table : ℕ → ℕ → Frac) → ParentsComeFirst shape → ColumnsFit shape →
    IsMassTable shape m table → HasPivots shape.columns (λ c d. table (suc c) (suc d)) →
    HasOneSolution (SameUnknowns Same shape) (ForwardDynamics fracs shape m Same outside)

-- ---- rows of constraints, and impacts
-- the forces of all rows have at any motions of the bodies, where the world is still, the power of each row's force at its difference of speeds
abbrev pub RowsHavePower : Type 0
RowsHavePower =
    (shape : Shape) (k : Constraints Frac) (turn : ℕ → Table Frac) (x : ℕ → Frac) (v : ℕ → Motion Frac) →
    RowsFit shape k → Motions Same (v 0) (none fracs) →
    Same
    (sum fracs shape.bodies (λ i. power_of fracs (v (suc i)) (rows_on fracs k turn x (suc i))))
    (sum fracs k.rows (λ r. mul (x (suc r)) (difference fracs k turn (suc r) (λ t d q i. row_speed fracs t d q (v i)))))

-- as a body turns, a point's acceleration is the rate of its speed, both seen in the world: the turn P to the world changes by P (w x)
abbrev pub PointAccelerationIsRate : Type 0
PointAccelerationIsRate =
    (turn : Table (Moving Frac)) (q : V3 Frac) (v : Motion (Moving Frac)) →
    Tables Same (table_rate turn) (table_product fracs (table_now turn) (cross_table (signs fracs) (spatial_now v).ang)) →
    Vectors Same
    (vector_rate (table_times (moving fracs) turn (point_speed (moving fracs) (still_vector fracs q) v)))
    (table_times fracs (table_now turn) (point_acceleration fracs q (spatial_now v) (spatial_rate v)))

-- the impulse that changes a body's speed is the force that it needs for such an acceleration from rest
abbrev pub ImpulseIsForceAtRest : Type 0
ImpulseIsForceAtRest =
    (m : Frac) (c : V3 Frac) (ic : Symmetric Frac) (d : Motion Frac) → Forces Same (needed_impulse fracs m c ic d) (needed fracs m c ic (none fracs) d)
