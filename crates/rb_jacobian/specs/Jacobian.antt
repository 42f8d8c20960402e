-- The Jacobian of rows of constraints over exact fractions, for a tree in which joints may follow others. Featherstone, Rigid Body Dynamics
-- Algorithms, chapter 8.
use Rattle.std.specs.Prelude.{ℕ}
use Rattle.rb_frac.specs.Ops.{minus}
use Rattle.rb_frac.specs.Frac.{Frac, Same, fracs, mul}
use Rattle.rb_frac.specs.Tables.{Table, row}
use Rattle.rb_frac.specs.Spatial.{Motion, Force, Motions}
use Rattle.rb_frac.specs.Mechanics.{plus, in_body}
use Rattle.rb_num.specs.Arith.{fractions}
use Rattle.rb_spatial.specs.Motions.{power}
use Rattle.rb_flat.specs.Shape.{Shape, HasBody, HasColumn}
use Rattle.rb_flat.specs.Mechanism.{Mechanism}
use Rattle.rb_flat.specs.Dynamics.{Unknowns, none, joint_motion}
use Rattle.rb_flat.specs.Contact.{Constraints, HasRow, row_speed, row_acceleration, difference}
use Rattle.rb_composite.specs.Composite.{ancestor, IsOnPath, HasJointColumn, over_joints, carried, share}
use Rattle.rb_jacobian.specs.Rules.{row_vector}

-- ---- rows
module _ (k : Constraints Frac) (turn : ℕ → Table Frac) where
  -- the vector of row r at its first body, and at its second
  abbrev pub first_vector : ℕ → Force Frac
  first_vector r =
      let w = k.row r in
      row_vector fractions w.turns (row (turn w.first) w.axis) (k.numbers r).first_point

  abbrev pub second_vector : ℕ → Force Frac
  second_vector r =
      let w = k.row r in
      row_vector fractions w.turns (row (turn w.second) w.axis) (k.numbers r).second_point

  -- the difference that row r holds, at motions of the bodies, and at speeds and accelerations
  abbrev pub row_speeds : (ℕ → Motion Frac) → ℕ → Frac
  row_speeds v r = difference fracs k turn r (λ t d q i. row_speed fracs t d q (v i))

  abbrev pub row_accelerations : Unknowns Frac → ℕ → Frac
  row_accelerations s r = difference fracs k turn r (λ t d q i. row_acceleration fracs t d q (s.speed i) (s.acceleration i))

module _ (shape : Shape) (m : Mechanism Frac) where
  -- how the bodies move at these rates of the columns, where the world is still
  pub record MovesAt (rate : ℕ → Frac) (v : ℕ → Motion Frac) : Type 0 where
    pub world : Motions Same (v 0) (none fracs)
    pub each : (i : ℕ) → HasBody shape i → Motions Same (v i) (plus fracs (in_body fracs (m.place i) (v (shape.parent i))) (joint_motion fracs shape m rate i))

  -- ---- the table
  -- the power of the force f on body b at each column of the joints that bear the body, and 0 at the other columns
  pub record AreEntries (b : ℕ) (f : Force Frac) (entry : ℕ → ℕ → Frac) : Type 0 where
    pub along : (n l : ℕ) → HasJointColumn shape (ancestor shape b n) l
        → Same (entry (ancestor shape b n) l) (power fractions (m.column (ancestor shape b n) l) (carried shape m b f n))
    pub off : (i l : ℕ) → HasJointColumn shape i l → (IsOnPath shape b i → ⊥) → Same (entry i l) fracs.nul

  module _ (k : Constraints Frac) (turn : ℕ → Table Frac) where
    -- in row r and column c the first body's entries less the second's, over the joint columns that are column c or follow it
    pub record IsJacobian (J : ℕ → ℕ → Frac) : Type 0 where
      pub first : ℕ → ℕ → ℕ → Frac
      pub second : ℕ → ℕ → ℕ → Frac
      pub firsts : (r : ℕ) → HasRow k r → AreEntries (k.row r).first (first_vector k turn r) (first r)
      pub seconds : (r : ℕ) → HasRow k r → AreEntries (k.row r).second (second_vector k turn r) (second r)
      pub each : (r c : ℕ) → HasRow k r → HasColumn shape c
          → Same (J r c) (over_joints shape (λ i l. mul (share shape m c i l) (minus fracs (first r i l) (second r i l))))
