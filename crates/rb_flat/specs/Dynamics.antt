-- The equations of motion of a tree of rigid bodies: one relation between all its quantities, with no order and no recursion. Featherstone, Rigid
-- Body Dynamics Algorithms, chapters 2, 3 and 5.
use Rattle.std.specs.Prelude.{ℕ, zero, suc, ◌+◌, ◌-◌, ◌≤◌, ◌==◌, Bool, false, if◌then◌else◌, Option, None, Some}
use Rattle.rb_frac.specs.Ops.{Ops, signs, vneg, sum}
use Rattle.rb_frac.specs.Frac.{Frac, Same, fracs}
use Rattle.rb_frac.specs.Tables.{nothing}
use Rattle.rb_frac.specs.Spatial.{Spatial, Motion, Force, Motions, Forces}
use Rattle.rb_frac.specs.Mechanics.{plus, scaled, in_body, in_parent, motion_product, power_of, needed}
use Rattle.rb_flat.specs.Shape.{Shape, HasBody, HasColumn}
use Rattle.rb_flat.specs.Joint.{column_count}
use Rattle.rb_flat.specs.Choice.{Choice}
use Rattle.rb_flat.specs.Mechanism.{Mechanism, mechanism_of}

-- what is to be found, by body and by column
pub record Unknowns (A : Type 0) : Type 0 where
  pub speed : ℕ → Motion A
  pub acceleration : ℕ → Motion A
  pub needed : ℕ → Force A
  pub joint_force : ℕ → Force A
  pub joint_acceleration : ℕ → A
  pub torque : ℕ → A

-- whether a joint follows that of body i
abbrev pub follows : Option ℕ → ℕ → Bool
follows None i = false
follows (Some master) i = master == i

module _ {A : Type 0} (o : Ops A) where
  abbrev pub none : Spatial A
  none = record { lin = nothing (signs o); ang = nothing (signs o) }

  -- f 0 + .. + f (n - 1)
  unfoldable pub spatial_sum : ℕ → (ℕ → Spatial A) → Spatial A
  spatial_sum zero f = none
  spatial_sum (suc n) f = plus o (spatial_sum n f) (f n)

  -- the rate of a joint whose own column, or the one that it follows, has the rate x
  abbrev pub followed : Option ℕ → A → A → A
  followed None multiplier x = x
  followed (Some master) multiplier x = o.mul multiplier x

  module _ (shape : Shape) (m : Mechanism A) where
    -- the motion over the joint of body i: the sum of its columns, each times its rate
    unfoldable pub joint_motion : (ℕ → A) → ℕ → Motion A
    joint_motion rate i =
        spatial_sum (column_count (shape.kind i))
        (λ k. scaled o (followed (shape.mimic i) (m.multiplier i) (rate (shape.first_column i + k))) (m.column i k))

    -- what the joints of the children of body i bear, seen from body i; a body with another parent adds nothing
    unfoldable pub children_force : (ℕ → Force A) → ℕ → Force A
    children_force f i = spatial_sum shape.bodies (λ k. if shape.parent (suc k) == i then in_parent o (m.place (suc k)) (f (suc k)) else none)

    -- the power of what the joint of body i bears at its column k
    abbrev pub column_power : (ℕ → Force A) → ℕ → ℕ → A
    column_power f i k = power_of o (m.column i k) (f i)

    -- the same of the joints that follow that of body i, each times its multiplier
    unfoldable pub followers_power : (ℕ → Force A) → ℕ → ℕ → A
    followers_power f i k =
        sum o shape.bodies (λ j. if follows (shape.mimic (suc j)) i then o.mul (m.multiplier (suc j)) (column_power f (suc j) k) else o.nul)

    -- the torque of column c, which is a column of the joint of its owner
    unfoldable pub torque_of : (ℕ → Force A) → ℕ → A
    torque_of f c =
        let i = shape.owner c in
        let k = c - shape.first_column i in
        o.add (column_power f i k) (followers_power f i k)

    module _ (rel : A → A → Type 0) where
      -- the equations of all bodies, where an outside force acts on each, in the body's own frame
      pub record Moves (outside : ℕ → Force A) (s : Unknowns A) : Type 0 where
        -- the world stands still, and accelerates against gravity
        pub world_speed : Motions rel (s.speed 0) none
        pub world_acceleration : Motions rel (s.acceleration 0) (record { lin = vneg o m.gravity; ang = nothing (signs o) })
        -- a body moves as its parent does, and as its joint
        pub speeds : (i : ℕ) → HasBody shape i → Motions rel (s.speed i) (plus o (in_body o (m.place i) (s.speed (shape.parent i))) (joint_motion m.speed i))
        pub accelerations : (i : ℕ) → HasBody shape i → Motions rel (s.acceleration i)
            (plus o (plus o (in_body o (m.place i) (s.acceleration (shape.parent i))) (joint_motion s.joint_acceleration i))
            (motion_product o (s.speed i) (joint_motion m.speed i)))
        -- Newton and Euler: the force and the moment that the body needs
        pub newton_euler : (i : ℕ) → HasBody shape i → Forces rel (s.needed i) (needed o (m.mass i) (m.centre i) (m.inertia i) (s.speed i) (s.acceleration i))
        -- the joint and what acts from outside bear what the body needs and what the joints of its children bear
        pub balance : (i : ℕ) → HasBody shape i → Forces rel (plus o (s.joint_force i) (outside i)) (plus o (s.needed i) (children_force s.joint_force i))
        -- the joint's force along each column, and those of the joints that follow
        pub columns : (c : ℕ) → HasColumn shape c → rel (s.torque c) (torque_of s.joint_force c)

      -- inverse dynamics: the accelerations of the joints are given
      pub record InverseDynamics (outside : ℕ → Force A) (s : Unknowns A) : Type 0 where
        pub moves : Moves outside s
        pub given : (c : ℕ) → HasColumn shape c → rel (s.joint_acceleration c) (m.acceleration c)

      -- forward dynamics: the torques are given
      pub record ForwardDynamics (outside : ℕ → Force A) (s : Unknowns A) : Type 0 where
        pub moves : Moves outside s
        pub given : (c : ℕ) → HasColumn shape c → rel (s.torque c) (m.torque c)

  -- no force from outside
  abbrev pub no_force : ℕ → Force A
  no_force i = none

  -- without gravity and speeds, with the acceleration 1 of column d and 0 of the others
  abbrev pub at_unit : Mechanism A → ℕ → Mechanism A
  at_unit m d =
      record m { gravity = nothing (signs o); speed = λ c. o.nul; acceleration = λ c. if c == d then o.one else o.nul }

  -- without accelerations of the joints: what is left of the torques is the bias
  abbrev pub unaccelerated : Mechanism A → Mechanism A
  unaccelerated m = record m { acceleration = λ c. o.nul }

  -- without speeds
  abbrev pub at_rest : Mechanism A → Mechanism A
  at_rest m = record m { speed = λ c. o.nul }

-- every unknown is the same number, where there is such a body and column
pub record SameUnknowns {A B : Type 0} (rel : A → B → Type 0) (shape : Shape) (s : Unknowns A) (t : Unknowns B) : Type 0 where
  pub speed : (i : ℕ) → i ≤ shape.bodies → Motions rel (s.speed i) (t.speed i)
  pub acceleration : (i : ℕ) → i ≤ shape.bodies → Motions rel (s.acceleration i) (t.acceleration i)
  pub needed : (i : ℕ) → HasBody shape i → Forces rel (s.needed i) (t.needed i)
  pub joint_force : (i : ℕ) → HasBody shape i → Forces rel (s.joint_force i) (t.joint_force i)
  pub joint_acceleration : (c : ℕ) → HasColumn shape c → rel (s.joint_acceleration c) (t.joint_acceleration c)
  pub torque : (c : ℕ) → HasColumn shape c → rel (s.torque c) (t.torque c)

-- ---- over exact fractions
abbrev pub SolvesInverse : Shape → Choice → (ℕ → Force Frac) → Unknowns Frac → Type 0
SolvesInverse shape c outside s = InverseDynamics fracs shape (mechanism_of shape c) Same outside s

abbrev pub SolvesForward : Shape → Choice → (ℕ → Force Frac) → Unknowns Frac → Type 0
SolvesForward shape c outside s = ForwardDynamics fracs shape (mechanism_of shape c) Same outside s

-- there is exactly one solution, but for how its numbers are written
pub record HasOneSolution {U : Type 0} (Agree : U → U → Type 0) (Solves : U → Type 0) : Type 0 where
  pub solution : U
  pub solves : Solves solution
  pub only : (other : U) → Solves other → Agree other solution

-- the mass table: in column d the torques of the unit acceleration of column d, without gravity, speeds and forces from outside
pub record IsMassTable (shape : Shape) (m : Mechanism Frac) (table : ℕ → ℕ → Frac) : Type 0 where
  pub entry : (c d : ℕ) (s : Unknowns Frac) → HasColumn shape c → HasColumn shape d → InverseDynamics fracs shape (at_unit fracs m d) Same (no_force fracs) s → Same (table c d) (s.torque c)
