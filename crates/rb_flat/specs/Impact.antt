-- The equations of an impact on rows of constraints. Featherstone, Rigid Body Dynamics Algorithms, chapter 11.
use Rattle.std.specs.Prelude.{ℕ, ◌≤◌}
use Rattle.rb_frac.specs.Ops.{Ops, minus, V3, vadd, vscale, vcross}
use Rattle.rb_frac.specs.Frac.{Frac, Same, fracs}
use Rattle.rb_frac.specs.Tables.{Table, Symmetric, Tables, full, table_times}
use Rattle.rb_frac.specs.Spatial.{Motion, Force, Motions, Forces}
use Rattle.rb_frac.specs.Mechanics.{plus, in_body}
use Rattle.rb_flat.specs.Shape.{Shape, HasBody, HasColumn}
use Rattle.rb_flat.specs.Choice.{Choice}
use Rattle.rb_flat.specs.Mechanism.{Mechanism, mechanism_of}
use Rattle.rb_flat.specs.Dynamics.{none, joint_motion, children_force, torque_of}
use Rattle.rb_flat.specs.Contact.{Constraints, HasRow, AreTurns, difference, row_speed, rows_on}

-- what is to be found: by body the turn to the world, its speed before and how that changes, the impulse that it needs and that of its joint; by
-- column the speed after; and by row its impulse
pub record Impulses (A : Type 0) : Type 0 where
  pub turn : ℕ → Table A
  pub speed : ℕ → Motion A
  pub change : ℕ → Motion A
  pub needed : ℕ → Force A
  pub joint_impulse : ℕ → Force A
  pub speed_after : ℕ → A
  pub row_impulse : ℕ → A

module _ {A : Type 0} (o : Ops A) where
  -- what changes the momentum of a body: m (du + dw x c), and Ic dw + c x that
  unfoldable pub needed_impulse : A → V3 A → Symmetric A → Motion A → Force A
  needed_impulse m c ic d =
      let p = vscale o m (vadd o d.lin (vcross o d.ang c)) in
      record { lin = p; ang = vadd o (table_times o (full ic) d.ang) (vcross o c p) }

  module _ (shape : Shape) (m : Mechanism A) (rel : A → A → Type 0) where
    -- no joint is driven, and the difference of speeds of each row turns round, by its restitution
    pub record ImpactDynamics (k : Constraints A) (s : Impulses A) : Type 0 where
      pub turns : AreTurns o shape m rel s.turn
      pub world_speed : Motions rel (s.speed 0) (none o)
      pub speeds : (i : ℕ) → HasBody shape i → Motions rel (s.speed i) (plus o (in_body o (m.place i) (s.speed (shape.parent i))) (joint_motion o shape m m.speed i))
      pub world_change : Motions rel (s.change 0) (none o)
      pub changes : (i : ℕ) → HasBody shape i → Motions rel (s.change i)
          (plus o (in_body o (m.place i) (s.change (shape.parent i))) (joint_motion o shape m (λ c. minus o (s.speed_after c) (m.speed c)) i))
      pub momentum : (i : ℕ) → HasBody shape i → Forces rel (s.needed i) (needed_impulse (m.mass i) (m.centre i) (m.inertia i) (s.change i))
      pub balance : (i : ℕ) → HasBody shape i → Forces rel (plus o (s.joint_impulse i) (rows_on o k s.turn s.row_impulse i)) (plus o (s.needed i) (children_force o shape m s.joint_impulse i))
      pub columns : (c : ℕ) → HasColumn shape c → rel o.nul (torque_of o shape m s.joint_impulse c)
      pub turned : (r : ℕ) → HasRow k r
          → rel (difference o k s.turn r (λ t d q i. row_speed o t d q (plus o (s.speed i) (s.change i))))
          (o.neg (o.mul (k.numbers r).restitution (difference o k s.turn r (λ t d q i. row_speed o t d q (s.speed i)))))

-- every unknown is the same number, where there is such a body, column and row
pub record SameImpulses {A B : Type 0} (rel : A → B → Type 0) (shape : Shape) (k : Constraints A) (s : Impulses A) (t : Impulses B) : Type 0 where
  pub turn : (i : ℕ) → i ≤ shape.bodies → Tables rel (s.turn i) (t.turn i)
  pub speed : (i : ℕ) → i ≤ shape.bodies → Motions rel (s.speed i) (t.speed i)
  pub change : (i : ℕ) → i ≤ shape.bodies → Motions rel (s.change i) (t.change i)
  pub needed : (i : ℕ) → HasBody shape i → Forces rel (s.needed i) (t.needed i)
  pub joint_impulse : (i : ℕ) → HasBody shape i → Forces rel (s.joint_impulse i) (t.joint_impulse i)
  pub speed_after : (c : ℕ) → HasColumn shape c → rel (s.speed_after c) (t.speed_after c)
  pub row_impulse : (r : ℕ) → HasRow k r → rel (s.row_impulse r) (t.row_impulse r)

-- over exact fractions
abbrev pub SolvesImpact : Shape → Choice → Constraints Frac → Impulses Frac → Type 0
SolvesImpact shape c k s = ImpactDynamics fracs shape (mechanism_of shape c) Same k s
