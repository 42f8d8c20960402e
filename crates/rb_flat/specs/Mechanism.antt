-- A tree of bodies in numbers: what a choice gives each body and each column.
use Rattle.std.specs.Prelude.{ℕ}
use Rattle.rb_frac.specs.Ops.{V3}
use Rattle.rb_frac.specs.Frac.{Frac}
use Rattle.rb_frac.specs.Tables.{Symmetric, upper}
use Rattle.rb_frac.specs.Spatial.{Motion, Place}
use Rattle.rb_flat.specs.Shape.{Shape}
use Rattle.rb_flat.specs.Joint.{chosen_place, chosen_column}
use Rattle.rb_flat.specs.Body.{about_centre}
use Rattle.rb_flat.specs.Choice.{Choice}

-- gravity; by body its place in its parent, the columns of its joint, from 0, its mass, its centre of mass, its inertia about that centre, and by
-- how much its joint follows another; by column speed, acceleration and torque
pub record Mechanism (A : Type 0) : Type 0 where
  pub gravity : V3 A
  pub place : ℕ → Place A
  pub column : ℕ → ℕ → Motion A
  pub mass : ℕ → A
  pub centre : ℕ → V3 A
  pub inertia : ℕ → Symmetric A
  pub multiplier : ℕ → A
  pub speed : ℕ → A
  pub acceleration : ℕ → A
  pub torque : ℕ → A

unfoldable pub mechanism_of : Shape → Choice → Mechanism Frac
mechanism_of shape c = record {
  gravity = c.gravity;
  place = λ i. chosen_place (shape.kind i) (c.joint i);
  column = λ i k. chosen_column (shape.kind i) (c.joint i) k;
  mass = λ i. (c.link i).mass;
  centre = λ i. (c.link i).centre;
  inertia = λ i. upper (about_centre (c.link i));
  multiplier = λ i. (c.joint i).multiplier;
  speed = c.speed;
  acceleration = c.acceleration;
  torque = c.torque;
}
