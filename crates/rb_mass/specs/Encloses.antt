-- What the mass table of a work encloses, and what that table is for. Featherstone, Rigid Body Dynamics Algorithms, chapter 6.
use Rattle.std.specs.Prelude.{ℕ, suc}
use Rattle.rb_num.specs.Fraction.{LiesIn}
use Rattle.rb_frac.specs.Ops.{sum}
use Rattle.rb_frac.specs.Frac.{Frac, Same, fracs, add, mul}
use Rattle.rb_frac.specs.Spatial.{Force, Places}
use Rattle.rb_flat.specs.Choice.{Choice, IsChoice}
use Rattle.rb_flat.specs.Mechanism.{Mechanism, mechanism_of}
use Rattle.rb_flat.specs.Dynamics.{Unknowns, Moves, InverseDynamics, unaccelerated, IsMassTable}
use Rattle.rb_work.specs.View.{View, X_at, mass_at}
use Rattle.rb_tree.specs.Columns.{column_count}
use Rattle.rb_tree.specs.Robot.{Tree, HasBody, HasColumn, AreBodies}
use Rattle.rb_tree.specs.Shape.{shape_of, brackets_of}
use Rattle.rb_tree.specs.State.{Row, state_brackets}
use Rattle.rb_tree.specs.Places.{IsFor, ArePlaces}
use Rattle.rb_mass.specs.Mass.{AreMass, AreRow}

-- the entries of a table lie in those of the work, of which each is zero where its two columns are not on one path
abbrev pub EntriesLie : Tree → (ℕ → ℕ → Frac) → View → Type 0
EntriesLie tree table w = (c d : ℕ) → HasColumn tree c → HasColumn tree d → LiesIn (table c d) (mass_at w c d)

-- a mechanism has a mass table, and it lies in the work
pub record MassLies (tree : Tree) (m : Mechanism Frac) (w : View) : Type 0 where
  pub exists : (table : ℕ → ℕ → Frac) × IsMassTable (shape_of tree) m table
  pub lies : (table : ℕ → ℕ → Frac) → IsMassTable (shape_of tree) m table → EntriesLie tree table w

-- the place of each body lies in that of the work
abbrev pub PlacesLie : Tree → Mechanism Frac → View → Type 0
PlacesLie tree m w = (i : ℕ) → HasBody tree i → Places LiesIn (m.place i) (X_at w i)

-- it is so for each choice within the brackets of the robot whose places lie in those of the work, whatever the row
pub record EnclosesMass (tree : Tree) (w : View) : Type 0 where
  pub at : (row : Row) (c : Choice) → IsChoice (brackets_of tree) (state_brackets row) c → PlacesLie tree (mechanism_of (shape_of tree) c) w → MassLies tree (mechanism_of (shape_of tree) c) w

-- it is so for each choice within the brackets of the robot and of the row
pub record EnclosesRowMass (tree : Tree) (row : Row) (w : View) : Type 0 where
  pub at : (c : Choice) → IsChoice (brackets_of tree) (state_brackets row) c → MassLies tree (mechanism_of (shape_of tree) c) w

-- ---- laws
-- the torques of a motion are the bias, which needs no accelerations of the joints, and the table times these accelerations, whatever acts from outside
abbrev pub GivesTorques : Tree → Mechanism Frac → (ℕ → ℕ → Frac) → Type 0
GivesTorques tree m table =
    (outside : ℕ → Force Frac) (s bias : Unknowns Frac) → Moves fracs (shape_of tree) m Same outside s →
    InverseDynamics fracs (shape_of tree) (unaccelerated fracs m) Same outside bias →
    (c : ℕ) → HasColumn tree c → Same (s.torque c) (add (bias.torque c) (sum fracs (column_count tree.bodies) (λ d. mul (table c (suc d)) (s.joint_acceleration (suc d)))))

-- a mass table that lies in a work, and gives the torques
pub record TorquesByMass (tree : Tree) (m : Mechanism Frac) (w : View) : Type 0 where
  pub table : ℕ → ℕ → Frac
  pub is : IsMassTable (shape_of tree) m table
  pub lies : EntriesLie tree table w
  pub gives : GivesTorques tree m table

-- values that are what their rules give enclose the mass table of each choice
abbrev pub MassEncloses : Type 0
MassEncloses = (tree : Tree) (w : View) → AreBodies tree.bodies → IsFor tree w → AreMass tree w → EnclosesMass tree w

abbrev pub RowMassEncloses : Type 0
RowMassEncloses =
    (tree : Tree) (row : Row) (w : View) → AreBodies tree.bodies → IsFor tree w → ArePlaces tree row w → AreMass tree w → EnclosesRowMass tree row w

-- so do those of a row, whatever the work was made for
abbrev pub RowEncloses : Type 0
RowEncloses = (tree : Tree) (row : Row) (w : View) → AreBodies tree.bodies → AreRow tree row w → EnclosesRowMass tree row w

-- and the table in them gives the torques of the choice's mechanism
abbrev pub MassGivesTorques : Type 0
MassGivesTorques =
    (tree : Tree) (row : Row) (w : View) (c : Choice) → AreBodies tree.bodies → IsFor tree w → ArePlaces tree row w → AreMass tree w →
    IsChoice (brackets_of tree) (state_brackets row) c → TorquesByMass tree (mechanism_of (shape_of tree) c) w
