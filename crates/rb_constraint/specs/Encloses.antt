-- What the values of rows enclose. Featherstone, Rigid Body Dynamics Algorithms, chapter 8.
use Rattle.std.specs.Prelude.{ℕ, ◌≤◌, length}
use Rattle.rb_num.specs.Interval.{Interval}
use Rattle.rb_num.specs.Fraction.{LiesIn}
use Rattle.rb_frac.specs.Frac.{Frac, Same, fracs}
use Rattle.rb_frac.specs.Tables.{Table, Tables}
use Rattle.rb_frac.specs.Spatial.{Forces, Motions, Places}
use Rattle.rb_flat.specs.Choice.{Choice, IsChoice}
use Rattle.rb_flat.specs.Mechanism.{Mechanism, mechanism_of}
use Rattle.rb_flat.specs.Dynamics.{Unknowns}
use Rattle.rb_flat.specs.Contact.{Constraints, HasRow, AreTurns}
use Rattle.rb_jacobian.specs.Jacobian.{first_vector, second_vector, row_accelerations, IsJacobian}
use Rattle.rb_work.specs.View.{View, X_at, v_at, a_at, O_at, J_at, g_at}
use Rattle.rb_tree.specs.Robot.{Tree, HasBody, HasColumn}
use Rattle.rb_tree.specs.Shape.{shape_of, brackets_of}
use Rattle.rb_tree.specs.State as State
use Rattle.rb_tree.specs.State.{state_brackets}
use Rattle.rb_constraint.specs.Constraints.{IsConstraintChoice}
use Rattle.rb_constraint.specs.Rows.{first_force, second_force}

-- the place of each body lies in that of the work
abbrev pub PlacesLie : Tree → Mechanism Frac → View → Type 0
PlacesLie tree m w = (i : ℕ) → HasBody tree i → Places LiesIn (m.place i) (X_at w i)

-- the turn of the world and of each body lies in O
abbrev pub TurnsLie : Tree → (ℕ → Table Frac) → View → Type 0
TurnsLie tree turn w = (i : ℕ) → i ≤ length tree.bodies → Tables LiesIn (turn i) (O_at w i)

-- the vectors of each row, at its first body and at its second, lie in K
pub record VectorsLie (k : Constraints Frac) (turn : ℕ → Table Frac) (w : View) : Type 0 where
  pub first : (r : ℕ) → HasRow k r → Forces LiesIn (first_vector k turn r) (first_force w r)
  pub second : (r : ℕ) → HasRow k r → Forces LiesIn (second_vector k turn r) (second_force w r)

-- the entries of a table of rows lie in J
abbrev pub TableLies : Tree → Constraints Frac → (ℕ → ℕ → Frac) → View → Type 0
TableLies tree k J w = (r c : ℕ) → HasRow k r → HasColumn tree c → LiesIn (J r c) (J_at w r c)

-- ---- rows
-- rows have a Jacobian, and it lies in the work with the turns and the vectors that give it
pub record RowsLie (tree : Tree) (m : Mechanism Frac) (k : Constraints Frac) (turn : ℕ → Table Frac) (w : View) : Type 0 where
  pub turns : TurnsLie tree turn w
  pub vectors : VectorsLie k turn w
  pub exists : (J : ℕ → ℕ → Frac) × IsJacobian (shape_of tree) m k turn J
  pub table : (J : ℕ → ℕ → Frac) → IsJacobian (shape_of tree) m k turn J → TableLies tree k J w

-- it is so for each choice within the brackets of the robot whose places lie in those of the work, whatever the row of the state, for each choice of the
-- numbers of the constraints, and for the turns of the bodies to the world
pub record EnclosesRows (tree : Tree) (list : Constraints Interval) (w : View) : Type 0 where
  pub at : (row : State.Row) (c : Choice) (k : Constraints Frac) (turn : ℕ → Table Frac) → IsChoice (brackets_of tree) (state_brackets row) c →
      PlacesLie tree (mechanism_of (shape_of tree) c) w → IsConstraintChoice list k →
      AreTurns fracs (shape_of tree) (mechanism_of (shape_of tree) c) Same turn → RowsLie tree (mechanism_of (shape_of tree) c) k turn w

-- ---- their bias
-- the motions of the world and of the bodies lie in v and a
pub record MotionsLie (tree : Tree) (s : Unknowns Frac) (w : View) : Type 0 where
  pub speed : (i : ℕ) → i ≤ length tree.bodies → Motions LiesIn (s.speed i) (v_at w i)
  pub acceleration : (i : ℕ) → i ≤ length tree.bodies → Motions LiesIn (s.acceleration i) (a_at w i)

-- how each row accelerates between its two bodies lies in the work, for all motions, turns and vectors that lie there, and each choice of the numbers of
-- the constraints; where the motions are those without accelerations of the joints, this is the bias of the row
pub record EnclosesBias (tree : Tree) (list : Constraints Interval) (w : View) : Type 0 where
  pub at : (k : Constraints Frac) (turn : ℕ → Table Frac) (s : Unknowns Frac) → IsConstraintChoice list k → TurnsLie tree turn w → VectorsLie k turn w →
      MotionsLie tree s w → (r : ℕ) → HasRow k r → LiesIn (row_accelerations k turn s r) (g_at w r)
