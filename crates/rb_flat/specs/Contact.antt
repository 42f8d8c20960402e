-- The equations of rows of constraints, between two bodies or a body and the world. Featherstone, Rigid Body Dynamics Algorithms, chapter 8.
use Rattle.std.specs.Prelude.{ℕ, suc, ◌<◌, ◌≤◌, ◌==◌, Bool, if◌then◌else◌}
use Rattle.rb_frac.specs.Ops.{Ops, signs, minus, V3, vadd, vscale, vdot, vcross}
use Rattle.rb_frac.specs.Frac.{Frac, Same, fracs}
use Rattle.rb_frac.specs.Tables.{Table, Tables, nothing, identity, transpose, row, table_product}
use Rattle.rb_frac.specs.Spatial.{Motion, Force}
use Rattle.rb_frac.specs.Mechanics.{plus, opposite}
use Rattle.rb_flat.specs.Shape.{Shape, HasBody}
use Rattle.rb_flat.specs.Choice.{Choice}
use Rattle.rb_flat.specs.Mechanism.{Mechanism, mechanism_of}
use Rattle.rb_flat.specs.Dynamics.{Unknowns, none, spatial_sum, ForwardDynamics, SameUnknowns}

-- a row without numbers: an axis of the world, from 0, whether the row holds a turn about it or a point along it, and its two bodies, of which each
-- may be the world, 0
pub record Row : Type 0 where
  pub axis : ℕ
  pub turns : Bool
  pub first : ℕ
  pub second : ℕ

-- its numbers: the constraint's point in each body, its compliance and its restitution
pub record RowNumbers (A : Type 0) : Type 0 where
  pub first_point : V3 A
  pub second_point : V3 A
  pub compliance : A
  pub restitution : A

-- rows are numbered from 1
pub record Constraints (A : Type 0) : Type 0 where
  pub rows : ℕ
  pub row : ℕ → Row
  pub numbers : ℕ → RowNumbers A

pub record HasRow {A : Type 0} (k : Constraints A) (r : ℕ) : Type 0 where
  pub from : 1 ≤ r
  pub to : r ≤ k.rows

-- the bodies of each row are there, and its axis is x, y or z
pub record RowFits (shape : Shape) (w : Row) : Type 0 where
  pub axis : w.axis < 3
  pub first : w.first ≤ shape.bodies
  pub second : w.second ≤ shape.bodies

abbrev pub RowsFit : {A : Type 0} → Shape → Constraints A → Type 0
RowsFit shape k = (r : ℕ) → HasRow k r → RowFits shape (k.row r)

-- what is to be found: the tree's motions and forces, by body the turn to the world, and by row its force
pub record ContactUnknowns (A : Type 0) : Type 0 where
  pub tree : Unknowns A
  pub turn : ℕ → Table A
  pub row_force : ℕ → A

module _ {A : Type 0} (o : Ops A) where
  -- how a point q of a body accelerates, whose speed is v and whose spatial acceleration is a
  unfoldable pub point_acceleration : V3 A → Motion A → Motion A → V3 A
  point_acceleration q v a = vadd o (vadd o a.lin (vcross o a.ang q)) (vcross o v.ang (vadd o v.lin (vcross o v.ang q)))

  -- how it moves
  unfoldable pub point_speed : V3 A → Motion A → V3 A
  point_speed q v = vadd o v.lin (vcross o v.ang q)

  -- along the direction d, or about it
  unfoldable pub row_acceleration : Bool → V3 A → V3 A → Motion A → Motion A → A
  row_acceleration turns d q v a = vdot o d (if turns then a.ang else point_acceleration q v a)

  unfoldable pub row_speed : Bool → V3 A → V3 A → Motion A → A
  row_speed turns d q v = vdot o d (if turns then v.ang else point_speed q v)

  -- what a row of the force x puts on a body: x along d at the point q, or the moment x about d
  unfoldable pub row_force : Bool → V3 A → V3 A → A → Force A
  row_force turns d q x =
      if turns
      then record { lin = nothing (signs o); ang = vscale o x d }
      else record { lin = vscale o x d; ang = vcross o q (vscale o x d) }

  -- what acts on body i, where it acts on the body of this number
  abbrev pub on_body : ℕ → ℕ → Force A → Force A
  on_body i body f = if body == i then f else none o

  module _ (k : Constraints A) where
    -- row r between its two bodies: the first's less the second's
    abbrev pub difference : (ℕ → Table A) → ℕ → (Bool → V3 A → V3 A → ℕ → A) → A
    difference turn r f =
        let w = k.row r in
        let n = k.numbers r in
        minus o (f w.turns (row (turn w.first) w.axis) n.first_point w.first) (f w.turns (row (turn w.second) w.axis) n.second_point w.second)

    -- what row r of the force x puts on body i: the second body gets the opposite of its own
    abbrev pub row_on : (ℕ → Table A) → ℕ → ℕ → A → Force A
    row_on turn i r x =
        let w = k.row r in
        let n = k.numbers r in
        plus o (on_body i w.first (row_force w.turns (row (turn w.first) w.axis) n.first_point x))
        (on_body i w.second (opposite o (row_force w.turns (row (turn w.second) w.axis) n.second_point x)))

    -- of all rows
    unfoldable pub rows_on : (ℕ → Table A) → (ℕ → A) → ℕ → Force A
    rows_on turn x i = spatial_sum o k.rows (λ r. row_on turn i (suc r) (x (suc r)))

  module _ (shape : Shape) (m : Mechanism A) (rel : A → A → Type 0) where
    -- the turn from each body to the world
    pub record AreTurns (turn : ℕ → Table A) : Type 0 where
      pub world : Tables rel (turn 0) (identity (signs o))
      pub each : (i : ℕ) → HasBody shape i → Tables rel (turn i) (table_product o (turn (shape.parent i)) (transpose (m.place i).e))

    -- the tree moves under given torques and the forces of the rows: each row keeps its difference of accelerations, but for its compliance
    pub record ContactDynamics (k : Constraints A) (s : ContactUnknowns A) : Type 0 where
      pub turns : AreTurns s.turn
      pub forward : ForwardDynamics o shape m rel (rows_on k s.turn s.row_force) s.tree
      pub held : (r : ℕ) → HasRow k r
          → rel (o.add (difference k s.turn r (λ t d q i. row_acceleration t d q (s.tree.speed i) (s.tree.acceleration i))) (o.mul (k.numbers r).compliance (s.row_force r))) o.nul

-- every unknown is the same number, where there is such a body, column and row
pub record SameContact {A B : Type 0} (rel : A → B → Type 0) (shape : Shape) (k : Constraints A) (s : ContactUnknowns A) (t : ContactUnknowns B) : Type 0 where
  pub tree : SameUnknowns rel shape s.tree t.tree
  pub turn : (i : ℕ) → i ≤ shape.bodies → Tables rel (s.turn i) (t.turn i)
  pub row_force : (r : ℕ) → HasRow k r → rel (s.row_force r) (t.row_force r)

-- over exact fractions
abbrev pub SolvesContact : Shape → Choice → Constraints Frac → ContactUnknowns Frac → Type 0
SolvesContact shape c k s = ContactDynamics fracs shape (mechanism_of shape c) Same k s
