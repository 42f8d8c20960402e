-- The rows of constraints over a work: the turn from each body to the world, the forces that each row puts on its two bodies, and the table of rows, by
-- row and column. Featherstone, Rigid Body Dynamics Algorithms, chapter 8.
use Rattle.std.specs.Prelude.{◌≡◌, ℕ, zero, suc, ◌+◌, ◌-◌, ◌≤◌, ◌==◌, ◌||◌, Bool, if◌then◌else◌, List, [], ◌∷◌, ◌++◌, length, map, replicate, flat_map, slice_index_or, slice_set, Result, Ok}
use Rattle.std.specs.List.{list_any}
use Rattle.std.specs.Option.{option_map_or}
use Rattle.rb_num.specs.Interval.{Interval, zero_interval, one_interval}
use Rattle.rb_num.specs.Dot.{iv_dot}
use Rattle.rb_num.specs.Refusing.{iv_add, iv_sub}
use Rattle.rb_num.specs.Arith.{intervals, signs_of}
use Rattle.rb_num.specs.declared.interval.NumFault.{NumFault}
use Rattle.rb_frac.specs.Ops.{V3}
use Rattle.rb_frac.specs.Tables.{Table, identity, transpose, row as row_in}
use Rattle.rb_frac.specs.Spatial.{Force}
use Rattle.rb_result.specs.Steps.{◌>>=◌}
use Rattle.rb_sweep.specs.Sweep.{sweep, upward}
use Rattle.rb_sweep.specs.Naming.{IsRefusedFirst}
use Rattle.rb_spatial.specs.Motions.{apply_dual}
use Rattle.rb_spatial.specs.Carrying.{product}
use Rattle.rb_flat.specs.Contact as Flat
use Rattle.rb_flat.specs.Contact.{Constraints, HasRow}
use Rattle.rb_flat.specs.Dynamics.{follows}
use Rattle.rb_joint.specs.Columns.{joint_power}
use Rattle.rb_jacobian.specs.Rules.{row_vector}
use Rattle.rb_work.specs.declared.names.NameKind.TheVariants as K
use Rattle.rb_work.specs.declared.names.RowFault.{RowFault}
use Rattle.rb_work.specs.Names.{one, named_as}
use Rattle.rb_work.specs.Path.{path}
use Rattle.rb_work.specs.View.{View, X_at, O_at, K_at, J_at}
use Rattle.rb_work.specs.Place.{Place, O_of, K_of, J_of, ValueOf, look, names}
use Rattle.rb_work.specs.Zeros.{zero_force}
use Rattle.rb_tree.specs.declared.robot.Body.{Body}
use Rattle.rb_tree.specs.declared.sizes.TheConstants.{MAX_COLUMNS}
use Rattle.rb_tree.specs.Columns.{parent_at, full_at, first_full, first_column, column_count, body_of_column}
use Rattle.rb_tree.specs.Numbers.{joint_at, mimic_at}
use Rattle.rb_tree.specs.Shape.{master_of}
use Rattle.rb_tree.specs.Robot.{Tree, HasBody}
use Rattle.rb_constraint.specs.declared.ways.Way.{Way}
use Rattle.rb_constraint.specs.declared.ways.Ways.{Ways}

-- ---- turns
-- the world is not turned
abbrev pub no_turn : Table Interval
no_turn = identity (signs_of intervals)

-- the parent's turn times that from the body to its parent
unfoldable pub turn_by : List Body → ℕ → View → Result (Table Interval) NumFault
turn_by bodies i w = product intervals (O_at w (parent_at bodies i)) (transpose (X_at w i).e)

-- O[i]: the turn from the body to the world
unfoldable pub O_rule : Tree → ℕ → View → Result (Table Interval) RowFault
O_rule tree i w = named_as (one K.O i) (turn_by tree.bodies i w)

-- ---- forces
-- of a row on body i, in which its point is this: a force of one along the axis of the world at the point, or a moment of one about it. The axis as the
-- body sees it is a row of the body's turn.
unfoldable pub force_by : Flat.Row → View → ℕ → V3 Interval → Result (Force Interval) NumFault
force_by line w i point = row_vector intervals line.turns (row_in (O_at w i) line.axis) point

-- on the first body, and on the second
unfoldable pub forces_by : Constraints Interval → ℕ → View → Result (List (Force Interval)) NumFault
forces_by k r w =
    force_by (k.row r) w (k.row r).first (k.numbers r).first_point >>= λ f.
    force_by (k.row r) w (k.row r).second (k.numbers r).second_point >>= λ g.
    Ok (f ∷ g ∷ [])

-- K[r]: the forces of row r
unfoldable pub K_rule : Constraints Interval → ℕ → View → Result (List (Force Interval)) RowFault
K_rule k r w = named_as (one K.K r) (forces_by k r w)

abbrev pub first_force : View → ℕ → Force Interval
first_force w r = slice_index_or (K_at w r) 0 zero_force

abbrev pub second_force : View → ℕ → Force Interval
second_force w r = slice_index_or (K_at w r) 1 zero_force

-- ---- along the path to the root
-- the body above each, from body 1 on
abbrev pub parents_of : List Body → List ℕ
parents_of bodies = map (λ body. body.parent) bodies

-- a force on body a, seen from its parent, or from body a where its parent is the world
unfoldable pub leave : List Body → View → ℕ → Force Interval → Result (Force Interval) NumFault
leave bodies w a f = if parent_at bodies a == 0 then Ok f else apply_dual intervals (X_at w a) f

-- nothing is left yet
abbrev pub start_of : Force Interval → Way
start_of force = record { force = force; entries = replicate (MAX_COLUMNS + 7) zero_interval }

-- at body a, the power of the force along column k of its joint is the entry of this column
unfoldable pub entry_at_column : List Body → ℕ → ℕ → Way → Result Way NumFault
entry_at_column bodies a k s =
    joint_power (joint_at bodies a) k s.force >>= λ x. Ok (record s { entries = slice_set s.entries (first_full bodies a + k) x })

abbrev pub entries_at_body : List Body → ℕ → Way → Result Way NumFault
entries_at_body bodies a s = sweep (entry_at_column bodies a) (upward 0 (full_at bodies a)) s

-- and the force goes on as the parent sees it
unfoldable pub at_body : List Body → View → ℕ → Way → Result Way NumFault
at_body bodies w a s = entries_at_body bodies a s >>= λ t. leave bodies w a t.force >>= λ force. Ok (record t { force = force })

-- a force on body i, from there to the root; entries off the path are zero
unfoldable pub way_from : List Body → View → ℕ → Force Interval → Result Way NumFault
way_from bodies w i force = sweep (at_body bodies w) (path (parents_of bodies) i) (start_of force)

-- both forces of a row
unfoldable pub ways_by : List Body → Constraints Interval → ℕ → View → Result Ways NumFault
ways_by bodies k r w =
    way_from bodies w (k.row r).first (first_force w r) >>= λ p.
    way_from bodies w (k.row r).second (second_force w r) >>= λ q.
    Ok (record { first = p; second = q })

-- ---- by column
-- whether some joint follows that of body i
abbrev pub is_led : List Body → ℕ → Bool
is_led bodies i = list_any (λ j. follows (master_of (mimic_at bodies j)) i) (upward 1 (length bodies + 1))

-- by how much the joint of body j follows another, or one
abbrev pub multiplier_at : List Body → ℕ → Interval
multiplier_at bodies j = option_map_or (λ mimic. mimic.multiplier) (mimic_at bodies j) one_interval

-- what the entry of a column of body j adds to one of body i: itself, or where a joint follows that of body i, times the multiplier
unfoldable pub weighed : List Body → ℕ → ℕ → Interval → Result Interval NumFault
weighed bodies i j x = if is_led bodies i then iv_dot ((multiplier_at bodies j, x) ∷ []) else Ok x

-- the entry of a joint column, of all joints the one of this number
abbrev pub entry_of : Way → ℕ → Interval
entry_of way f = slice_index_or way.entries f zero_interval

-- the first body's entry of joint column f less the second's is added
unfoldable pub add_entry : List Body → Ways → ℕ → ℕ → ℕ → Interval → Result Interval NumFault
add_entry bodies ways i j f sum =
    iv_sub (entry_of ways.first f) (entry_of ways.second f) >>= λ x.
    weighed bodies i j x >>= λ y.
    iv_add sum y

-- one more body j, if its joint is that of body i or follows it: its column k counts
unfoldable pub add_joint : List Body → Ways → ℕ → ℕ → ℕ → Interval → Result Interval NumFault
add_joint bodies ways i k j sum =
    if j == i || follows (master_of (mimic_at bodies j)) i then add_entry bodies ways i j (first_full bodies j + k) sum else Ok sum

-- column c: over the columns of joints that are it or follow it, ascending; there is no column 0
unfoldable pub column_by : List Body → Ways → ℕ → Result Interval NumFault
column_by bodies ways zero = Ok zero_interval
column_by bodies ways (suc m) =
    let i = body_of_column bodies (suc m) in
    let k = suc m - first_column bodies i in
    sweep (add_joint bodies ways i k) (upward 1 (length bodies + 1)) zero_interval

-- J[r], at column c: the forces have to be within the limit all the way up, also where there are no columns
unfoldable pub J_rule : Tree → Constraints Interval → ℕ → ℕ → View → Result Interval RowFault
J_rule tree k r c w = named_as (one K.J r) (ways_by tree.bodies k r w >>= λ ways. column_by tree.bodies ways c)

-- ---- what a work holds
-- row r has a place at each column, and at 0
pub record HasEntry (tree : Tree) (k : Constraints Interval) (r c : ℕ) : Type 0 where
  pub row : HasRow k r
  pub to : c ≤ column_count tree.bodies

-- each value is what its rule gives from the values that the work holds
pub record AreRows (tree : Tree) (k : Constraints Interval) (w : View) : Type 0 where
  pub at_world : O_at w 0 ≡ no_turn
  pub each_O : (i : ℕ) → HasBody tree i → O_rule tree i w ≡ Ok (O_at w i)
  pub each_K : (r : ℕ) → HasRow k r → K_rule k r w ≡ Ok (K_at w r)
  pub each_J : (r c : ℕ) → HasEntry tree k r c → J_rule tree k r c w ≡ Ok (J_at w r c)

-- ---- the names, in the order in which they are found
abbrev pub rule : Tree → Constraints Interval → (n : Place) → View → Result (ValueOf n) RowFault
rule tree k (O_of zero) w = Ok no_turn
rule tree k (O_of (suc i)) w = O_rule tree (suc i) w
rule tree k (K_of r) w = K_rule k r w
rule tree k (J_of r c) w = J_rule tree k r c w
rule tree k n w = Ok (look n w)

abbrev pub turn_order : Tree → List Place
turn_order tree = O_of 0 ∷ flat_map (λ i. O_of i ∷ []) (upward 1 (length tree.bodies + 1))

abbrev pub row_names : Tree → ℕ → List Place
row_names tree r = K_of r ∷ flat_map (λ c. J_of r c ∷ []) (upward 0 (column_count tree.bodies + 1))

abbrev pub row_order : Tree → Constraints Interval → List Place
row_order tree k = flat_map (row_names tree) (upward 1 (k.rows + 1))

abbrev pub order : Tree → Constraints Interval → List Place
order tree k = turn_order tree ++ row_order tree k

-- two works have the same places of bodies
abbrev pub SamePlaces : Tree → View → View → Type 0
SamePlaces tree u w = (i : ℕ) → HasBody tree i → X_at u i ≡ X_at w i

-- there are values with the places that are given, in which the names before one are what their rules give, and the rule of that one refuses
pub record IsRowRefused (tree : Tree) (k : Constraints Interval) (given : View) (e : RowFault) : Type 0 where
  pub values : View
  pub places : SamePlaces tree given values
  pub first : IsRefusedFirst (names (rule tree k) (order tree k)) values e

-- ---- laws
-- the turns, the forces and the table are the same
pub record SameRows (tree : Tree) (k : Constraints Interval) (u w : View) : Type 0 where
  pub turns : (i : ℕ) → i ≤ length tree.bodies → O_at u i ≡ O_at w i
  pub forces : (r : ℕ) → HasRow k r → K_at u r ≡ K_at w r
  pub table : (r c : ℕ) → HasEntry tree k r c → J_at u r c ≡ J_at w r c

-- where the rows fit the robot there is one answer, whatever works held but for its places: the same values, or one refusal, and not both
pub record RowsHaveOneAnswer (tree : Tree) (k : Constraints Interval) : Type 0 where
  pub values : (u w : View) → SamePlaces tree u w → AreRows tree k u → AreRows tree k w → SameRows tree k u w
  pub either : (u w : View) (e : RowFault) → SamePlaces tree u w → AreRows tree k u → IsRowRefused tree k w e → ⊥
  pub refusal : (u w : View) (d e : RowFault) → SamePlaces tree u w → IsRowRefused tree k u d → IsRowRefused tree k w e → d ≡ e
