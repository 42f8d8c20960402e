-- The mass table of a row by composite inertias: the values that a work holds, the first name that is refused, and the answer. Featherstone, Rigid
-- Body Dynamics Algorithms, chapter 6.
use Rattle.std.specs.Prelude.{◌≡◌, ◌⊎◌, ◌↔◌, ℕ, ◌+◌, if◌then◌else◌, ⊤, max, min, List, [], ◌∷◌, ◌++◌, length, map, flat_map, Result, Ok, Err}
use Rattle.rb_num.specs.Interval.{Interval}
use Rattle.rb_frac.specs.Spatial.{Inertia}
use Rattle.rb_result.specs.Steps.{◌>>=◌}
use Rattle.rb_sweep.specs.Sweep.{upward, downward}
use Rattle.rb_sweep.specs.Naming.{Naming, run, IsRefusedFirst}
use Rattle.rb_work.specs.declared.names.RowFault.{RowFault}
use Rattle.rb_work.specs.Path.{is_on}
use Rattle.rb_work.specs.View.{View, Extent, blank_of, X_at, I_at, M_at, mass_at}
use Rattle.rb_work.specs.Place.{I_of, H_of, packed_of, put as put_at, names}
use Rattle.rb_tree.specs.Columns.{column_count, full_count, full_at, first_full}
use Rattle.rb_tree.specs.Robot.{Tree, HasBody}
use Rattle.rb_tree.specs.State.{Row}
use Rattle.rb_tree.specs.Places.{ArePlaces, IsPlaceRefused, rule as place_rule, order as place_order}
use Rattle.rb_mass.specs.Inertias.{I_rule, AreInertias}
use Rattle.rb_mass.specs.Entries.{above, met_columns, entry_at, H_rule, carried_rule, AreEntries}
use Rattle.rb_mass.specs.Table.{ups_of, M_rule, AreMasses}

-- each value that the work holds is what its rule gives from the values that the work holds
pub record AreMass (tree : Tree) (w : View) : Type 0 where
  pub inertias : AreInertias tree w
  pub entries : AreEntries tree w
  pub masses : AreMasses tree w

-- ---- the names, in the order in which they are found
-- I[i]; the entry of columns k of body i and l of the body n steps above; that the force of the first is within the limit up to the root; M[c.d]
pub data Name : Type 0 where
  inertia : ℕ → Name
  entry : ℕ → ℕ → ℕ → ℕ → Name
  carried : ℕ → ℕ → Name
  mass : ℕ → ℕ → Name

abbrev pub ValueOf : Name → Type 0
ValueOf (inertia i) = Inertia Interval
ValueOf (entry i k n l) = Interval
ValueOf (carried i k) = ⊤
ValueOf (mass c d) = Interval

abbrev pub rule : Tree → (m : Name) → View → Result (ValueOf m) RowFault
rule tree (inertia i) w = I_rule tree i w
rule tree (entry i k n l) w = H_rule tree i k n l w
rule tree (carried i k) w = carried_rule tree i k w
rule tree (mass c d) w = M_rule tree c d w

-- what a work holds for it
abbrev pub look : Tree → (m : Name) → View → ValueOf m
look tree (inertia i) w = I_at w i
look tree (entry i k n l) w = entry_at tree.bodies w i k (above tree i n) l
look tree (carried i k) w = tt
look tree (mass c d) w = M_at w c d

-- the work that holds this for it, and all else as it is
abbrev pub put : Tree → (m : Name) → ValueOf m → View → View
put tree (inertia i) x w = put_at (I_of i) x w
put tree (entry i k n l) x w = put_at (H_of (first_full tree.bodies i + k) (first_full tree.bodies (above tree i n) + l)) x w
put tree (carried i k) x w = w
put tree (mass c d) x w = put_at (packed_of (max c d) (min c d)) x w

-- the pairs of column k of body i with columns of the body n steps above
abbrev pub entries_met : Tree → ℕ → ℕ → ℕ → List Name
entries_met tree i k n = flat_map (λ l. entry i k n l ∷ []) (upward 0 (met_columns tree.bodies i k (above tree i n)))

-- those of column k of body i
abbrev pub column_names : Tree → ℕ → ℕ → List Name
column_names tree i k = flat_map (entries_met tree i k) (upward 0 (length tree.bodies)) ++ carried i k ∷ []

abbrev pub joint_names : Tree → ℕ → List Name
joint_names tree i = flat_map (column_names tree i) (upward 0 (full_at tree.bodies i))

abbrev pub mass_names : Tree → ℕ → List Name
mass_names tree c = flat_map (λ d. if is_on (ups_of tree) d c then mass c d ∷ [] else []) (upward c (column_count tree.bodies + 1))

abbrev pub inertia_order : Tree → List Name
inertia_order tree = flat_map (λ i. inertia i ∷ []) (downward 1 (length tree.bodies + 1))

abbrev pub entry_order : Tree → List Name
entry_order tree = flat_map (joint_names tree) (upward 1 (length tree.bodies + 1))

abbrev pub mass_order : Tree → List Name
mass_order tree = flat_map (mass_names tree) (upward 1 (column_count tree.bodies + 1))

abbrev pub order : Tree → List Name
order tree = inertia_order tree ++ (entry_order tree ++ mass_order tree)

abbrev pub naming : Tree → Naming View RowFault
naming tree = record { Name = Name; Value = ValueOf; rule = rule tree; look = look tree; put = put tree; order = order tree }

-- two works have the same places of bodies
abbrev pub SamePlaces : Tree → View → View → Type 0
SamePlaces tree u w = (i : ℕ) → HasBody tree i → X_at u i ≡ X_at w i

-- there are values with the places that are given, in which the names before one are what their rules give, and the rule of that one refuses
pub record IsMassRefused (tree : Tree) (given : View) (e : RowFault) : Type 0 where
  pub values : View
  pub places : SamePlaces tree given values
  pub first : IsRefusedFirst (naming tree) values e

-- ---- answers
-- the mass table: for each column a row
abbrev pub table_in : Tree → View → List (List Interval)
table_in tree w =
    let columns = upward 1 (column_count tree.bodies + 1) in
    map (λ c. map (mass_at w c) columns) columns

-- a work for the robot
abbrev pub extent_for : Tree → Extent
extent_for tree = record { bodies = length tree.bodies; full = full_count tree.bodies; up = ups_of tree; rows = 0 }

-- from zeros, but for the places of a work, each name in turn gets the value that its rule gives, up to the first that is refused
unfoldable pub mass_of : Tree → View → Result (List (List Interval)) RowFault
mass_of tree given =
    run (naming tree) (order tree) (record (blank_of (extent_for tree)) { X = given.X }) >>= λ w. Ok (table_in tree w)

-- ---- rows
-- the first name that is refused is among the places, or the places stand, and it is behind them
abbrev pub IsRefused : Tree → Row → RowFault → Type 0
IsRefused tree row e = IsPlaceRefused tree row e ⊎ ((w : View) × ArePlaces tree row w × IsMassRefused tree w e)

-- the same of the places first
unfoldable pub answer_of : Tree → Row → Result (List (List Interval)) RowFault
answer_of tree row = run (names (place_rule tree row) (place_order tree)) (place_order tree) (blank_of (extent_for tree)) >>= λ w. mass_of tree w

-- ---- laws
-- there is one answer, whatever works for the robot held but for its places: the same table, or one refusal, and not both
pub record MassHasOneAnswer (tree : Tree) : Type 0 where
  pub values : (u w : View) → u.up ≡ ups_of tree → w.up ≡ ups_of tree → SamePlaces tree u w → AreMass tree u → AreMass tree w → table_in tree u ≡ table_in tree w
  pub either : (u w : View) (e : RowFault) → SamePlaces tree u w → AreMass tree u → IsMassRefused tree w e → ⊥
  pub refusal : (u w : View) (d e : RowFault) → SamePlaces tree u w → IsMassRefused tree u d → IsMassRefused tree w e → d ≡ e

-- values that are what their rules give from those of the row
pub record AreRow (tree : Tree) (row : Row) (w : View) : Type 0 where
  pub columns : w.up ≡ ups_of tree
  pub places : ArePlaces tree row w
  pub masses : AreMass tree w

-- of a row there is one answer, whatever works held
pub record RowHasOneAnswer (tree : Tree) (row : Row) : Type 0 where
  pub values : (u w : View) → AreRow tree row u → AreRow tree row w → table_in tree u ≡ table_in tree w
  pub either : (w : View) (e : RowFault) → AreRow tree row w → IsRefused tree row e → ⊥
  pub refusal : (d e : RowFault) → IsRefused tree row d → IsRefused tree row e → d ≡ e

-- what the answer means: the table of such values, or a refusal of such a name
pub record AnswerMeans (tree : Tree) (row : Row) : Type 0 where
  pub values : (table : List (List Interval)) → (answer_of tree row ≡ Ok table) ↔ ((w : View) × AreRow tree row w × (table_in tree w ≡ table))
  pub refused : (e : RowFault) → (answer_of tree row ≡ Err e) ↔ IsRefused tree row e
