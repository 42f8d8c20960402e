-- The one solution of forward dynamics of each choice lies in the values of a row.
use Rattle.std.proofs.Common.{◌≡◌, ℕ, zero, suc, ◌-◌, ◌<◌, ◌≤◌, max, min, Bool, true, false, if◌then◌else◌, List, length, Ok, inl, inr, refl, sym, ap, subst, arith}
use Rattle.std.proofs.lemmas.Bool.{cases_lt}
use Rattle.std.proofs.lemmas.Int.{ints}
use Rattle.rb_result.proofs.Results.{told-ok}
use Rattle.rb_frac.specs.Frac.{Frac, Same, fracs, whole}
use Rattle.rb_num.specs.Interval.{Interval, zero_interval}
use Rattle.rb_num.specs.Refusing.{iv_sub}
use Rattle.rb_num.specs.Fraction.{LiesIn}
use Rattle.rb_elimination.specs.Paths.{IsColumn, IsZeroOffPaths}
use Rattle.rb_elimination.specs.Paths as P
use Rattle.rb_elimination.specs.Factors.{fraction_steps}
use Rattle.rb_elimination.specs.Solving.{IsFound}
use Rattle.rb_elimination.proofs.Related.{pivots_met, factors_met, found_met}
use Rattle.rb_flat.specs.Choice.{Choice, IsChoice}
use Rattle.rb_flat.specs.Mechanism.{Mechanism, mechanism_of}
use Rattle.rb_flat.specs.Dynamics.{no_force}
use Rattle.rb_work.specs.Path.{above, Ascends, IsOn, is_on}
use Rattle.rb_work.specs.View.{View, columns_of, T_at, M_at, mass_at, L_at, D_at, w_at, z_at, k_at, x_at}
use Rattle.rb_work.proofs.PathLaws.{on_from_test, is_on_true, on_least, on_most}
use Rattle.rb_tree.specs.Columns.{column_count}
use Rattle.rb_tree.specs.Robot.{Tree, HasColumn, AreBodies}
use Rattle.rb_tree.specs.Shape.{shape_of, brackets_of}
use Rattle.rb_tree.specs.State.{Row, at_place, state_brackets}
use Rattle.rb_tree.specs.Places.{IsFor}
use Rattle.rb_tree.proofs.Shapes.{mimics_fit}
use Rattle.rb_tree.proofs.Spans.{ups_below}
use Rattle.rb_tree.proofs.ColumnsFit.{columns_fit, parents_first}
use Rattle.rb_tree.proofs.PlaceEncloses.{places_enclose}
use Rattle.rb_rnea.specs.Dynamics.{unaccelerated, DynamicsLie}
use Rattle.rb_rnea.proofs.DynamicsEnclose.{dynamics_enclose}
use Rattle.rb_mass.specs.Encloses.{EntriesLie, MassLies, PlacesLie}
use Rattle.rb_mass.proofs.MassEnclose.{mass_encloses}
use Rattle.rb_factor.specs.Steps.{interval_steps}
use Rattle.rb_factor.specs.Factor.{HoldsFactors}
use Rattle.rb_factor.specs.Laws.{NumbersLie, TableLies, AreWithin, EnclosesFactors}
use Rattle.rb_factor.proofs.Paths.{listed_on, on_listed, regular}
use Rattle.rb_factor.proofs.Relations.{fractions_lie, nonzero}
use Rattle.rb_contact.specs.Driving.{k_rule, AreDriving}
use Rattle.rb_contact.specs.Forward.{AreFactored, AreForward, ForwardLies, EnclosesForward}
use Rattle.rb_contact.proofs.Unaccelerated.{still, still_chosen}
use Rattle.rb_contact.proofs.ForwardEncloses.{driving, driving_lies, accelerations_lie}

-- ---- the columns of a work
pub ascends_for : (tree : Tree) (w : View) → AreBodies tree.bodies → IsFor tree w → Ascends w.up
ascends_for tree w kept room zero low high = absurd (omega arith)
ascends_for tree w kept room (suc k) low high =
    let l : k < length w.up = omega arith in
    let below = ups_below tree w.up room.up kept.parents k l in
    omega arith

module _ (up : List ℕ) (ascends : Ascends up) where
  -- a column and one on its path are in descending order
  pub in_order : (c d : ℕ) → IsOn up c d → (max c d ≡ c) × (min c d ≡ d)
  in_order c d on = let most : d ≤ c = on_most up ascends c d on in (omega arith, omega arith)

  -- off a path there is no pair
  not_on : (c d : ℕ) → ¬ P.IsOn (above up) c d → ¬ P.IsOn (above up) d c → is_on up (max c d) (min c d) ≡ false
  not_on c d off back = go (is_on up (max c d) (min c d)) refl
    where
      which : IsOn up (max c d) (min c d) → ⊥
      which on =
          elim (cases_lt c d) [
            | inl l ↦
                let m : max c d ≡ d = omega arith in
                let n : min c d ≡ c = omega arith in
                back (on_listed up ascends d c (subst (λ (b : ℕ). IsOn up d b) n (subst (λ (b : ℕ). IsOn up b (min c d)) m on)))
            | inr g ↦
                let m : max c d ≡ c = omega arith in
                let n : min c d ≡ d = omega arith in
                off (on_listed up ascends c d (subst (λ (b : ℕ). IsOn up c b) n (subst (λ (b : ℕ). IsOn up b (min c d)) m on)))
          ]

      go : (b : Bool) → is_on up (max c d) (min c d) ≡ b → is_on up (max c d) (min c d) ≡ false
      go true e = absurd (which (on_from_test up (max c d) (min c d) e))
      go false e = e

-- what lies in zero alone is zero
zero_alone : (x : Frac) → LiesIn x zero_interval → Same x fracs.nul
unfolding whole
zero_alone x h = let low = h.above in let high = h.below in omega (arith, ints)

module _ (tree : Tree) (table : ℕ → ℕ → Frac) (w : View) (ascends : Ascends w.up) (columns : length w.up ≡ column_count tree.bodies) (lies : EntriesLie tree table w) where
  robot_column : (c : ℕ) → IsColumn (columns_of w) c → HasColumn tree c
  robot_column c there = record { from = there.from; to = omega (arith, there.to, columns) }

  -- a pair of columns that are on no path has nothing
  pub sparse : IsZeroOffPaths (columns_of w) (above w.up) table
  sparse c d i j off back =
      let none : mass_at w c d ≡ zero_interval = ap (λ (b : Bool). if b then M_at w c d else zero_interval) (not_on w.up ascends c d off back) in
      zero_alone (table c d) (subst (λ (v : Interval). LiesIn (table c d) v) none (lies c d (robot_column c i) (robot_column d j)))

  -- the others have what the table has
  pub on_paths : TableLies (columns_of w) (above w.up) table (M_at w)
  on_paths c d there on =
      let listed : IsOn w.up c d = listed_on w.up ascends c d there.from on in
      let least : 1 ≤ d = on_least w.up ascends c d listed in
      let most : d ≤ c = on_most w.up ascends c d listed in
      let order = in_order w.up ascends c d listed in
      let test : is_on w.up (max c d) (min c d) ≡ true =
      subst (λ (a : ℕ). is_on w.up a (min c d) ≡ true) (sym order.0) (subst (λ (b : ℕ). is_on w.up c b ≡ true) (sym order.1) (is_on_true w.up ascends c d listed)) in
      let some : mass_at w c d ≡ M_at w c d = ap (λ (b : Bool). if b then M_at w c d else zero_interval) test in
      subst (λ (v : Interval). LiesIn (table c d) v) some
      (lies c d (robot_column c there) (record { from = least; to = let high : c ≤ columns_of w = there.to in omega (arith, columns) }))

-- ---- the factors, and what they find
-- the factors that a work holds enclose those of each table within the one that stood in their place
pub factors_enclose : (w : View) (mass : List Interval) → Ascends w.up → HoldsFactors (record w { packed = mass }) w → EnclosesFactors (record w { packed = mass }) w
unfolding fractions_lie
factors_enclose w mass ascends h =
    let n = columns_of w in
    let up = above w.up in
    let given = M_at (record w { packed = mass }) in
    record {
      at = λ m table L D f lies.
          let diagonal : NumbersLie n D (D_at w) = pivots_met fractions_lie n up (regular w.up ascends) m table L D given h.table (L_at w) (D_at w) f.factors h.are lies in
          record {
            pivots = λ c i. nonzero (D c) (D_at w c) (diagonal c i) (h.divisors c i);
            factors = factors_met fractions_lie n up (regular w.up ascends) m table L D given h.table (L_at w) (D_at w) f.factors h.are lies;
            diagonal = diagonal;
          };
    }

pub found_in : (tree : Tree) (row : Row) (w : View) → AreForward tree row w → IsFound interval_steps (columns_of w) (above w.up) (L_at w) (D_at w) (k_at w) (x_at w)
found_in tree row w h = record {
  left = h.solution.left;
  w = w_at w;
  z = z_at w;
  part = h.solution.part;
  reduced = h.solution.reduced;
  divided = h.solution.divided;
  substituted = h.solution.substituted;
}

-- ---- what the factors of a row enclose
module _ (tree : Tree) (row : Row) (w : View) (kept : AreBodies tree.bodies) (factored : AreFactored tree row w) where
  abbrev held : View
  held = record w { packed = factored.mass }

  abbrev columns : length w.up ≡ column_count tree.bodies
  columns = factored.room.up.count

  pub ascends : Ascends w.up
  ascends = ascends_for tree w kept factored.room

  abbrev pub robot_has : (c : ℕ) → IsColumn (columns_of w) c → HasColumn tree c
  robot_has c there = record { from = there.from; to = omega (arith, there.to, columns) }

  k_is : AreDriving tree row w → (c : ℕ) → IsColumn (columns_of w) c → iv_sub (at_place row.tau (c - 1)) (T_at w c) ≡ Ok (k_at w c)
  unfolding k_rule
  k_is driving c there = told-ok _ _ _ (driving.each_k c (robot_has c there))

  module _ (c : Choice) (chosen : IsChoice (brackets_of tree) (state_brackets row) c) where
    abbrev pub m : Mechanism Frac
    m = mechanism_of (shape_of tree) c

    pub places : PlacesLie tree (mechanism_of (shape_of tree) c) w
    unfolding mechanism_of
    places i has = (places_enclose tree (unaccelerated row) w kept factored.bias.places).at (still c) i (still_chosen tree row c chosen) has

    pub mass_lies : MassLies tree (mechanism_of (shape_of tree) c) held
    mass_lies =
        (mass_encloses tree held kept (record { bodies = factored.room.bodies; full = factored.room.full; up = factored.room.up }) factored.table).at row c chosen places

    -- the bias, without accelerations of the joints
    pub bias_lies : DynamicsLie tree (unaccelerated row) w (still c)
    bias_lies = (dynamics_enclose tree (unaccelerated row) w kept factored.bias).at (still c) (still_chosen tree row c chosen)

    torque_lies : NumbersLie (columns_of w) m.torque (λ k. at_place row.tau (k - 1))
    unfolding mechanism_of state_brackets
    torque_lies k there = (chosen.columns k (record { from = there.from; to = omega (arith, there.to, columns) })).torque

    -- what is left of the torques
    pub right_lies : AreDriving tree row w → NumbersLie (columns_of w) (driving m bias_lies.one.solution) (k_at w)
    right_lies drives =
        driving_lies (columns_of w) m bias_lies.one.solution (T_at w) (λ k. at_place row.tau (k - 1)) (k_at w)
        (λ k there. bias_lies.lies.torque k (robot_has k there)) torque_lies (k_is drives)

    -- the mass table, and its factors
    abbrev pub table : ℕ → ℕ → Frac
    table = mass_lies.exists.0

    pub sparse_table : IsZeroOffPaths (columns_of w) (above w.up) table
    sparse_table = sparse tree table held ascends columns (mass_lies.lies table mass_lies.exists.1)

    pub table_within : TableLies (columns_of w) (above w.up) table (M_at held)
    table_within = on_paths tree table held ascends columns (mass_lies.lies table mass_lies.exists.1)

-- ---- a row
module _ (tree : Tree) (row : Row) (w : View) (kept : AreBodies tree.bodies) (are : AreForward tree row w) where
  -- what the factors find for a right side within k
  solution_lies : (L : ℕ → ℕ → Frac) (D right y : ℕ → Frac) → AreWithin w L D → NumbersLie (columns_of w) right (k_at w)
      → IsFound fraction_steps (columns_of w) (above w.up) L D right y → NumbersLie (columns_of w) y (x_at w)
  unfolding fractions_lie
  solution_lies L D right y h lies f =
      found_met fractions_lie (columns_of w) (above w.up) (regular w.up (ascends tree row w kept are.factored)) L (L_at w) h.factors D right y (D_at w) (k_at w) (x_at w) f (found_in tree row w are) h.diagonal lies

  forward_lies : (c : Choice) → IsChoice (brackets_of tree) (state_brackets row) c → ForwardLies tree w c
  unfolding mechanism_of
  forward_lies c chosen =
      let factored = are.factored in
      let shape = shape_of tree in
      let up = ascends tree row w kept factored in
      let bias = bias_lies tree row w kept factored c chosen in
      let mass = mass_lies tree row w kept factored c chosen in
      let mechanism : Mechanism Frac = mechanism_of (shape_of tree) c in
      let within = accelerations_lie shape mechanism (no_force fracs) mass.exists.0 bias.one.solution (parents_first tree kept) (mimics_fit tree kept) (columns_fit tree kept) mass.exists.1 bias.one.solves
      (above w.up) (x_at w) (AreWithin w) (columns_of w) factored.room.up.count (regular w.up up) (sparse_table tree row w kept factored c chosen) (λ L D h. h.pivots)
      (λ t L D f. (factors_enclose w factored.mass up factored.factors).at mass.exists.0 t L D f (table_within tree row w kept factored c chosen))
      (λ L D y h f. solution_lies L D (driving mechanism bias.one.solution) y h (right_lies tree row w kept factored c chosen are.driving) f) in
      record { one = within.one; lies = λ k there. within.lies k (record { from = there.from; to = omega (arith, there.to, factored.room.up.count) }) }

pub forward_encloses : (tree : Tree) (row : Row) (w : View) → AreBodies tree.bodies → AreForward tree row w → EnclosesForward tree row w
forward_encloses tree row w kept are = record { at = λ c chosen. forward_lies tree row w kept are c chosen }
