-- What the values of a task enclose.
use Rattle.std.proofs.Common.{◌≡◌, ◌<◌, ◌≤◌, ◌+◌, ℕ, zero, suc, List, [], ◌∷◌, ◌++◌, length, map, Some, sym, ap, ◌∙◌, arith, subst, length-append}
use Rattle.std.specs.Prelude.{slice_get}
use Rattle.std.proofs.lemmas.Option.{get_or_from_slice_get, slice_get_within}
use Rattle.std.proofs.lemmas.List.{length-map}
use Rattle.rb_frac.specs.Frac.{Frac, fracs}
use Rattle.rb_num.specs.Interval.{Interval}
use Rattle.rb_num.specs.Fraction.{LiesIn}
use Rattle.rb_num.proofs.Same.{lies_in_same}
use Rattle.rb_flat.specs.Choice.{Choice}
use Rattle.rb_flat.specs.Dynamics.{at_unit, no_force}
use Rattle.rb_flat.specs.Mechanism.{mechanism_of}
use Rattle.rb_flat.proofs.OneSolution.{inverse_has_one_solution}
use Rattle.rb_sweep.specs.Sweep.{upward}
use Rattle.rb_sweep.proofs.Climbing.{length-upward, upward_at}
use Rattle.rb_urdf.proofs.Zips.{slice_get-of_map}
use Rattle.rb_work.specs.View.{View, T_at, x_at, y_at, lam_at, mass_at}
use Rattle.rb_tree.specs.Columns.{column_count}
use Rattle.rb_tree.specs.Robot.{Tree, HasColumn, AreBodies}
use Rattle.rb_tree.specs.Shape.{shape_of}
use Rattle.rb_tree.specs.State.{Row}
use Rattle.rb_tree.proofs.ColumnsFit.{columns_fit, parents_first}
use Rattle.rb_rnea.specs.Dynamics.{EnclosesDynamics, torques_in}
use Rattle.rb_mass.specs.Encloses.{MassLies, EnclosesRowMass}
use Rattle.rb_constraint.specs.declared.constraints.Constraint.{Constraint}
use Rattle.rb_constraint.specs.Constraints.{constraints_of}
use Rattle.rb_contact.specs.Contact.{EnclosesContact, forces_in}
use Rattle.rb_contact.specs.Forward.{EnclosesForward, accelerations_in}
use Rattle.rb_impact.specs.Impact.{EnclosesImpact, speeds_in, impulses_in}
use Rattle.rb_aba.specs.Forward as Articulated
use Rattle.rb_rows.specs.Head.{pairs_of}
use Rattle.rb_rows.specs.declared.task.Task.TheVariants as task
use Rattle.rb_run.specs.Answers.{mass_of_pair, masses_in}
use Rattle.rb_run.specs.Meaning.{HasMassesWithin, Encloses}
use Rattle.rb_run.proofs.Pairs.{pairs_counted, pair_at}

-- ---- values of columns
columns_long : (at : ℕ → Interval) (n : ℕ) → length (map at (upward 1 (n + 1))) ≡ n
columns_long at n = omega (arith, length-map (upward 1 (n + 1)) at, length-upward 1 (n + 1))

-- the value at a place is that of the column
column_at : (at : ℕ → Interval) (n k : ℕ) (value : Interval) → slice_get (map at (upward 1 (n + 1))) k ≡ Some value → (k < n) × (at (k + 1) ≡ value)
column_at at n k value is =
    let columns = upward 1 (n + 1) in
    let found = slice_get-of_map at columns k value is in
    let few : k < n = omega (arith, slice_get_within columns k found.0 found.1, length-upward 1 (n + 1)) in
    let next : 1 + k ≡ k + 1 = omega arith in
    let number : found.0 ≡ k + 1 = sym (get_or_from_slice_get columns k found.0 0 found.1) ∙ upward_at 1 (n + 1) k 0 (omega (arith, few)) ∙ next in
    (few, ap at (sym number) ∙ found.2)

columns_lie : (at : ℕ → Interval) (n : ℕ) (x : ℕ → Frac) → ((c : ℕ) → 1 ≤ c → c ≤ n → LiesIn (x c) (at c)) → (k : ℕ) (value : Interval)
    → slice_get (map at (upward 1 (n + 1))) k ≡ Some value → LiesIn (x (k + 1)) value
columns_lie at n x lie k value is =
    let found = column_at at n k value is in
    subst (λ v. LiesIn (x (k + 1)) v) found.1 (lie (k + 1) (omega arith) (omega (arith, found.0)))

-- torques of values that are what their rules give enclose
pub torques_enclose : (tree : Tree) (cons : List Constraint) (row : Row) (w : View) → EnclosesDynamics tree row w → Encloses task.Rnea tree cons row (torques_in tree w)
torques_enclose tree cons row w encloses = record {
  count = columns_long (T_at w) (column_count tree.bodies);
  each = λ choice chosen.
      let lie = encloses.at choice chosen in
      record { one = lie.one; within = columns_lie (T_at w) (column_count tree.bodies) lie.one.solution.torque (λ c from to. lie.lies.torque c (record { from = from; to = to })) };
}

pub accelerations_enclose : (tree : Tree) (cons : List Constraint) (row : Row) (w : View) → EnclosesForward tree row w → Encloses task.Fd tree cons row (accelerations_in tree w)
accelerations_enclose tree cons row w encloses = record {
  count = columns_long (x_at w) (column_count tree.bodies);
  each = λ choice chosen.
      let lie = encloses.at choice chosen in
      record { one = lie.one; within = columns_lie (x_at w) (column_count tree.bodies) lie.one.solution.joint_acceleration (λ c from to. lie.lies c (record { from = from; to = to })) };
}

pub articulated_enclose : (tree : Tree) (cons : List Constraint) (row : Row) (w : View) → Articulated.EnclosesForward tree row w → Encloses task.Aba tree cons row (Articulated.accelerations_in tree w)
articulated_enclose tree cons row w encloses = record {
  count = columns_long (x_at w) (column_count tree.bodies);
  each = λ choice chosen.
      let lie = encloses.at choice chosen in
      record { one = lie.one; within = columns_lie (x_at w) (column_count tree.bodies) lie.one.solution.joint_acceleration (λ c from to. lie.lies.joint_acceleration c (record { from = from; to = to })) };
}

-- ---- under constraints
-- a value at a place in front is one of the first list, and one behind them is one of the second
in_front : (xs ys : List Interval) (k : ℕ) (value : Interval) → k < length xs → slice_get (xs ++ ys) k ≡ Some value → slice_get xs k ≡ Some value
in_front [] ys k value within is = absurd (omega (arith, within))
in_front (x ∷ xs) ys zero value within is = is
in_front (x ∷ xs) ys (suc k) value within is = in_front xs ys k value (omega (arith, within)) is

at_back : (xs ys : List Interval) (n k : ℕ) (value : Interval) → n ≡ length xs → slice_get (xs ++ ys) (n + k) ≡ Some value → slice_get ys k ≡ Some value
at_back [] ys zero k value long is = let e : 0 + k ≡ k = omega arith in subst (λ (m : ℕ). slice_get ys m ≡ Some value) e is
at_back [] ys (suc n) k value long is = absurd (omega (arith, long))
at_back (x ∷ xs) ys zero k value long is = absurd (omega (arith, long))
at_back (x ∷ xs) ys (suc n) k value long is =
    let e : suc n + k ≡ suc (n + k) = omega arith in
    at_back xs ys n k value (omega (arith, long)) (subst (λ (m : ℕ). slice_get (x ∷ (xs ++ ys)) m ≡ Some value) e is)

-- so many values of columns, and behind them so many of rows
module _ (at row_at : ℕ → Interval) (n rows : ℕ) where
  abbrev values_of_columns : List Interval
  values_of_columns = map at (upward 1 (n + 1))

  abbrev values_of_rows : List Interval
  values_of_rows = map row_at (upward 1 (rows + 1))

  both_long : length (values_of_columns ++ values_of_rows) ≡ n + rows
  both_long = omega (arith, length-append values_of_columns values_of_rows, columns_long at n, columns_long row_at rows)

  front_lies : (x : ℕ → Frac) → ((c : ℕ) → 1 ≤ c → c ≤ n → LiesIn (x c) (at c)) → (k : ℕ) (value : Interval) → k < n
      → slice_get (values_of_columns ++ values_of_rows) k ≡ Some value → LiesIn (x (k + 1)) value
  front_lies x lie k value within is = columns_lie at n x lie k value (in_front values_of_columns values_of_rows k value (omega (arith, columns_long at n, within)) is)

  back_lies : (x : ℕ → Frac) → ((r : ℕ) → 1 ≤ r → r ≤ rows → LiesIn (x r) (row_at r)) → (k : ℕ) (value : Interval)
      → slice_get (values_of_columns ++ values_of_rows) (n + k) ≡ Some value → LiesIn (x (k + 1)) value
  back_lies x lie k value is = columns_lie row_at rows x lie k value (at_back values_of_columns values_of_rows n k value (sym (columns_long at n)) is)

pub contact_encloses : (tree : Tree) (cons : List Constraint) (row : Row) (w : View) → EnclosesContact tree row (constraints_of cons) w
    → Encloses task.Contact tree cons row (accelerations_in tree w ++ forces_in (constraints_of cons) w)
contact_encloses tree cons row w encloses =
    let n = column_count tree.bodies in
    let k = constraints_of cons in
    record {
      count = both_long (x_at w) (lam_at w) n k.rows;
      each = λ choice chosen numbers given.
          let lie = encloses.at choice numbers chosen given in
          record {
            one = lie.one;
            accelerations = front_lies (x_at w) (lam_at w) n k.rows lie.one.solution.tree.joint_acceleration (λ c from to. lie.accelerations c (record { from = from; to = to }));
            forces = back_lies (x_at w) (lam_at w) n k.rows lie.one.solution.row_force (λ r from to. lie.forces r (record { from = from; to = omega (arith, to, given.rows) }));
          };
    }

pub impulse_encloses : (tree : Tree) (cons : List Constraint) (row : Row) (w : View) → EnclosesImpact tree row (constraints_of cons) w
    → Encloses task.Impulse tree cons row (speeds_in tree w ++ impulses_in (constraints_of cons) w)
impulse_encloses tree cons row w encloses =
    let n = column_count tree.bodies in
    let k = constraints_of cons in
    record {
      count = both_long (y_at w) (lam_at w) n k.rows;
      each = λ choice chosen numbers given.
          let lie = encloses.at choice numbers chosen given in
          record {
            one = lie.one;
            speeds = front_lies (y_at w) (lam_at w) n k.rows lie.one.solution.speed_after (λ c from to. lie.speeds c (record { from = from; to = to }));
            impulses = back_lies (y_at w) (lam_at w) n k.rows lie.one.solution.row_impulse (λ r from to. lie.impulses r (record { from = from; to = omega (arith, to, given.rows) }));
          };
    }

-- ---- the mass table
module _ (tree : Tree) (kept : AreBodies tree.bodies) (w : View) where
  column_lies : (choice : Choice) → MassLies tree (mechanism_of (shape_of tree) choice) w → (d : ℕ) → HasColumn tree d → HasMassesWithin tree choice (masses_in tree w) d
  column_lies choice lie d column =
      let one = inverse_has_one_solution (shape_of tree) (at_unit fracs (mechanism_of (shape_of tree) choice) d) (no_force fracs) (parents_first tree kept) (columns_fit tree kept) in
      record {
        one = one;
        within = λ k c mass pair there.
            let is_pair = pair_at (column_count tree.bodies) k c d pair in
            let has = slice_get-of_map (mass_of_pair w) (pairs_of (column_count tree.bodies)) k mass there in
            let same : (c, d) ≡ has.0 = same_some (sym pair ∙ has.1) in
            let value : mass_at w c d ≡ mass = ap (mass_of_pair w) same ∙ has.2 in
            let first : HasColumn tree c = record { from = is_pair.from; to = omega (arith, is_pair.order, is_pair.to) } in
            let table = lie.exists.0 in
            let agrees = lie.exists.1.entry c d one.solution (record { from = first.from; to = first.to }) (record { from = column.from; to = column.to }) one.solves in
            subst (λ v. LiesIn (one.solution.torque c) v) value (lies_in_same (table c d) (one.solution.torque c) (mass_at w c d) agrees (lie.lies table lie.exists.1 c d first column));
      }
    where
      same_some : {X : Type 0} {x y : X} → Some x ≡ Some y → x ≡ y
      same_some is = cc

  pub masses_enclose : (cons : List Constraint) (row : Row) → EnclosesRowMass tree row w → Encloses task.Crba tree cons row (masses_in tree w)
  masses_enclose cons row encloses = record {
    count = length-map (pairs_of (column_count tree.bodies)) (mass_of_pair w) ∙ pairs_counted (column_count tree.bodies);
    each = λ choice chosen. column_lies choice (encloses.at choice chosen);
  }
