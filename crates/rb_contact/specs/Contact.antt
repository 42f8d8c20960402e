-- Forward dynamics of a row under rows of constraints: the values that a work holds, what is refused first, and what the values enclose. Featherstone,
-- Rigid Body Dynamics Algorithms, chapter 8.
use Rattle.std.specs.Prelude.{◌≡◌, ◌↔◌, ℕ, ◌+◌, ◌≤◌, List, map, Result, Ok, Err}
use Rattle.rb_num.specs.Interval.{Interval}
use Rattle.rb_num.specs.Fraction.{LiesIn}
use Rattle.rb_frac.specs.Frac.{Frac, Same, fracs}
use Rattle.rb_flat.specs.Choice.{Choice, IsChoice}
use Rattle.rb_flat.specs.Mechanism.{mechanism_of}
use Rattle.rb_flat.specs.Dynamics.{Unknowns, HasOneSolution, InverseDynamics, unaccelerated, no_force}
use Rattle.rb_flat.specs.Contact.{Constraints, HasRow, SameContact, SolvesContact}
use Rattle.rb_jacobian.specs.Jacobian.{row_accelerations}
use Rattle.rb_result.specs.Steps.{◌>>=◌}
use Rattle.rb_sweep.specs.Sweep.{upward}
use Rattle.rb_work.specs.declared.names.RowFault.{RowFault}
use Rattle.rb_work.specs.Path.{above}
use Rattle.rb_work.specs.View.{View, columns_of, L_at, D_at, J_at, x_at, lam_at, g_at}
use Rattle.rb_tree.specs.Robot.{Tree, HasColumn}
use Rattle.rb_tree.specs.Shape.{shape_of, brackets_of}
use Rattle.rb_tree.specs.State.{Row, state_brackets}
use Rattle.rb_factor.specs.Solve.{HoldsReduced, HoldsDivided, HoldsSubstituted, RefusesReduce, RefusesDivide, RefusesSubstitute}
use Rattle.rb_factor.specs.Sweeps.{reduce_of, divide_of, substitute_of}
use Rattle.rb_constraint.specs.Constraints.{IsConstraintChoice}
use Rattle.rb_constraint.specs.Rows.{AreRows, IsRowRefused}
use Rattle.rb_constraint.specs.Bias.{AreBias, IsBiasRefused}
use Rattle.rb_constraint.specs.Steps.{fills_of, bias_of}
use Rattle.rb_constraint.specs.Encloses.{RowsLie}
use Rattle.rb_coupling.specs.Couple.{HoldsCoupling, IsCoupleRefused}
use Rattle.rb_coupling.specs.Forces.{HoldsRowSides, HoldsRowForces, HoldsAddedForces, RefusesRowSides, RefusesRowForces, RefusesAddedForces}
use Rattle.rb_coupling.specs.Sweeps.{couple_of, sides_of, row_forces_of, added_of}
use Rattle.rb_contact.specs.Driving.{AreDriving}
use Rattle.rb_contact.specs.Forward.{AreFactored, IsPreparationRefused, prepared_of, accelerations_in}

-- ---- values
abbrev pub compliances : Constraints Interval → ℕ → Interval
compliances k r = (k.numbers r).compliance

-- the factors of the mass table, what is left of the torques, and the rows: their table, their bias, and how they act on one another
pub record AreConstrained (tree : Tree) (row : Row) (k : Constraints Interval) (w : View) : Type 0 where
  pub factored : AreFactored tree row w
  pub driving : AreDriving tree row w
  pub count : k.rows ≤ w.rows
  pub rows : AreRows tree k w
  pub bias : AreBias k w
  pub coupling : HoldsCoupling k.rows w w (compliances k)

-- what the factors find in their first two steps, without forces of the rows
pub record AreFree (tree : Tree) (row : Row) (k : Constraints Interval) (w : View) : Type 0 where
  pub constrained : AreConstrained tree row k w
  pub reduced : HoldsReduced (record w { w = w.k }) w
  pub divided : HoldsDivided w w

-- and the forces of the rows that this needs; sides are the right sides of the rows
pub record AreForced (tree : Tree) (row : Row) (k : Constraints Interval) (w : View) : Type 0 where
  pub free : AreFree tree row k w
  pub sides : List Interval
  pub row_sides : HoldsRowSides k.rows w (record w { e = sides })
  pub row_forces : HoldsRowForces k.rows (record w { e = sides }) w

-- and the accelerations, with what the forces add; right and quotients are what w and z were without them
pub record AreContact (tree : Tree) (row : Row) (k : Constraints Interval) (w : View) : Type 0 where
  pub right : List Interval
  pub quotients : List Interval
  pub forced : AreForced tree row k (record w { w = right; z = quotients })
  pub added : HoldsAddedForces k.rows (record w { w = right }) w
  pub divided : HoldsDivided w w
  pub substituted : HoldsSubstituted w w

-- ---- refusals
-- the first of the parts that is refused, where the values of those before it are there
pub data IsContactRefused (tree : Tree) (row : Row) (k : Constraints Interval) (e : RowFault) : Type 0 where
  in_preparation : IsPreparationRefused tree row e → IsContactRefused tree row k e
  in_rows : (w : View) → AreFactored tree row w → AreDriving tree row w → IsRowRefused tree k w e → IsContactRefused tree row k e
  in_bias : (w : View) → AreFactored tree row w → AreDriving tree row w → AreRows tree k w → IsBiasRefused tree k w e → IsContactRefused tree row k e
  in_coupling : (w : View) → AreFactored tree row w → AreDriving tree row w → AreRows tree k w → AreBias k w →
      IsCoupleRefused (columns_of w) (above w.up) k.rows (L_at w) (D_at w) (J_at w) (compliances k) e → IsContactRefused tree row k e
  in_reduction : (w : View) → AreConstrained tree row k w → RefusesReduce (record w { w = w.k }) e → IsContactRefused tree row k e
  in_division : (w : View) → AreConstrained tree row k w → HoldsReduced (record w { w = w.k }) w → RefusesDivide w e → IsContactRefused tree row k e
  in_sides : (w : View) → AreFree tree row k w → RefusesRowSides k.rows w e → IsContactRefused tree row k e
  in_forces : (w : View) → AreFree tree row k w → HoldsRowSides k.rows w w → RefusesRowForces k.rows w e → IsContactRefused tree row k e
  in_addition : (w : View) → AreForced tree row k w → RefusesAddedForces k.rows w e → IsContactRefused tree row k e
  in_second_division : (w : View) (right : List Interval) → AreForced tree row k (record w { w = right }) → HoldsAddedForces k.rows (record w { w = right }) w →
      RefusesDivide w e → IsContactRefused tree row k e
  in_substitution : (w : View) (right quotients : List Interval) → AreForced tree row k (record w { w = right; z = quotients }) →
      HoldsAddedForces k.rows (record w { w = right }) w → HoldsDivided w w → RefusesSubstitute w e → IsContactRefused tree row k e

-- ---- answers
-- the forces of the rows
abbrev pub forces_in : Constraints Interval → View → List Interval
forces_in k w = map (lam_at w) (upward 1 (k.rows + 1))

-- how the rows act on one another
abbrev pub coupled_of : Constraints Interval → View → Result View RowFault
coupled_of k w =
    couple_of w.up w.rows k.rows w.packed w.J (map (compliances k) (upward 1 (k.rows + 1))) (w.Y, w.Z, w.pairs) >>= λ t.
    Ok (record w { Y = t.0; Z = t.1; pairs = t.2 })

-- the steps that find numbers of columns or rows from those that the work has
abbrev pub reduced_of : View → Result View RowFault
reduced_of w = reduce_of w.up w.packed w.w >>= λ t. Ok (record w { w = t })

abbrev pub divided_of : View → Result View RowFault
divided_of w = divide_of w.up w.packed w.w w.z >>= λ t. Ok (record w { z = t })

abbrev pub sided_of : Constraints Interval → View → Result View RowFault
sided_of k w = sides_of (columns_of w) k.rows w.Y w.z w.g w.e >>= λ t. Ok (record w { e = t })

abbrev pub forced_of : Constraints Interval → View → Result View RowFault
forced_of k w = row_forces_of w.rows k.rows w.pairs (w.e, w.lam) >>= λ t. Ok (record w { e = t.0; lam = t.1 })

abbrev pub pushed_of : Constraints Interval → View → Result View RowFault
pushed_of k w = added_of (columns_of w) k.rows w.Y w.lam w.w >>= λ t. Ok (record w { w = t })

abbrev pub substituted_of : View → Result View RowFault
substituted_of w = substitute_of w.up w.packed w.z w.x >>= λ t. Ok (record w { x = t })

-- from zeros each part in turn, up to the first that is refused
unfoldable pub contact_of : Tree → Row → Constraints Interval → Result (List Interval × List Interval) RowFault
contact_of tree row k =
    prepared_of tree row k.rows >>= λ p.
    fills_of tree k p >>= λ r.
    bias_of k r >>= λ b.
    coupled_of k b >>= λ c.
    reduced_of c >>= λ d.
    divided_of d >>= λ u.
    sided_of k u >>= λ s.
    forced_of k s >>= λ f.
    pushed_of k f >>= λ a.
    divided_of a >>= λ v.
    substituted_of v >>= λ w.
    Ok (accelerations_in tree w, forces_in k w)

-- ---- what they enclose
-- the equations of motion with those of the rows have exactly one solution under the torques of the choice. The accelerations of its joints lie in x and
-- the forces of its rows in lam; the Jacobian at its turns lies in J, and how the rows accelerate where no joint does lies in g.
pub record ContactLies (tree : Tree) (w : View) (c : Choice) (k : Constraints Frac) : Type 0 where
  pub one : HasOneSolution (SameContact Same (shape_of tree) k) (SolvesContact (shape_of tree) c k)
  pub accelerations : (d : ℕ) → HasColumn tree d → LiesIn (one.solution.tree.joint_acceleration d) (x_at w d)
  pub forces : (r : ℕ) → HasRow k r → LiesIn (one.solution.row_force r) (lam_at w r)
  pub rows : RowsLie tree (mechanism_of (shape_of tree) c) k one.solution.turn w
  pub bias : (s : Unknowns Frac) → InverseDynamics fracs (shape_of tree) (unaccelerated fracs (mechanism_of (shape_of tree) c)) Same (no_force fracs) s →
      (r : ℕ) → HasRow k r → LiesIn (row_accelerations k one.solution.turn s r) (g_at w r)

-- so for each choice within the brackets of the robot and of the row, and each of the numbers of the constraints
pub record EnclosesContact (tree : Tree) (row : Row) (list : Constraints Interval) (w : View) : Type 0 where
  pub at : (c : Choice) (k : Constraints Frac) → IsChoice (brackets_of tree) (state_brackets row) c → IsConstraintChoice list k → ContactLies tree w c k

-- ---- laws
-- there is one answer, whatever a work held: the same accelerations and forces, or one refusal, and not both
pub record HasOneContact (tree : Tree) (row : Row) (k : Constraints Interval) : Type 0 where
  pub accelerations : (u w : View) → AreContact tree row k u → AreContact tree row k w → accelerations_in tree u ≡ accelerations_in tree w
  pub forces : (u w : View) → AreContact tree row k u → AreContact tree row k w → forces_in k u ≡ forces_in k w
  pub either : (w : View) (e : RowFault) → AreContact tree row k w → IsContactRefused tree row k e → ⊥
  pub refusal : (d e : RowFault) → IsContactRefused tree row k d → IsContactRefused tree row k e → d ≡ e

-- what the answer means: accelerations and forces of such values, or a refusal of such a part
pub record ContactMeans (tree : Tree) (row : Row) (k : Constraints Interval) : Type 0 where
  pub values : (numbers : List Interval × List Interval) →
      (contact_of tree row k ≡ Ok numbers) ↔ ((w : View) × AreContact tree row k w × ((accelerations_in tree w, forces_in k w) ≡ numbers))
  pub refused : (e : RowFault) → (contact_of tree row k ≡ Err e) ↔ IsContactRefused tree row k e

-- all such values enclose the one solution of each choice
pub record ContactEncloses (tree : Tree) (row : Row) (k : Constraints Interval) : Type 0 where
  pub values : (w : View) → AreContact tree row k w → EnclosesContact tree row k w
