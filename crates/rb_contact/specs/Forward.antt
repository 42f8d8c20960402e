-- Forward dynamics of a row: the values that a work holds, what is refused first, the answer, and what the values enclose. Featherstone, Rigid Body
-- Dynamics Algorithms, chapter 6.
use Rattle.std.specs.Prelude.{◌≡◌, ◌↔◌, ℕ, ◌+◌, List, map, Result, Ok, Err}
use Rattle.rb_num.specs.Interval.{Interval}
use Rattle.rb_num.specs.Fraction.{LiesIn}
use Rattle.rb_frac.specs.Frac.{Same, fracs}
use Rattle.rb_result.specs.Steps.{◌>>=◌}
use Rattle.rb_sweep.specs.Sweep.{upward}
use Rattle.rb_sweep.specs.Naming.{run}
use Rattle.rb_flat.specs.Choice.{Choice, IsChoice}
use Rattle.rb_flat.specs.Dynamics.{HasOneSolution, SameUnknowns, SolvesForward, no_force}
use Rattle.rb_work.specs.declared.names.RowFault.{RowFault}
use Rattle.rb_work.specs.Path.{above}
use Rattle.rb_work.specs.View.{View, blank_of, columns_of, L_at, D_at, k_at, x_at}
use Rattle.rb_work.specs.Place.{names}
use Rattle.rb_tree.specs.Columns.{column_count}
use Rattle.rb_tree.specs.Robot.{Tree, HasColumn}
use Rattle.rb_tree.specs.Shape.{shape_of, brackets_of}
use Rattle.rb_tree.specs.State.{Row, state_brackets}
use Rattle.rb_tree.specs.Places.{IsFor}
use Rattle.rb_rnea.specs.Dynamics.{AreDynamics, IsRefused, unaccelerated, rule, order, extent_for}
use Rattle.rb_mass.specs.Mass.{AreMass, IsMassRefused, naming, order as mass_order}
use Rattle.rb_factor.specs.Factor.{HoldsFactors, RefusesFactor}
use Rattle.rb_factor.specs.Solve.{HoldsSolution, IsSolveRefused}
use Rattle.rb_factor.specs.Sweeps.{factor_of, reduce_of, divide_of, substitute_of}
use Rattle.rb_contact.specs.Driving.{AreDriving, IsDrivingRefused, driven_of}

-- ---- values
-- the bias of the row, and the factors of a mass table that stood in their place
pub record AreFactored (tree : Tree) (row : Row) (w : View) : Type 0 where
  pub room : IsFor tree w
  pub bias : AreDynamics tree (unaccelerated row) w
  pub mass : List Interval
  pub table : AreMass tree (record w { packed = mass })
  pub factors : HoldsFactors (record w { packed = mass }) w

-- and what these factors find for the torques less the bias
pub record AreForward (tree : Tree) (row : Row) (w : View) : Type 0 where
  pub factored : AreFactored tree row w
  pub driving : AreDriving tree row w
  pub solution : HoldsSolution (record w { w = w.k }) w

-- ---- refusals
-- the first of the parts before a solution that is refused, where the values of those before it are there: the bias, the mass table, its factors, and what
-- is left of the torques
pub data IsPreparationRefused (tree : Tree) (row : Row) (e : RowFault) : Type 0 where
  in_bias : IsRefused tree (unaccelerated row) e → IsPreparationRefused tree row e
  in_mass : (w : View) → IsFor tree w → AreDynamics tree (unaccelerated row) w → IsMassRefused tree w e → IsPreparationRefused tree row e
  in_factors : (w : View) → IsFor tree w → AreDynamics tree (unaccelerated row) w → AreMass tree w → RefusesFactor w e → IsPreparationRefused tree row e
  in_driving : (w : View) → AreFactored tree row w → IsDrivingRefused tree row w e → IsPreparationRefused tree row e

-- or the solution is
pub data IsForwardRefused (tree : Tree) (row : Row) (e : RowFault) : Type 0 where
  in_preparation : IsPreparationRefused tree row e → IsForwardRefused tree row e
  in_solution : (w : View) → AreFactored tree row w → AreDriving tree row w → IsSolveRefused (columns_of w) (above w.up) (L_at w) (D_at w) (k_at w) e →
      IsForwardRefused tree row e

-- ---- answers
-- the accelerations of the columns
abbrev pub accelerations_in : Tree → View → List Interval
accelerations_in tree w = map (x_at w) (upward 1 (column_count tree.bodies + 1))

-- the factors of the table in its place
abbrev pub factored_of : View → Result View RowFault
factored_of w = factor_of w.up w.packed >>= λ factors. Ok (record w { packed = factors })

-- what they find for the right side
abbrev pub solved_of : View → Result View RowFault
solved_of w =
    reduce_of w.up w.packed w.w >>= λ right.
    divide_of w.up w.packed right w.z >>= λ quotients.
    substitute_of w.up w.packed quotients w.x >>= λ numbers.
    Ok (record w { w = right; z = quotients; x = numbers })

-- from zeros each part in turn, up to what is left of the torques or the first that is refused, in a work with so many rows
unfoldable pub prepared_of : Tree → Row → ℕ → Result View RowFault
prepared_of tree row rows =
    run (names (rule tree (unaccelerated row)) (order tree)) (order tree) (blank_of (record (extent_for tree) { rows = rows })) >>= λ u.
    run (naming tree) (mass_order tree) u >>= λ m.
    factored_of m >>= λ f.
    driven_of tree row f

-- and the solution
unfoldable pub forward_of : Tree → Row → Result (List Interval) RowFault
forward_of tree row = prepared_of tree row 0 >>= λ d. solved_of d >>= λ w. Ok (accelerations_in tree w)

-- ---- what they enclose
-- the equations of motion have exactly one solution under the torques of the choice, and the accelerations of its joints lie in x
pub record ForwardLies (tree : Tree) (w : View) (c : Choice) : Type 0 where
  pub one : HasOneSolution (SameUnknowns Same (shape_of tree)) (SolvesForward (shape_of tree) c (no_force fracs))
  pub lies : (k : ℕ) → HasColumn tree k → LiesIn (one.solution.joint_acceleration k) (x_at w k)

-- so for each choice within the brackets of the robot and of the row
pub record EnclosesForward (tree : Tree) (row : Row) (w : View) : Type 0 where
  pub at : (c : Choice) → IsChoice (brackets_of tree) (state_brackets row) c → ForwardLies tree w c

-- ---- laws
-- there is one answer, whatever a work held: the same accelerations, or one refusal, and not both
pub record HasOneForward (tree : Tree) (row : Row) : Type 0 where
  pub values : (u w : View) → AreForward tree row u → AreForward tree row w → accelerations_in tree u ≡ accelerations_in tree w
  pub either : (w : View) (e : RowFault) → AreForward tree row w → IsForwardRefused tree row e → ⊥
  pub refusal : (d e : RowFault) → IsForwardRefused tree row d → IsForwardRefused tree row e → d ≡ e

-- what the answer means: accelerations of such values, or a refusal of such a part
pub record ForwardMeans (tree : Tree) (row : Row) : Type 0 where
  pub values : (numbers : List Interval) → (forward_of tree row ≡ Ok numbers) ↔ ((w : View) × AreForward tree row w × (accelerations_in tree w ≡ numbers))
  pub refused : (e : RowFault) → (forward_of tree row ≡ Err e) ↔ IsForwardRefused tree row e

-- all such values enclose the one solution of each choice
pub record ForwardEncloses (tree : Tree) (row : Row) : Type 0 where
  pub values : (w : View) → AreForward tree row w → EnclosesForward tree row w
