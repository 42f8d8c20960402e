-- An impact of a row on rows of constraints: the values that a work holds, what is refused first, and what the values enclose. Featherstone, Rigid Body
-- Dynamics Algorithms, chapter 11.
use Rattle.std.specs.Prelude.{◌≡◌, ◌↔◌, ℕ, ◌+◌, List, map, Result, Ok, Err}
use Rattle.rb_num.specs.Interval.{Interval, zero_interval}
use Rattle.rb_num.specs.Fraction.{LiesIn}
use Rattle.rb_frac.specs.Frac.{Frac, Same}
use Rattle.rb_flat.specs.Choice.{Choice, IsChoice}
use Rattle.rb_flat.specs.Mechanism.{mechanism_of}
use Rattle.rb_flat.specs.Dynamics.{HasOneSolution}
use Rattle.rb_flat.specs.Contact.{Constraints, HasRow}
use Rattle.rb_flat.specs.Impact.{SameImpulses, SolvesImpact}
use Rattle.rb_result.specs.Steps.{◌>>=◌}
use Rattle.rb_sweep.specs.Sweep.{upward}
use Rattle.rb_sweep.specs.Naming.{run}
use Rattle.rb_work.specs.declared.names.RowFault.{RowFault}
use Rattle.rb_work.specs.Path.{above}
use Rattle.rb_work.specs.View.{View, blank_of, columns_of, L_at, D_at, J_at, y_at, lam_at}
use Rattle.rb_work.specs.Place.{names}
use Rattle.rb_tree.specs.Columns.{column_count}
use Rattle.rb_tree.specs.Robot.{Tree, HasColumn}
use Rattle.rb_tree.specs.Shape.{shape_of, brackets_of}
use Rattle.rb_tree.specs.State.{Row, state_brackets}
use Rattle.rb_tree.specs.Places.{IsFor, ArePlaces, rule as place_rule, order as place_order}
use Rattle.rb_mass.specs.Mass.{AreMass, IsRefused, naming, order as mass_order, extent_for}
use Rattle.rb_factor.specs.Factor.{HoldsFactors, RefusesFactor}
use Rattle.rb_factor.specs.Solve.{HoldsDivided, HoldsSubstituted, RefusesDivide, RefusesSubstitute}
use Rattle.rb_constraint.specs.Constraints.{IsConstraintChoice}
use Rattle.rb_constraint.specs.Rows.{AreRows, IsRowRefused}
use Rattle.rb_constraint.specs.Steps.{fills_of}
use Rattle.rb_constraint.specs.Encloses.{RowsLie}
use Rattle.rb_coupling.specs.Couple.{HoldsCoupling, IsCoupleRefused}
use Rattle.rb_coupling.specs.Forces.{HoldsRowForces, RefusesRowForces}
use Rattle.rb_factor.specs.Sweeps.{factor_of, divide_of, substitute_of}
use Rattle.rb_coupling.specs.Sweeps.{couple_of, row_forces_of, added_of}
use Rattle.rb_impact.specs.Sides.{AreSides, IsSideRefused, gains_of}
use Rattle.rb_impact.specs.Pushes.{ArePushes, IsPushRefused, cleared_of}
use Rattle.rb_impact.specs.Speeds.{AreSpeeds, IsSpeedRefused, sped_of}

-- ---- values
-- the factors of the mass table of the row, which stood in their place
pub record AreFactored (tree : Tree) (row : Row) (w : View) : Type 0 where
  pub room : IsFor tree w
  pub places : ArePlaces tree row w
  pub mass : List Interval
  pub table : AreMass tree (record w { packed = mass })
  pub factors : HoldsFactors (record w { packed = mass }) w

-- no row gives way
abbrev pub rigid : ℕ → Interval
rigid r = zero_interval

-- and the rows: their table, and how they act on one another without compliance
pub record AreMet (tree : Tree) (row : Row) (k : Constraints Interval) (w : View) : Type 0 where
  pub factored : AreFactored tree row w
  pub rows : AreRows tree k w
  pub coupling : HoldsCoupling k.rows w w rigid

-- and their impulses; sides are what the rows have to gain
pub record AreStruck (tree : Tree) (row : Row) (k : Constraints Interval) (w : View) : Type 0 where
  pub met : AreMet tree row k w
  pub sides : List Interval
  pub gains : AreSides row k (record w { e = sides })
  pub impulses : HoldsRowForces k.rows (record w { e = sides }) w

-- and what they change the speeds of the columns by
pub record AreChanged (tree : Tree) (row : Row) (k : Constraints Interval) (w : View) : Type 0 where
  pub struck : AreStruck tree row k w
  pub pushes : ArePushes tree k w
  pub divided : HoldsDivided w w
  pub substituted : HoldsSubstituted w w

-- and the speeds after
pub record AreImpact (tree : Tree) (row : Row) (k : Constraints Interval) (w : View) : Type 0 where
  pub changed : AreChanged tree row k w
  pub speeds : AreSpeeds tree row w

-- ---- refusals
-- the first of the parts that is refused, where the values of those before it are there
pub data IsImpactRefused (tree : Tree) (row : Row) (k : Constraints Interval) (e : RowFault) : Type 0 where
  in_mass : IsRefused tree row e → IsImpactRefused tree row k e
  in_factors : (w : View) → IsFor tree w → ArePlaces tree row w → AreMass tree w → RefusesFactor w e → IsImpactRefused tree row k e
  in_rows : (w : View) → AreFactored tree row w → IsRowRefused tree k w e → IsImpactRefused tree row k e
  in_coupling : (w : View) → AreFactored tree row w → AreRows tree k w →
      IsCoupleRefused (columns_of w) (above w.up) k.rows (L_at w) (D_at w) (J_at w) rigid e → IsImpactRefused tree row k e
  in_sides : (w : View) → AreMet tree row k w → IsSideRefused row k w e → IsImpactRefused tree row k e
  in_impulses : (w : View) → AreMet tree row k w → AreSides row k w → RefusesRowForces k.rows w e → IsImpactRefused tree row k e
  in_pushes : (w : View) → AreStruck tree row k w → IsPushRefused tree k w e → IsImpactRefused tree row k e
  in_division : (w : View) → AreStruck tree row k w → ArePushes tree k w → RefusesDivide w e → IsImpactRefused tree row k e
  in_substitution : (w : View) → AreStruck tree row k w → ArePushes tree k w → HoldsDivided w w → RefusesSubstitute w e → IsImpactRefused tree row k e
  in_speeds : (w : View) → AreChanged tree row k w → IsSpeedRefused tree row w e → IsImpactRefused tree row k e

-- ---- answers
-- the speeds of the columns after
abbrev pub speeds_in : Tree → View → List Interval
speeds_in tree w = map (y_at w) (upward 1 (column_count tree.bodies + 1))

-- the impulses of the rows
abbrev pub impulses_in : Constraints Interval → View → List Interval
impulses_in k w = map (lam_at w) (upward 1 (k.rows + 1))

-- from zeros the mass table of the row and its factors, in a work with so many rows
unfoldable pub massed_of : Tree → Row → ℕ → Result View RowFault
massed_of tree row rows =
    run (names (place_rule tree row) (place_order tree)) (place_order tree) (blank_of (record (extent_for tree) { rows = rows })) >>= λ p.
    run (naming tree) (mass_order tree) p >>= λ m.
    factor_of m.up m.packed >>= λ factors. Ok (record m { packed = factors })

-- how the rows act on one another without compliance
abbrev pub met_of : Constraints Interval → View → Result View RowFault
met_of k w =
    couple_of w.up w.rows k.rows w.packed w.J (map rigid (upward 1 (k.rows + 1))) (w.Y, w.Z, w.pairs) >>= λ t.
    Ok (record w { Y = t.0; Z = t.1; pairs = t.2 })

-- their impulses
abbrev pub struck_of : Constraints Interval → View → Result View RowFault
struck_of k w = row_forces_of w.rows k.rows w.pairs (w.e, w.lam) >>= λ t. Ok (record w { e = t.0; lam = t.1 })

-- and what they change the speeds of the columns by
abbrev pub changed_of : Constraints Interval → View → Result View RowFault
changed_of k w =
    added_of (columns_of w) k.rows w.Y w.lam w.w >>= λ right.
    divide_of w.up w.packed right w.z >>= λ quotients.
    substitute_of w.up w.packed quotients w.x >>= λ changes.
    Ok (record w { w = right; z = quotients; x = changes })

-- from zeros each part in turn, up to the first that is refused
unfoldable pub impact_of : Tree → Row → Constraints Interval → Result (List Interval × List Interval) RowFault
impact_of tree row k =
    massed_of tree row k.rows >>= λ m.
    fills_of tree k m >>= λ r.
    met_of k r >>= λ c.
    gains_of row k c >>= λ s.
    struck_of k s >>= λ f.
    cleared_of tree f >>= λ o.
    changed_of k o >>= λ x.
    sped_of tree row x >>= λ w.
    Ok (speeds_in tree w, impulses_in k w)

-- ---- what they enclose
-- the equations of an impact on the rows have exactly one solution. The speeds of its columns after lie in y and the impulses of its rows in lam; the
-- Jacobian at its turns lies in J.
pub record ImpactLies (tree : Tree) (w : View) (c : Choice) (k : Constraints Frac) : Type 0 where
  pub one : HasOneSolution (SameImpulses Same (shape_of tree) k) (SolvesImpact (shape_of tree) c k)
  pub speeds : (d : ℕ) → HasColumn tree d → LiesIn (one.solution.speed_after d) (y_at w d)
  pub impulses : (r : ℕ) → HasRow k r → LiesIn (one.solution.row_impulse r) (lam_at w r)
  pub rows : RowsLie tree (mechanism_of (shape_of tree) c) k one.solution.turn w

-- so for each choice within the brackets of the robot and of the row, and each of the numbers of the constraints
pub record EnclosesImpact (tree : Tree) (row : Row) (list : Constraints Interval) (w : View) : Type 0 where
  pub at : (c : Choice) (k : Constraints Frac) → IsChoice (brackets_of tree) (state_brackets row) c → IsConstraintChoice list k → ImpactLies tree w c k

-- ---- laws
-- there is one answer, whatever a work held: the same speeds and impulses, or one refusal, and not both
pub record HasOneImpact (tree : Tree) (row : Row) (k : Constraints Interval) : Type 0 where
  pub speeds : (u w : View) → AreImpact tree row k u → AreImpact tree row k w → speeds_in tree u ≡ speeds_in tree w
  pub impulses : (u w : View) → AreImpact tree row k u → AreImpact tree row k w → impulses_in k u ≡ impulses_in k w
  pub either : (w : View) (e : RowFault) → AreImpact tree row k w → IsImpactRefused tree row k e → ⊥
  pub refusal : (d e : RowFault) → IsImpactRefused tree row k d → IsImpactRefused tree row k e → d ≡ e

-- what the answer means: speeds and impulses of such values, or a refusal of such a part
pub record ImpactMeans (tree : Tree) (row : Row) (k : Constraints Interval) : Type 0 where
  pub values : (numbers : List Interval × List Interval) →
      (impact_of tree row k ≡ Ok numbers) ↔ ((w : View) × AreImpact tree row k w × ((speeds_in tree w, impulses_in k w) ≡ numbers))
  pub refused : (e : RowFault) → (impact_of tree row k ≡ Err e) ↔ IsImpactRefused tree row k e

-- all such values enclose the one solution of each choice
pub record ImpactEncloses (tree : Tree) (row : Row) (k : Constraints Interval) : Type 0 where
  pub values : (w : View) → AreImpact tree row k w → EnclosesImpact tree row k w
