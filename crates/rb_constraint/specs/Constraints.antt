-- What contracts see of constraints: what each list of them keeps, and the rows of equations that it has.
use Rattle.std.specs.Prelude.{◌≡◌, ◌≢◌, ℕ, zero, suc, ◌≤◌, pos, ◌≤ℤ◌, false, List, [], length, map, flat_map, slice_get, AllPairs, Option, None}
use Rattle.std.specs.Option.{option_map_or}
use Rattle.std.specs.List.{AllByRecursion}
use Rattle.rb_frac.specs.Frac.{Frac}
use Rattle.rb_frac.specs.Tables.{Vectors, nothing}
use Rattle.rb_num.specs.Interval.{Interval, grid, zero_interval}
use Rattle.rb_num.specs.Arith.{intervals, signs_of}
use Rattle.rb_num.specs.Fraction.{LiesIn}
use Rattle.rb_flat.specs.Choice.{IsOrdered, AreOrdered}
use Rattle.rb_flat.specs.Contact as Flat
use Rattle.rb_flat.specs.Contact.{RowNumbers, HasRow}
use Rattle.rb_constraint.specs.declared.axes.Direction.{Direction}
use Rattle.rb_constraint.specs.declared.constraints.Constraint.{Constraint}
use Rattle.rb_constraint.specs.declared.constraints.Row.{Row}
use Rattle.rb_constraint.specs.declared.constraints.TheConstants.{MAX_ROWS}
use Rattle.rb_constraint.specs.Axes.{axis_of, is_turn, directions}

-- ---- rows
-- the row of a constraint in a direction
abbrev pub row_of : Constraint → Direction → Row
row_of c direction = record {
  axis = axis_of direction;
  turns = is_turn direction;
  first = c.body1;
  second = c.body2;
  first_point = c.at1;
  second_point = c.at2;
  compliance = c.mu;
  restitution = c.e;
}

-- one row for each direction that a constraint holds
abbrev pub own_rows : Constraint → List Row
own_rows c = map (row_of c) (directions c.axes)

-- those of all, which are numbered from 1
unfoldable pub rows_of : List Constraint → List Row
rows_of list = flat_map own_rows list

abbrev pub row_at : List Constraint → ℕ → Option Row
row_at list zero = None
row_at list (suc k) = slice_get (rows_of list) k

-- ---- what is kept
-- the ends of each bracket are in order
pub record AreNumbersOrdered (n : RowNumbers Interval) : Type 0 where
  pub first_point : AreOrdered n.first_point
  pub second_point : AreOrdered n.second_point
  pub compliance : IsOrdered n.compliance
  pub restitution : IsOrdered n.restitution

-- no compliance is below zero, and each restitution lies in 0..1
pub record AreNumbersWithin (n : RowNumbers Interval) : Type 0 where
  pub compliance : pos 0 ≤ℤ n.compliance.lo
  pub restitution_from : pos 0 ≤ℤ n.restitution.lo
  pub restitution_to : n.restitution.hi ≤ℤ pos grid

abbrev pub numbers_of : Constraint → RowNumbers Interval
numbers_of c = record { first_point = c.at1; second_point = c.at2; compliance = c.mu; restitution = c.e }

abbrev pub AreAllOrdered : List Constraint → Type 0
AreAllOrdered list = AllByRecursion (λ c. AreNumbersOrdered (numbers_of c)) list

-- a constraint has a name and holds some axis
pub record IsConstraintKept (c : Constraint) : Type 0 where
  pub named : c.name ≢ []
  pub some : directions c.axes ≢ []
  pub ordered : AreNumbersOrdered (numbers_of c)
  pub within : AreNumbersWithin (numbers_of c)

-- no two have one name, and there are not too many rows
pub record AreConstraints (list : List Constraint) : Type 0 where
  pub differ : AllPairs (λ a b. a.name ≢ b.name) list
  pub few : length (rows_of list) ≤ MAX_ROWS
  pub kept : AllByRecursion IsConstraintKept list

-- ---- as the equations see them
abbrev pub flat_row : Row → Flat.Row
flat_row w = record { axis = w.axis; turns = w.turns; first = w.first; second = w.second }

abbrev pub flat_numbers : Row → RowNumbers Interval
flat_numbers w = record { first_point = w.first_point; second_point = w.second_point; compliance = w.compliance; restitution = w.restitution }

abbrev pub compliance_of : Row → Interval
compliance_of w = w.compliance

-- what stands where there is no row
abbrev pub no_row : Flat.Row
no_row = record { axis = 0; turns = false; first = 0; second = 0 }

abbrev pub no_numbers : RowNumbers Interval
no_numbers =
    let o = nothing (signs_of intervals) in
    record { first_point = o; second_point = o; compliance = zero_interval; restitution = zero_interval }

-- their rows, with brackets
abbrev pub constraints_of : List Constraint → Flat.Constraints Interval
constraints_of list = record {
  rows = length (rows_of list);
  row = λ r. option_map_or flat_row (row_at list r) no_row;
  numbers = λ r. option_map_or flat_numbers (row_at list r) no_numbers;
}

-- ---- choices
-- each number lies in its bracket
pub record NumbersChosen (n : RowNumbers Frac) (b : RowNumbers Interval) : Type 0 where
  pub first_point : Vectors LiesIn n.first_point b.first_point
  pub second_point : Vectors LiesIn n.second_point b.second_point
  pub compliance : LiesIn n.compliance b.compliance
  pub restitution : LiesIn n.restitution b.restitution

-- the same rows, with a number in each bracket; rows of one constraint need not have the same numbers
pub record IsConstraintChoice (k : Flat.Constraints Interval) (c : Flat.Constraints Frac) : Type 0 where
  pub rows : c.rows ≡ k.rows
  pub row : (r : ℕ) → HasRow k r → c.row r ≡ k.row r
  pub numbers : (r : ℕ) → HasRow k r → NumbersChosen (c.numbers r) (k.numbers r)
