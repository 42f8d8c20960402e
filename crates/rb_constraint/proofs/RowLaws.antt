-- The rows of constraints: where they are, between which bodies, and that there is a choice of their numbers.
use Rattle.std.proofs.Common.{◌≡◌, ℕ, zero, suc, ◌≤◌, ◌<◌, ◌+◌, ◌-◌, List, [], ◌∷◌, ◌++◌, length, map, get_or, Some, refl, sym, ap, ◌∙◌, subst, arith, append_assoc}
use Rattle.std.specs.Prelude.{slice_get, slice_index_or}
use Rattle.std.specs.List.{AllZip, AllByRecursion}
use Rattle.std.specs.Option.{option_map_or}
use Rattle.std.proofs.lemmas.List.{length-append, length-map, append-nil}
use Rattle.std.proofs.lemmas.Option.{slice_get_read}
use lib.Signed.{≤ℤ_refl}
use Rattle.rb_frac.specs.Ops.{V3}
use Rattle.rb_frac.specs.Frac.{Frac}
use Rattle.rb_frac.specs.Tables.{Vectors, vector}
use Rattle.rb_num.specs.Interval.{Interval, grid, zero_interval}
use Rattle.rb_num.specs.Fraction.{LiesIn}
use Rattle.rb_num.specs.Least.{units}
use Rattle.rb_num.proofs.Order.{times_pos}
use Rattle.rb_flat.specs.Choice.{IsOrdered, AreOrdered}
use Rattle.rb_flat.specs.Contact.{RowNumbers, HasRow, RowFits, RowsFit}
use Rattle.rb_flat.specs.Shape.{Shape}
use Rattle.rb_tree.specs.Robot.{Tree}
use Rattle.rb_tree.specs.Shape.{shape_of}
use Rattle.rb_tree.proofs.GroupNames.{link_there}
use Rattle.rb_constraint.specs.declared.axes.Direction.{Direction}
use Rattle.rb_constraint.specs.declared.axes.Direction.TheVariants as To
use Rattle.rb_constraint.specs.declared.constraints.Constraint.{Constraint}
use Rattle.rb_constraint.specs.declared.constraints.Row.{Row}
use Rattle.rb_constraint.specs.Axes.{axis_of, directions}
use Rattle.rb_constraint.specs.Constraints.{row_of, own_rows, rows_of, row_at, AreNumbersOrdered, IsConstraintKept, AreConstraints, flat_row, flat_numbers, compliance_of, no_row, no_numbers, constraints_of, NumbersChosen}
use Rattle.rb_constraint.specs.File.{NumberedLine, second_link, IsLinkOrWorld, Says}
use Rattle.rb_constraint.specs.Laws.{RowsFitRobot, HasChoice}

-- ---- of one list behind another
pub rows_of-append : (xs ys : List Constraint) → rows_of (xs ++ ys) ≡ rows_of xs ++ rows_of ys
unfolding rows_of
rows_of-append [] ys = refl
rows_of-append (x ∷ xs) ys = ap (λ rows. own_rows x ++ rows) (rows_of-append xs ys) ∙ sym (append_assoc (own_rows x) (rows_of xs) (rows_of ys))

pub rows_of-one : (c : Constraint) → rows_of (c ∷ []) ≡ own_rows c
unfolding rows_of
rows_of-one c = append-nil (own_rows c)

pub rows_of-push : (xs : List Constraint) (c : Constraint) → rows_of (xs ++ c ∷ []) ≡ rows_of xs ++ own_rows c
rows_of-push xs c = rows_of-append xs (c ∷ []) ∙ ap (λ rows. rows_of xs ++ rows) (rows_of-one c)

pub rows_of-more : (xs : List Constraint) (c : Constraint) (ys : List Constraint) → length (rows_of (xs ++ c ∷ ys)) ≡ length (rows_of xs) + (length (own_rows c) + length (rows_of ys))
unfolding rows_of
rows_of-more xs c ys = ap length (rows_of-append xs (c ∷ ys)) ∙ length-append (rows_of xs) (own_rows c ++ rows_of ys) ∙ ap (λ n. length (rows_of xs) + n) (length-append (own_rows c) (rows_of ys))

pub rows_of-none : rows_of [] ≡ []
unfolding rows_of
rows_of-none = refl

-- ---- what holds of each row
module _ {A : Type 0} (P : A → Type 0) where
  each-append : (xs ys : List A) → AllByRecursion P xs → AllByRecursion P ys → AllByRecursion P (xs ++ ys)
  each-append [] ys p q = q
  each-append (x ∷ xs) ys p q = (p.0, each-append xs ys p.1 q)

  each-there : (xs : List A) (k : ℕ) (x : A) → AllByRecursion P xs → slice_get xs k ≡ Some x → P x
  each-there [] k x each is = absurd cc
  each-there (y ∷ ys) zero x each is = let same : y ≡ x = cc in subst P same each.0
  each-there (y ∷ ys) (suc k) x each is = each-there ys k x each.1 is

pub each-row : (Q : Constraint → Type 0) (P : Row → Type 0) → ((c : Constraint) (d : Direction) → Q c → P (row_of c d)) → (list : List Constraint) → AllByRecursion Q list → AllByRecursion P (rows_of list)
unfolding rows_of
each-row Q P f [] each = tt
each-row Q P f (c ∷ list) each = each-append P (own_rows c) (rows_of list) (own (directions c.axes)) (each-row Q P f list each.1)
  where
    own : (ds : List Direction) → AllByRecursion P (map (row_of c) ds)
    own [] = tt
    own (d ∷ ds) = (f c d each.0, own ds)

item_there : {A : Type 0} (xs : List A) (k : ℕ) → k < length xs → (x : A) × (slice_get xs k ≡ Some x)
item_there [] k within = absurd (omega arith)
item_there (x ∷ xs) zero within = (x, refl)
item_there (x ∷ xs) (suc k) within = item_there xs k (omega arith)

pub row_there : (list : List Constraint) (r : ℕ) → HasRow (constraints_of list) r → (w : Row) × (row_at list r ≡ Some w)
row_there list zero there = let from : 1 ≤ 0 = there.from in absurd (omega arith)
row_there list (suc k) there = let to : suc k ≤ length (rows_of list) = there.to in item_there (rows_of list) k (omega arith)

pub row_such : (P : Row → Type 0) (list : List Constraint) (r : ℕ) (w : Row) → AllByRecursion P (rows_of list) → row_at list r ≡ Some w → P w
row_such P list zero w each is = absurd cc
row_such P list (suc k) w each is = each-there P (rows_of list) k w each is

-- as the equations see it
pub row_seen : (list : List Constraint) (r : ℕ) (w : Row) → row_at list r ≡ Some w → (constraints_of list).row r ≡ flat_row w
row_seen list r w is = ap (λ o. option_map_or flat_row o no_row) is

pub numbers_seen : (list : List Constraint) (r : ℕ) (w : Row) → row_at list r ≡ Some w → (constraints_of list).numbers r ≡ flat_numbers w
numbers_seen list r w is = ap (λ o. option_map_or flat_numbers o no_numbers) is

-- ---- axes
pub axis_within : (d : Direction) → axis_of d < 3
axis_within To.AlongX = omega arith
axis_within To.AlongY = omega arith
axis_within To.AlongZ = omega arith
axis_within To.AboutX = omega arith
axis_within To.AboutY = omega arith
axis_within To.AboutZ = omega arith

pub axes_within : (list : List Constraint) → AllByRecursion (λ w. w.axis < 3) (rows_of list)
axes_within list = each-row (λ c. Unit {0}) (λ w. w.axis < 3) (λ c d _. axis_within d) list (all list)
  where
    all : (list : List Constraint) → AllByRecursion (λ c. Unit {0}) list
    all [] = tt
    all (c ∷ list) = (tt, all list)

-- the axis of a row that is read
pub axis_read : (list : List Constraint) (rows : List Row) (r : ℕ) (w : Row) → HasRow (constraints_of list) r → rows ≡ rows_of list → w ≡ get_or rows (r - 1) w → w.axis < 3
axis_read list rows r w there are read =
    let from : 1 ≤ r = there.from in
    let to : r ≤ length (rows_of list) = there.to in
    let here : slice_get rows (r - 1) ≡ Some w = slice_get_read rows (length rows) (r - 1) w refl (omega (arith, ap length are)) read in
    each-there (λ w. w.axis < 3) rows (r - 1) w (subst (AllByRecursion (λ w. w.axis < 3)) (sym are) (axes_within list)) here

-- ---- bodies
record BodiesThere (tree : Tree) (c : Constraint) : Type 0 where
  first : c.body1 ≤ length tree.bodies
  second : c.body2 ≤ length tree.bodies

world_there : (tree : Tree) (name : List ℕ) (body : ℕ) → IsLinkOrWorld tree name body → body ≤ length tree.bodies
world_there tree [] body is = omega (arith, is)
world_there tree (byte ∷ bytes) body is = (link_there tree.bodies (byte ∷ bytes) body is).to

bodies_there : (tree : Tree) (lines : List NumberedLine) (list : List Constraint) → AllZip (Says tree) lines list → AllByRecursion (BodiesThere tree) list
bodies_there tree [] [] each = tt
bodies_there tree [] (c ∷ list) each = absurd each
bodies_there tree (line ∷ lines) [] each = absurd each
bodies_there tree (line ∷ lines) (c ∷ list) each = (
  record { first = (link_there tree.bodies _ c.body1 each.0.links.first).to; second = world_there tree (second_link each.0.fields) c.body2 each.0.links.second },
  bodies_there tree lines list each.1,
)

pub rows_fit : RowsFitRobot
rows_fit tree text list file r there =
    let w = row_there list r there in
    let fits = each-row (BodiesThere tree) (λ w. RowFits (shape_of tree) (flat_row w)) (λ c d b. record { axis = axis_within d; first = b.first; second = b.second }) list (bodies_there tree file.header.behind list file.say) in
    subst (RowFits (shape_of tree)) (sym (row_seen list r w.0 w.1)) (row_such (λ w. RowFits (shape_of tree) (flat_row w)) list r w.0 fits w.1)

-- ---- choices
lowest : Interval → Frac
unfolding units
lowest v = units v.lo

lowest_lies : (v : Interval) → IsOrdered v → LiesIn (lowest v) v
unfolding lowest units
lowest_lies v h = record { above = times_pos v.lo v.lo grid (≤ℤ_refl v.lo); below = times_pos v.lo v.hi grid h }

abbrev lowest_vector : V3 Interval → V3 Frac
lowest_vector v = vector (lowest v.x) (lowest v.y) (lowest v.z)

vectors_lie : (v : V3 Interval) → AreOrdered v → Vectors LiesIn (lowest_vector v) v
vectors_lie v h = record { x = lowest_lies v.x h.x; y = lowest_lies v.y h.y; z = lowest_lies v.z h.z }

abbrev lowest_numbers : RowNumbers Interval → RowNumbers Frac
lowest_numbers n = record {
  first_point = lowest_vector n.first_point;
  second_point = lowest_vector n.second_point;
  compliance = lowest n.compliance;
  restitution = lowest n.restitution;
}

numbers_lie : (n : RowNumbers Interval) → AreNumbersOrdered n → NumbersChosen (lowest_numbers n) n
numbers_lie n h = record {
  first_point = vectors_lie n.first_point h.first_point;
  second_point = vectors_lie n.second_point h.second_point;
  compliance = lowest_lies n.compliance h.compliance;
  restitution = lowest_lies n.restitution h.restitution;
}

rows_ordered : (list : List Constraint) → AreConstraints list → AllByRecursion (λ w. AreNumbersOrdered (flat_numbers w)) (rows_of list)
rows_ordered list are = each-row IsConstraintKept (λ w. AreNumbersOrdered (flat_numbers w)) (λ c d kept. kept.ordered) list are.kept

pub has_choice : HasChoice
has_choice list are =
    let k = constraints_of list in (
      record { rows = k.rows; row = k.row; numbers = λ r. lowest_numbers (k.numbers r) },
      record {
        rows = refl;
        row = λ r there. refl;
        numbers = λ r there.
            let w = row_there list r there in
            let ordered = row_such (λ w. AreNumbersOrdered (flat_numbers w)) list r w.0 (rows_ordered list are) w.1 in
            numbers_lie (k.numbers r) (subst AreNumbersOrdered (sym (numbers_seen list r w.0 w.1)) ordered);
      },
    )

-- no constraints, which are between bodies of each robot
pub none_kept : AreConstraints []
none_kept = record { differ = λ i j d before within. absurd (omega arith); few = omega (arith, ap length rows_of-none); kept = tt }

pub none_fit : (shape : Shape) → RowsFit shape (constraints_of [])
none_fit shape r has = absurd (omega (arith, has.from, has.to, ap length rows_of-none))

-- ---- compliances
at_index : (rows : List Row) (k : ℕ) → slice_index_or (map compliance_of rows) k zero_interval ≡ (option_map_or flat_numbers (slice_get rows k) no_numbers).compliance
at_index [] k = refl
at_index (w ∷ rows) zero = refl
at_index (w ∷ rows) (suc k) = at_index rows k

-- of the row of each number
pub compliance_read : (list : List Constraint) (compliances : List Interval) (r : ℕ) → HasRow (constraints_of list) r → compliances ≡ map compliance_of (rows_of list)
    → slice_index_or compliances (r - 1) zero_interval ≡ ((constraints_of list).numbers r).compliance
compliance_read list compliances zero there are = absurd (omega (arith, there.from))
compliance_read list compliances (suc k) there are =
    let at : suc k - 1 ≡ k = omega arith in
    rw (at, are) (at_index (rows_of list) k)

pub compliances_counted : (list : List Constraint) (compliances : List Interval) → compliances ≡ map compliance_of (rows_of list) → length compliances ≡ length (rows_of list)
compliances_counted list compliances are = ap length are ∙ length-map (rows_of list) compliance_of
