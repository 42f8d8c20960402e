-- The state that a line tells.
use Rattle.std.specs.Prelude.{◌≡◌, ℕ, ◌+◌, ◌==◌, List, [], ◌∷◌, if◌then◌else◌, drop, length, slice_set, Option, Some, None, Result, Ok, Err}
use Rattle.rb_result.specs.Steps.{◌>>=◌, placed}
use Rattle.rb_num.specs.Interval.{Interval}
use Rattle.rb_text.specs.Bracket.{bracket_of}
use Rattle.rb_text.specs.declared.bracket.TextFault.{TextFault}
use Rattle.rb_tree.specs.State.{Row}
use Rattle.rb_rows.specs.declared.faults.FieldFault.{FieldFault}
use Rattle.rb_rows.specs.declared.faults.FieldKind.TheVariants.{Count}
use Rattle.rb_rows.specs.declared.header.Target.{Target}
use Rattle.rb_rows.specs.declared.header.Target.TheVariants as To
use Rattle.rb_rows.specs.Faults.{field_fault, kind_of}
use Rattle.rb_record.specs.Record.{fields_in}

-- ---- one number
-- the row with this number
abbrev pub with_number : Target → Interval → Row → Row
with_number To.Remark v row = row
with_number (To.Entry k) v row = record row { q = slice_set row.q k v }
with_number (To.Speed k) v row = record row { v = slice_set row.v k v }
with_number (To.Acceleration k) v row = record row { a = slice_set row.a k v }
with_number (To.Torque k) v row = record row { tau = slice_set row.tau k v }

abbrev pub text_fault : TextFault → ℕ → FieldFault
text_fault fault number = field_fault (kind_of fault) number

-- ---- a line
-- the row with the bracket of a field: a remark tells nothing, nor does an empty field
abbrev pub told : Target → ℕ → List ℕ → Row → Result Row FieldFault
told To.Remark number field row = Ok row
told target number [] row = Ok row
told target number (byte ∷ bytes) row = placed text_fault number (bracket_of (byte ∷ bytes)) >>= λ v. Ok (with_number target v row)

-- the row with the brackets of fields, the first of which has this number; or the first that is bad
unfoldable pub filled : ℕ → List Target → List (List ℕ) → Row → Result Row FieldFault
filled number (target ∷ targets) (field ∷ fields) row = told target number field row >>= filled (number + 1) targets fields
filled number targets fields row = Ok row

-- the row with the brackets of the fields from a place on
abbrev pub filled_from : List Target → List (List ℕ) → ℕ → Row → Result Row FieldFault
filled_from targets fields index row = filled (index + 1) (drop index targets) (drop index fields) row

-- the row that a record tells, where it has one field for each target
abbrev pub row_with : List Target → List (List ℕ) → Row → Result Row FieldFault
row_with targets fields row = if length fields == length targets then filled 1 targets fields row else Err (field_fault Count (length fields))

abbrev pub row_told : List Target → Option (List (List ℕ)) → Row → Result Row FieldFault
row_told targets None row = Err (field_fault Count 0)
row_told targets (Some fields) row = row_with targets fields row

-- the row that a line tells, which starts from another; or what is wrong with it
unfoldable pub row_of : List Target → List ℕ → Row → Result Row FieldFault
row_of targets line row = row_told targets (fields_in line) row

-- ---- what stays
-- as many numbers of each sort, under the same gravity
pub record IsAlike (old new : Row) : Type 0 where
  pub q : length new.q ≡ length old.q
  pub v : length new.v ≡ length old.v
  pub a : length new.a ≡ length old.a
  pub tau : length new.tau ≡ length old.tau
  pub gravity : new.gravity ≡ old.gravity
