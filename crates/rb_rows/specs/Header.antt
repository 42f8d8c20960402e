-- What the fields of a header stand for.
use Rattle.std.specs.Prelude.{◌<◌, ℕ, ◌+◌, ◌==◌, List, [], ◌∷◌, ◌++◌, Bool, false, if◌then◌else◌, length, slice_get, option_and_then, Option, Some, None, Result, Ok, Err}
use Rattle.std.specs.List.{list_any, AllByRecursion}
use Rattle.std.specs.Option.{ok_or}
use Rattle.std.specs.Str.{bytes_eq, is_utf8}
use Rattle.rb_result.specs.Steps.{◌>>=◌}
use Rattle.rb_tags.specs.Names.{number_of_name}
use Rattle.rb_tree.specs.Robot.{Tree}
use Rattle.rb_tree.specs.State.{Row}
use Rattle.rb_rows.specs.declared.faults.HeaderFault.{HeaderFault}
use Rattle.rb_rows.specs.declared.faults.HeaderKind.TheVariants.{BadHeader, UnknownColumn, ColumnTwice}
use Rattle.rb_rows.specs.declared.header.Target.{Target}
use Rattle.rb_rows.specs.declared.header.Target.TheVariants as To
use Rattle.rb_rows.specs.Faults.{header_fault}
use Rattle.rb_rows.specs.Columns.{state_columns, state_targets}
use Rattle.rb_record.specs.Record.{fields_in}

-- a field that begins with # is a remark
abbrev pub is_remark : List ℕ → Bool
is_remark [] = false
is_remark (first ∷ rest) = first == 35

-- what a name stands for, if it is that of a column
unfoldable pub target_named : Tree → List ℕ → Option Target
target_named tree name = option_and_then (slice_get (state_targets tree)) (number_of_name (state_columns tree) name)

-- whether a name is among the fields before it
abbrev pub is_among : List (List ℕ) → List ℕ → Bool
is_among before name = list_any (λ earlier. bytes_eq earlier name) before

-- what a field of this number stands for, behind these
abbrev pub target_after : Tree → List (List ℕ) → ℕ → List ℕ → Result Target HeaderFault
target_after tree before number field =
    if is_remark field then Ok To.Remark else
    ok_or (target_named tree field) (header_fault UnknownColumn number) >>= λ target.
    if is_among before field then Err (header_fault ColumnTwice number) else Ok target

-- what fields stand for that come behind these
unfoldable pub targets_after : Tree → List (List ℕ) → List (List ℕ) → Result (List Target) HeaderFault
targets_after tree before [] = Ok []
targets_after tree before (field ∷ fields) =
    target_after tree before (length before + 1) field >>= λ target.
    targets_after tree (before ++ field ∷ []) fields >>= λ targets. Ok (target ∷ targets)

-- what the fields of a record stand for
abbrev pub targets_of : Tree → Option (List (List ℕ)) → Result (List Target) HeaderFault
targets_of tree None = Err (header_fault BadHeader 0)
targets_of tree (Some fields) = targets_after tree [] fields

unfoldable pub header_of : Tree → List ℕ → Result (List Target) HeaderFault
header_of tree line = if is_utf8 line then targets_of tree (fields_in line) else Err (header_fault BadHeader 0)

-- ---- what headers keep
-- a state has a place for what a field stands for
abbrev pub HasPlace : Row → Target → Type 0
HasPlace row To.Remark = Unit {0}
HasPlace row (To.Entry k) = k < length row.q
HasPlace row (To.Speed k) = k < length row.v
HasPlace row (To.Acceleration k) = k < length row.a
HasPlace row (To.Torque k) = k < length row.tau

-- a state has a place for each
abbrev pub HasPlaces : List Target → Row → Type 0
HasPlaces targets row = AllByRecursion (HasPlace row) targets
