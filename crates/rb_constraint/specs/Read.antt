-- How a file is read, line by line.
use Rattle.std.specs.Prelude.{ℕ, ◌+◌, ◌==◌, ◌&&◌, ◌||◌, not, nat_lt, pos, Bool, true, false, if◌then◌else◌, List, [], ◌∷◌, ◌++◌, length, bytes_eq, option_map, option_and_then, Option, Some, None, Result, Ok, Err}
use Rattle.std.specs.Int.Signed.{lt_z}
use Rattle.std.specs.List.{list_all, list_any}
use Rattle.std.specs.Option.{ok_or}
use Rattle.std.specs.Str.{is_utf8}
use Rattle.rb_frac.specs.Ops.{V3}
use Rattle.rb_num.specs.Interval.{Interval, grid, zero_interval}
use Rattle.rb_result.specs.Steps.{◌>>=◌, placed}
use Rattle.rb_text.specs.Bracket.{bracket_of}
use Rattle.rb_text.specs.declared.bracket.TextFault.{TextFault}
use Rattle.rb_record.specs.Record.{fields_in}
use Rattle.rb_flat.specs.Contact.{RowNumbers}
use Rattle.rb_tree.specs.Robot.{Tree}
use Rattle.rb_tree.specs.Groups.{body_of_link}
use Rattle.rb_constraint.specs.declared.faults.ConFault.{ConFault}
use Rattle.rb_constraint.specs.declared.faults.ConKind.{ConKind}
use Rattle.rb_constraint.specs.declared.faults.ConKind.TheVariants as kind
use Rattle.rb_constraint.specs.declared.axes.Axes.{Axes}
use Rattle.rb_constraint.specs.declared.constraints.Constraint.{Constraint}
use Rattle.rb_constraint.specs.declared.numbers.Numbers.{Numbers}
use Rattle.rb_constraint.specs.declared.constraints.TheConstants.{MAX_ROWS}
use Rattle.rb_constraint.specs.Faults.{fault_at}
use Rattle.rb_constraint.specs.Constraints.{rows_of}
use Rattle.rb_constraint.specs.File.{NumberedLine, lines_of, header, field, name_in, axes_in, first_link, second_link, three_from}

-- ---- records
abbrev pub is_empty : List ℕ → Bool
is_empty [] = true
is_empty (byte ∷ bytes) = false

-- whether fields are twelve in UTF-8, of which the first is not empty
unfoldable pub is_whole : List (List ℕ) → Bool
is_whole fields = (length fields == 12) && (list_all is_utf8 fields && not (is_empty (name_in fields)))

abbrev pub if_whole : List (List ℕ) → Option (List (List ℕ))
if_whole fields = if is_whole fields then Some fields else None

unfoldable pub record_of : List ℕ → Option (List (List ℕ))
record_of line = option_and_then if_whole (fields_in line)

-- ---- axes
-- whether a text begins with a letter, and what is behind it where it does
abbrev pub begins : ℕ → List ℕ → Bool
begins letter [] = false
begins letter (byte ∷ bytes) = byte == letter

abbrev pub behind : ℕ → List ℕ → List ℕ
behind letter [] = []
behind letter (byte ∷ bytes) = if byte == letter then bytes else byte ∷ bytes

abbrev pub at_end : List ℕ → Axes → Option Axes
at_end [] axes = Some axes
at_end (byte ∷ bytes) axes = None

abbrev pub axes_behind : List ℕ → Option Axes
axes_behind text =
    let y = behind 120 text in
    let z = behind 121 y in
    let a = behind 122 z in
    let b = behind 97 a in
    let c = behind 98 b in
    at_end (behind 99 c) (record { x = begins 120 text; y = begins 121 y; z = begins 122 z; a = begins 97 a; b = begins 98 b; c = begins 99 c })

unfoldable pub axes_of : List ℕ → Option Axes
axes_of text = if is_empty text then None else axes_behind text

-- ---- links
abbrev pub link_or_world : Tree → List ℕ → Option ℕ
link_or_world tree [] = Some 0
link_or_world tree (byte ∷ bytes) = body_of_link tree.bodies (byte ∷ bytes)

abbrev pub both : Option ℕ → Option ℕ → Option (ℕ × ℕ)
both (Some a) (Some b) = Some (a, b)
both (Some a) None = None
both None o = None

unfoldable pub links_of : Tree → List (List ℕ) → Option (ℕ × ℕ)
links_of tree fields = both (body_of_link tree.bodies (first_link fields)) (link_or_world tree (second_link fields))

-- ---- numbers
abbrev pub if_read : Result Interval TextFault → Option Interval
if_read (Ok v) = Some v
if_read (Err fault) = None

unfoldable pub number_of : List ℕ → Option Interval
number_of [] = Some zero_interval
number_of (byte ∷ bytes) = if_read (bracket_of (byte ∷ bytes))

unfoldable pub three_of : V3 (List ℕ) → Option (V3 Interval)
three_of v =
    option_and_then (λ x. option_and_then (λ y. option_map (λ z. record { x = x; y = y; z = z }) (number_of v.z)) (number_of v.y)) (number_of v.x)

-- the numbers of the code
abbrev pub numbers_seen : Numbers → RowNumbers Interval
numbers_seen n = record { first_point = n.at1; second_point = n.at2; compliance = n.mu; restitution = n.e }

-- whether mu or e is outside its limits
unfoldable pub is_outside : Interval → Interval → Bool
is_outside mu e = lt_z mu.lo (pos 0) || (lt_z e.lo (pos 0) || lt_z (pos grid) e.hi)

abbrev pub if_within : RowNumbers Interval → Option (RowNumbers Interval)
if_within n = if is_outside n.compliance n.restitution then None else Some n

abbrev pub with_limits : V3 Interval → V3 Interval → List (List ℕ) → Option (RowNumbers Interval)
with_limits p q fields =
    option_and_then (λ mu. option_and_then (λ e. if_within (record { first_point = p; second_point = q; compliance = mu; restitution = e })) (number_of (field 11 fields)))
    (number_of (field 10 fields))

unfoldable pub numbers_of : List (List ℕ) → Option (RowNumbers Interval)
numbers_of fields =
    option_and_then (λ p. option_and_then (λ q. with_limits p q fields) (three_of (three_from 7 fields))) (three_of (three_from 3 fields))

-- ---- lines
abbrev pub is_named : List Constraint → List ℕ → Bool
is_named made name = list_any (λ c. bytes_eq c.name name) made

abbrev pub constraint_with : List ℕ → Axes → ℕ × ℕ → RowNumbers Interval → Constraint
constraint_with name axes bodies n = record {
  name = name;
  axes = axes;
  body1 = bodies.0;
  at1 = n.first_point;
  body2 = bodies.1;
  at2 = n.second_point;
  mu = n.compliance;
  e = n.restitution;
}

-- the constraint of a record, behind those that were made
unfoldable pub constraint_of : Tree → List Constraint → List (List ℕ) → Result Constraint ConKind
constraint_of tree made fields =
    if is_named made (name_in fields) then Err kind.NameTwice else
    ok_or (axes_of (axes_in fields)) kind.BadRows >>= λ axes.
    ok_or (links_of tree fields) kind.UnknownLink >>= λ bodies.
    ok_or (numbers_of fields) kind.BadNumber >>= λ numbers.
    if nat_lt MAX_ROWS (length (rows_of made) + length (axes_in fields)) then Err kind.TooMany else
    Ok (constraint_with (name_in fields) axes bodies numbers)

-- that of a line
unfoldable pub constraint_in : Tree → List Constraint → List ℕ → Result Constraint ConKind
constraint_in tree made line = ok_or (record_of line) kind.BadLine >>= λ fields. constraint_of tree made fields

-- those that were made, and that of a line
unfoldable pub added : Tree → List Constraint → NumberedLine → Result (List Constraint) ConFault
added tree made line = placed fault_at line.number (constraint_in tree made line.content) >>= λ c. Ok (made ++ c ∷ [])

-- and those of further lines
unfoldable pub constraints_in : Tree → List Constraint → List NumberedLine → Result (List Constraint) ConFault
constraints_in tree made [] = Ok made
constraints_in tree made (line ∷ lines) = added tree made line >>= λ more. constraints_in tree more lines

-- those of the lines of a file
unfoldable pub file_with : Tree → List NumberedLine → Result (List Constraint) ConFault
file_with tree [] = Err (fault_at kind.BadHeader 0)
file_with tree (first ∷ behind) = if not (bytes_eq first.content header) then Err (fault_at kind.BadHeader first.number) else constraints_in tree [] behind

unfoldable pub file_of : Tree → List ℕ → Result (List Constraint) ConFault
file_of tree text = file_with tree (lines_of text)
