-- Which constraints a file says, in the words of the format.
use Rattle.std.specs.Prelude.{◌≡◌, ◌≢◌, ℕ, ◌+◌, ◌≤◌, ◌==◌, Bool, true, false, not, List, [], ◌∷◌, codes, length, filter, get_or, AllPairs, Some, Ok}
use Rattle.std.specs.List.{AllZip, list_all}
use Rattle.std.specs.Str.{is_utf8}
use Rattle.rb_frac.specs.Ops.{V3}
use Rattle.rb_frac.specs.Tables.{Vectors}
use Rattle.rb_num.specs.Interval.{Interval, zero_interval}
use Rattle.rb_text.specs.Bracket.{bracket_of}
use Rattle.rb_io.specs.Cut.{Line, all_lines}
use Rattle.rb_record.specs.Record.{fields_in}
use Rattle.rb_flat.specs.Contact.{RowNumbers}
use Rattle.rb_tree.specs.Robot.{Tree}
use Rattle.rb_tree.specs.Groups.{body_of_link}
use Rattle.rb_constraint.specs.declared.axes.Axes.{Axes}
use Rattle.rb_constraint.specs.declared.constraints.Constraint.{Constraint}
use Rattle.rb_constraint.specs.declared.constraints.TheConstants.{MAX_ROWS}
use Rattle.rb_constraint.specs.Axes.{letters}
use Rattle.rb_constraint.specs.Constraints.{rows_of, numbers_of, AreNumbersWithin}

-- ---- lines
-- a line with its number in the file
pub record NumberedLine : Type 0 where
  pub number : ℕ
  pub content : List ℕ

abbrev pub numbered_line : ℕ → List ℕ → NumberedLine
numbered_line number content = record { number = number; content = content }

abbrev pub numbered : ℕ → List Line → List NumberedLine
numbered number [] = []
numbered number (line ∷ lines) = numbered_line number line.content ∷ numbered (number + 1) lines

-- empty lines and those that begin with # are passed over
abbrev pub is_kept : List ℕ → Bool
is_kept [] = false
is_kept (byte ∷ bytes) = not (byte == 35)

-- the lines of a text that are left, where its first line has this number
unfoldable pub lines_from : ℕ → List ℕ → List NumberedLine
lines_from number text = filter (λ line. is_kept line.content) (numbered number (all_lines text))

-- of a whole file
abbrev pub lines_of : List ℕ → List NumberedLine
lines_of text = lines_from 1 text

-- the first of them is this
abbrev pub header : List ℕ
header = codes "name,axes,link1,x1,y1,z1,link2,x2,y2,z2,mu,e"

-- ---- records
-- the fields of a record, in the order of the header
abbrev pub field : ℕ → List (List ℕ) → List ℕ
field k fields = get_or fields k []

abbrev pub name_in : List (List ℕ) → List ℕ
name_in fields = field 0 fields

abbrev pub axes_in : List (List ℕ) → List ℕ
axes_in fields = field 1 fields

abbrev pub first_link : List (List ℕ) → List ℕ
first_link fields = field 2 fields

abbrev pub second_link : List (List ℕ) → List ℕ
second_link fields = field 6 fields

-- three numbers from a field on
abbrev pub three_from : ℕ → List (List ℕ) → V3 (List ℕ)
three_from k fields = record { x = field k fields; y = field (k + 1) fields; z = field (k + 2) fields }

-- a line is one record of twelve fields in UTF-8, and its name is not empty
pub record IsRecord (line : List ℕ) (fields : List (List ℕ)) : Type 0 where
  pub read : fields_in line ≡ Some fields
  pub twelve : length fields ≡ 12
  pub text : list_all is_utf8 fields ≡ true
  pub named : name_in fields ≢ []

-- ---- what fields say
-- one or more letters of xyzabc in that order, each once
pub record IsAxes (text : List ℕ) (axes : Axes) : Type 0 where
  pub some : text ≢ []
  pub written : text ≡ letters axes

-- the second link may be the world, which has no name
abbrev pub IsLinkOrWorld : Tree → List ℕ → ℕ → Type 0
IsLinkOrWorld tree [] body = body ≡ 0
IsLinkOrWorld tree (byte ∷ bytes) body = body_of_link tree.bodies (byte ∷ bytes) ≡ Some body

-- the two bodies of the links that are named
pub record AreLinks (tree : Tree) (fields : List (List ℕ)) (bodies : ℕ × ℕ) : Type 0 where
  pub first : body_of_link tree.bodies (first_link fields) ≡ Some bodies.0
  pub second : IsLinkOrWorld tree (second_link fields) bodies.1

-- an empty number is 0
abbrev pub IsNumber : List ℕ → Interval → Type 0
IsNumber [] v = v ≡ zero_interval
IsNumber (byte ∷ bytes) v = bracket_of (byte ∷ bytes) ≡ Ok v

-- the points in both bodies, mu and e, which are within their limits
pub record AreNumbers (fields : List (List ℕ)) (n : RowNumbers Interval) : Type 0 where
  pub first_point : Vectors IsNumber (three_from 3 fields) n.first_point
  pub second_point : Vectors IsNumber (three_from 7 fields) n.second_point
  pub compliance : IsNumber (field 10 fields) n.compliance
  pub restitution : IsNumber (field 11 fields) n.restitution
  pub within : AreNumbersWithin n

-- ---- files
-- the constraint of a line, for this robot
pub record Says (tree : Tree) (line : NumberedLine) (c : Constraint) : Type 0 where
  pub fields : List (List ℕ)
  pub is : IsRecord line.content fields
  pub name : c.name ≡ name_in fields
  pub axes : IsAxes (axes_in fields) c.axes
  pub links : AreLinks tree fields (c.body1, c.body2)
  pub numbers : AreNumbers fields (numbers_of c)

-- the first line that is left is the header, and these are behind it
pub record HasHeader (text : List ℕ) : Type 0 where
  pub first : NumberedLine
  pub behind : List NumberedLine
  pub lines_are : lines_of text ≡ first ∷ behind
  pub is : first.content ≡ header

-- each line behind the header says a constraint; no two have one name, and there are not too many rows
pub record IsFile (tree : Tree) (text : List ℕ) (list : List Constraint) : Type 0 where
  pub header : HasHeader text
  pub say : AllZip (Says tree) header.behind list
  pub differ : AllPairs (λ a b. a.name ≢ b.name) list
  pub few : length (rows_of list) ≤ MAX_ROWS
