-- What the rows tell: a header, and the state of each row.
use Rattle.std.specs.Prelude.{ℕ, ◌+◌, ◌^◌, List, [], ◌∷◌, Bool, not, nat_lt, if◌then◌else◌, length, map, take_while, Option, Some, None, Result, Ok, Err}
use Rattle.std.specs.List.{list_any}
use Rattle.rb_result.specs.Steps.{◌>>=◌, told_as}
use Rattle.rb_io.specs.Cut.{Line, lines_of}
use Rattle.rb_io.specs.declared.lines.TheConstants.{MOST_LINE}
use Rattle.rb_tree.specs.Robot.{Tree}
use Rattle.rb_tree.specs.State.{Row}
use Rattle.rb_rows.specs.declared.faults.HeaderKind.TheVariants.{BadHeader}
use Rattle.rb_rows.specs.declared.header.Target.{Target}
use Rattle.rb_rows.specs.Faults.{header_fault}
use Rattle.rb_rows.specs.Header.{header_of}
use Rattle.rb_rows.specs.Row.{row_of}
use Rattle.rb_run.specs.Answers.{Told}
use Rattle.rbd.specs.declared.stop.RowsFault.{RowsFault}
use Rattle.rbd.specs.declared.stop.RowsFault.TheVariants.{TooLong, Header, LineTooLong}

-- the most bytes of the rows
abbrev pub most_rows : ℕ
most_rows = 2 ^ 40

abbrev pub is_long : Line → Bool
is_long line = nat_lt MOST_LINE line.size

abbrev pub is_short : Line → Bool
is_short line = not (is_long line)

-- ---- the header, and the lines behind it
pub record Rows : Type 0 where
  pub header : List Target
  pub lines : List Line

abbrev pub rows : List Target → List Line → Rows
rows header lines = record { header = header; lines = lines }

abbrev pub rows_of_lines : Tree → List Line → Result Rows RowsFault
rows_of_lines tree [] = Err (Header (header_fault BadHeader 0))
rows_of_lines tree (first ∷ lines) =
    if is_long first then Err (LineTooLong 0) else (told_as Header (header_of tree first.content) >>= λ header. Ok (rows header lines))

-- or the first thing that is wrong with them
unfoldable pub rows_of : Tree → List ℕ → Result Rows RowsFault
rows_of tree bytes = if nat_lt most_rows (length bytes) then Err TooLong else rows_of_lines tree (lines_of bytes)

-- ---- the rows
-- what the rows tell before the first line that is too long
unfoldable pub inputs_of : Row → Rows → List Told
inputs_of start rows = map (λ line. row_of rows.header line.content start) (take_while is_short rows.lines)

-- that line, by its row
unfoldable pub long_line : Rows → Option RowsFault
long_line rows = if list_any is_long rows.lines then Some (LineTooLong (length (take_while is_short rows.lines) + 1)) else None
