use Rattle.std.proofs.Common.{◌≡◌, ◌≤◌, length}
use Rattle.rb_io.specs.Cut.{lines_of}
use Rattle.rb_io.proofs.lines.next_line.Given as goal

-- no line that is not empty is passed
abbrev pub invariant-lines : goal.invariant-lines
invariant-lines l = (lines_of l.rest ≡ lines_of l.text) × (length l.rest ≤ length l.text)

abbrev pub decreases-lines : goal.decreases-lines
decreases-lines l = length l.rest
