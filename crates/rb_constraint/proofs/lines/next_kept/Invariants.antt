use Rattle.std.proofs.Common.{◌≡◌, ◌≤◌, ◌+◌, length}
use Rattle.rb_constraint.specs.File.{lines_from}
use Rattle.rb_constraint.proofs.lines.next_kept.Given as goal

-- no line that is kept is passed, and each line that is passed has a byte
abbrev pub invariant-lines : goal.invariant-lines
invariant-lines l = record {
  left : lines_from l.at l.rest ≡ lines_from l.number l.text;
  room : l.at + length l.rest ≤ l.number + length l.text;
  shorter : length l.rest ≤ length l.text;
}

abbrev pub decreases-lines : goal.decreases-lines
decreases-lines l = length l.rest
