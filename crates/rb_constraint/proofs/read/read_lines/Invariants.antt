use Rattle.std.proofs.Common.{◌≡◌, ◌≤◌, ◌+◌, ◌-◌, ◌^◌, [], length}
use Rattle.rb_constraint.specs.Constraints.{rows_of, AreAllOrdered}
use Rattle.rb_constraint.specs.File.{lines_from}
use Rattle.rb_constraint.specs.Read.{constraints_in}
use Rattle.rb_constraint.proofs.read.read_lines.Given as goal

-- what was made goes on over the lines that are left
abbrev pub invariant-lines : goal.invariant-lines
invariant-lines l = record {
  left : constraints_in l.robot [] (lines_from l.number l.text) ≡ constraints_in l.robot l.made.list.items (lines_from l.at l.rest);
  rows : l.made.rows.items ≡ rows_of l.made.list.items;
  ordered : AreAllOrdered l.made.list.items;
  room : l.at + length l.rest ≤ 2 ^ 64 - 1;
}

abbrev pub decreases-lines : goal.decreases-lines
decreases-lines l = length l.rest
