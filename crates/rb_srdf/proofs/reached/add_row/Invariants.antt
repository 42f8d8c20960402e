use Rattle.std.proofs.Common.{take}
use Rattle.rb_srdf.specs.Reached.{IsAdded}
use Rattle.rb_srdf.proofs.reached.add_row.Given as goal

abbrev pub invariant-loop-number : goal.invariant-loop-number
invariant-loop-number l = IsAdded l.initial.found.keys (take l.number-index l.row) l.found.keys
