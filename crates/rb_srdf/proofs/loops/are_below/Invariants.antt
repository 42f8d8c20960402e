use Rattle.std.proofs.Common.{ℕ, ◌<◌, ◌+◌}
use Rattle.std.specs.Prelude.{slice_index}
use Rattle.rb_srdf.specs.Loops.{RowHolds}
use Rattle.rb_srdf.proofs.loops.are_below.Given as goal

abbrev pub invariant-loop-k : goal.invariant-loop-k
invariant-loop-k l = (a : ℕ) → a < l.k → (b : ℕ) → RowHolds l.rows a b → slice_index l.levels b < slice_index l.levels a + l.more
