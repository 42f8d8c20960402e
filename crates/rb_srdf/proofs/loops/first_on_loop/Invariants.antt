use Rattle.std.proofs.Common.{ℕ, ◌<◌}
use Rattle.rb_srdf.specs.Loops.{LeadsTo}
use Rattle.rb_srdf.proofs.loops.first_on_loop.Given as goal

abbrev pub invariant-loop-k : goal.invariant-loop-k
invariant-loop-k l = (j : ℕ) → j < l.k → LeadsTo l.rows j j → ⊥
