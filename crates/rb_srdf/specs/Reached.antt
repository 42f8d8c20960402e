-- What a search finds.
use Rattle.std.specs.Prelude.{◌≡◌, ℕ, List, ◌++◌}
use Rattle.std.specs.List.{Contains}
use Rattle.rb_srdf.specs.Loops.{LeadsTo}

-- numbers with all of a row behind them, and none else
pub record IsAdded (old row new : List ℕ) : Type 0 where
  pub extra : List ℕ
  pub is : new ≡ old ++ extra
  pub only : (k : ℕ) → Contains extra k → Contains row k
  pub all : (k : ℕ) → Contains row k → Contains new k

-- the rows to which ways of one step or more lead from a row
pub record AreReached (rows : List (List ℕ)) (from : ℕ) (found : List ℕ) : Type 0 where
  pub sound : (k : ℕ) → Contains found k → LeadsTo rows from k
  pub complete : (k : ℕ) → LeadsTo rows from k → Contains found k
