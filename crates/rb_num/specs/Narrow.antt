-- Intervals whose products of ends need no test of their size.
use Rattle.std.specs.Prelude.{ℤ, neg_ℤ, ◌≤ℤ◌}
use Rattle.rb_num.specs.declared.interval.TheConstants.{NARROW}

-- the ends are in order, and at most the code's constant in size
pub record IsNarrow (lo hi : ℤ) : Type 0 where
  pub ordered : lo ≤ℤ hi
  pub low : neg_ℤ NARROW ≤ℤ lo
  pub high : hi ≤ℤ NARROW
