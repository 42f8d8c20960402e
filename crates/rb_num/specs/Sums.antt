-- Sums of products of intervals, pair by pair, before they are rounded.
use Rattle.std.specs.Prelude.{◌≡◌, ℕ, ℤ, pos, neg_ℤ, ◌+ℤ◌, ◌≤ℤ◌, ◌+◌, ◌-◌, ◌*◌, ◌≤◌, List, length}
use Rattle.std.specs.List.{All}
use Rattle.rb_num.specs.declared.interval.TheConstants.{MAX_PAIRS}
use Rattle.rb_num.specs.Interval.{Interval, limit, grid, interval}
use Rattle.rb_num.specs.Dot.{ProductsFit, least_product, greatest_product, int_sum_by, floor_of, ceil_of}
use Rattle.rb_num.specs.Reciprocal.{IsNear}

-- the sums of the least and of the greatest products, and of how many pairs they are
pub record Totals : Type 0 where
  pub low : ℤ
  pub high : ℤ
  pub count : ℕ

-- so many products of size `limit` are no more than the sums
pub record AreBounded (low high : ℤ) (count : ℕ) : Type 0 where
  pub below : neg_ℤ (pos (count * limit)) ≤ℤ low
  pub ordered : low ≤ℤ high
  pub above : high ≤ℤ pos (count * limit)
  pub few : count ≤ MAX_PAIRS

-- these are the sums of these pairs, whose products are within the limit
pub record AreSums (pairs : List (Interval × Interval)) (t : Totals) : Type 0 where
  pub each : All ProductsFit pairs
  pub low : t.low ≡ int_sum_by least_product pairs
  pub high : t.high ≡ int_sum_by greatest_product pairs
  pub count : t.count ≡ length pairs

-- one more pair in front
abbrev pub plus : Interval × Interval → Totals → Totals
plus p t = record { low = least_product p +ℤ t.low; high = greatest_product p +ℤ t.high; count = t.count + 1 }

-- what the sums are rounded to, outwards
abbrev pub rounded : Totals → Interval
rounded t = interval (floor_of t.low grid) (ceil_of t.high grid)

-- both are near
pub record AreNear (t : Totals) : Type 0 where
  pub low : IsNear grid t.low
  pub high : IsNear grid (t.high +ℤ pos (grid - 1))
