-- Steps from whole intervals to whole intervals, exact or rounded outwards. What their ends count is said where they are used.
use Rattle.std.specs.Prelude.{ℤ, pos, neg_ℤ, ◌*ℤ◌, cond}
use Rattle.std.specs.Int.{int_min, int_max}
use Rattle.rb_num.specs.Interval.{Interval, IsWithin, interval, grid}
use Rattle.rb_num.specs.Dot.{least_product, greatest_product}
use Rattle.rb_num.specs.Quotient.{floor_quotient, ceil_quotient}
use Rattle.rb_num.specs.Refusing.{has_zero}

-- both ends divided by d, the lower rounded down and the upper up
unfoldable pub outward : Interval → ℤ → Interval
outward v d = interval (floor_quotient v.lo d) (ceil_quotient v.hi d)

-- the least and the greatest product of an end of a and an end of b
unfoldable pub products : Interval → Interval → Interval
products a b = interval (least_product (a, b)) (greatest_product (a, b))

-- the least and the greatest square of a number from end to end
unfoldable pub squares : Interval → Interval
squares v =
    interval (cond (has_zero v) (pos 0) (int_min (v.lo *ℤ v.lo) (v.hi *ℤ v.hi))) (int_max (v.lo *ℤ v.lo) (v.hi *ℤ v.hi))

-- the squares of both ends are at most `limit`
pub record SquaresFit (v : Interval) : Type 0 where
  pub low : IsWithin (v.lo *ℤ v.lo)
  pub high : IsWithin (v.hi *ℤ v.hi)

-- each end, but the nearer of -1 and 1 where it is outside
unfoldable pub clamped : Interval → Interval
clamped v =
    interval (int_max (neg_ℤ (pos grid)) (int_min v.lo (pos grid))) (int_max (neg_ℤ (pos grid)) (int_min v.hi (pos grid)))
