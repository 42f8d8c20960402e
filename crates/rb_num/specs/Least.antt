-- Least intervals: that an operation rounds outwards, and no further than it must.
use Rattle.std.specs.Prelude.{ℤ, pos, ◌*ℤ◌, ◌≤ℤ◌, List}
use Rattle.rb_frac.specs.Positive.{suc_pos}
use Rattle.rb_frac.specs.Frac.{Frac, quot}
use Rattle.rb_num.specs.Interval.{Interval, grid}
use Rattle.rb_num.specs.Fraction.{LiesIn}
use Rattle.rb_num.specs.Dot.{least_product, greatest_product, int_sum_by}

-- v lies in w
pub record Covers (w v : Interval) : Type 0 where
  pub low : w.lo ≤ℤ v.lo
  pub high : v.hi ≤ℤ w.hi

-- v is an interval with P, and lies in every other
pub record IsLeast (P : Interval → Type 0) (v : Interval) : Type 0 where
  pub has : P v
  pub least : (w : Interval) → P w → Covers w v

-- z units, as a fraction: z / grid
unfoldable pub units : ℤ → Frac
units z = record { num = z; den = grid; some = suc_pos 999999999999 }

-- the four exact quotients of an end of a by an end of b lie in v
pub record HasQuotients (a b v : Interval) : Type 0 where
  pub lo_lo : LiesIn (quot (units a.lo) (units b.lo)) v
  pub lo_hi : LiesIn (quot (units a.lo) (units b.hi)) v
  pub hi_lo : LiesIn (quot (units a.hi) (units b.lo)) v
  pub hi_hi : LiesIn (quot (units a.hi) (units b.hi)) v

-- lo · grid ≤ L and H ≤ hi · grid, where L is the sum of the least products of ends, and H that of the greatest
pub record HasSums (ps : List (Interval × Interval)) (v : Interval) : Type 0 where
  pub low : (v.lo *ℤ pos grid) ≤ℤ int_sum_by least_product ps
  pub high : int_sum_by greatest_product ps ≤ℤ (v.hi *ℤ pos grid)

-- a and b lie in v
pub record HasBoth (a b v : Interval) : Type 0 where
  pub left : Covers v a
  pub right : Covers v b
