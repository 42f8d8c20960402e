-- The hull of two intervals, which is the least that has both in it, and their meet, the common part.
use Rattle.std.specs.Prelude.{◌≤ℤ◌, Bool, ◌&&◌}
use Rattle.std.specs.Int.{int_min, int_max}
use Rattle.std.specs.Int.Signed.{le_z}
use Rattle.rb_num.specs.Interval.{Interval, interval}

unfoldable pub hull_of : Interval → Interval → Interval
hull_of a b = interval (int_min a.lo b.lo) (int_max a.hi b.hi)

unfoldable pub meet_of : Interval → Interval → Interval
meet_of a b = interval (int_max a.lo b.lo) (int_min a.hi b.hi)

-- some fraction lies in both: neither is below the other
pub record Meet (a b : Interval) : Type 0 where
  pub left : a.lo ≤ℤ b.hi
  pub right : b.lo ≤ℤ a.hi

-- whether `Meet a b`
unfoldable pub do_meet : Interval → Interval → Bool
do_meet a b = le_z a.lo b.hi && le_z b.lo a.hi
