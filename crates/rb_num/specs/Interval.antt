-- What an interval is to the contracts: its two ends, whole numbers that count units. `grid` units make one.
use Rattle.std.specs.Prelude.{ℕ, unsigned_abs, ℤ, pos, neg_ℤ, ◌+ℤ◌, ◌-ℤ◌, ◌≤ℤ◌}
use Rattle.rb_num.specs.declared.interval.TheConstants.{S, B}

-- how many units make one: the code's constant
abbrev pub grid : ℕ
grid = unsigned_abs S

-- no end is larger in size than this number of units, 2^120: the code's constant
abbrev pub limit : ℕ
limit = unsigned_abs B

-- the fractions x with lo ≤ x · grid ≤ hi
pub record Interval : Type 0 where
  pub lo : ℤ
  pub hi : ℤ

-- z is at most `limit` in size
pub record IsWithin (z : ℤ) : Type 0 where
  pub above : neg_ℤ (pos limit) ≤ℤ z
  pub below : z ≤ℤ pos limit

-- the ends are in order, and at most `limit` in size: what holds of every `Iv`
pub record IsInterval (lo hi : ℤ) : Type 0 where
  pub ordered : lo ≤ℤ hi
  pub low : neg_ℤ (pos limit) ≤ℤ lo
  pub high : hi ≤ℤ pos limit

-- both ends are at most `limit` in size: what a sum or a difference needs
pub record EndsFit (v : Interval) : Type 0 where
  pub low : IsWithin v.lo
  pub high : IsWithin v.hi

abbrev pub interval : ℤ → ℤ → Interval
interval a b = record { lo = a; hi = b }

-- the numbers zero and one, alone
abbrev pub zero_interval : Interval
zero_interval = interval (pos 0) (pos 0)

abbrev pub one_interval : Interval
one_interval = interval (pos grid) (pos grid)

-- the least sum, and the greatest
abbrev pub sum_of : Interval → Interval → Interval
sum_of a b = interval (a.lo +ℤ b.lo) (a.hi +ℤ b.hi)

-- the least difference, and the greatest
abbrev pub difference_of : Interval → Interval → Interval
difference_of a b = interval (a.lo -ℤ b.hi) (a.hi -ℤ b.lo)

-- the negatives, whose ends change places
abbrev pub negative_of : Interval → Interval
negative_of a = interval (neg_ℤ a.hi) (neg_ℤ a.lo)
