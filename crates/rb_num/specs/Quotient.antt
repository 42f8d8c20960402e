-- The quotient of intervals: the least quotient of ends rounded down, and the greatest rounded up.
use Rattle.std.specs.Prelude.{suc, ℤ, pos, negsuc, neg_ℤ, ◌*ℤ◌, ◌≤ℤ◌}
use Rattle.std.specs.Int.{int_min, int_max}
use Rattle.rb_num.specs.declared.interval.NumFault.{NumFault}
use Rattle.rb_num.specs.declared.interval.NumFault.TheVariants.{Size, Zero}
use Rattle.rb_num.specs.Interval.{Interval, IsWithin, grid, interval}
use Rattle.rb_num.specs.Dot.{floor_of}

-- zero lies in v
pub record HasZero (v : Interval) : Type 0 where
  pub low : v.lo ≤ℤ pos 0
  pub high : pos 0 ≤ℤ v.hi

-- z / d rounded down to a whole number, and rounded up, where d is positive or negative
abbrev pub floor_quotient : ℤ → ℤ → ℤ
floor_quotient z (pos n) = floor_of z n
floor_quotient z (negsuc n) = floor_of (neg_ℤ z) (suc n)

abbrev pub ceil_quotient : ℤ → ℤ → ℤ
ceil_quotient z d = neg_ℤ (floor_quotient (neg_ℤ z) d)

-- the least of the four values of f, and the greatest
abbrev pub least_of : (ℤ → ℤ → ℤ) → ℤ → ℤ → ℤ → ℤ → ℤ
least_of f a b c d = int_min (int_min (f a c) (f a d)) (int_min (f b c) (f b d))

abbrev pub greatest_of : (ℤ → ℤ → ℤ) → ℤ → ℤ → ℤ → ℤ → ℤ
greatest_of f a b c d = int_max (int_max (f a c) (f a d)) (int_max (f b c) (f b d))

-- the least quotient of x or y by c or d rounded down, and the greatest rounded up
unfoldable pub quotients_of : ℤ → ℤ → ℤ → ℤ → Interval
quotients_of x y c d = interval (least_of floor_quotient x y c d) (greatest_of ceil_quotient x y c d)

-- the ends of a are scaled, so that the quotients count units. The least of four quotients rounded down is the least quotient rounded
-- down: `IsLeast (HasQuotients a b)` says it of the contract of `div`.
unfoldable pub quotient_of : Interval → Interval → Interval
quotient_of a b = quotients_of (a.lo *ℤ pos grid) (a.hi *ℤ pos grid) b.lo b.hi

-- zero does not lie in b, and the scaled ends of a are at most `limit` in size: what a quotient needs
pub record QuotientFits (a b : Interval) : Type 0 where
  pub nonzero : ¬ HasZero b
  pub low : IsWithin (a.lo *ℤ pos grid)
  pub high : IsWithin (a.hi *ℤ pos grid)

-- which fault a refused quotient has: `Zero` where zero lies in the divisor, and else `Size`
abbrev pub IsQuotientFault : Interval → NumFault → Type 0
IsQuotientFault b Zero = HasZero b
IsQuotientFault b Size = ¬ HasZero b
