-- Sums, differences and quotients of intervals with their refusals, as values that rules are made of (`iv_dot` stands in `Dot`).
use Rattle.std.specs.Prelude.{pos, ◌*ℤ◌, Bool, ◌&&◌, cond, Result, Ok, Err}
use Rattle.std.specs.Int.Signed.{le_z}
use Rattle.rb_num.specs.declared.interval.NumFault.{NumFault}
use Rattle.rb_num.specs.declared.interval.NumFault.TheVariants.{Size, Zero}
use Rattle.rb_num.specs.Interval.{Interval, grid, sum_of, difference_of}
use Rattle.rb_num.specs.Dot.{is_within}
use Rattle.rb_num.specs.Quotient.{quotient_of}

-- whether `EndsFit v`
abbrev pub ends_fit : Interval → Bool
ends_fit v = is_within v.lo && is_within v.hi

-- whether `HasZero v`
abbrev pub has_zero : Interval → Bool
has_zero v = le_z v.lo (pos 0) && le_z (pos 0) v.hi

-- whether the scaled ends of v are at most `limit` in size
abbrev pub quotient_fits : Interval → Bool
quotient_fits v = is_within (v.lo *ℤ pos grid) && is_within (v.hi *ℤ pos grid)

-- `sum_of`, refused with `Size` where an end is too large
unfoldable pub iv_add : Interval → Interval → Result Interval NumFault
iv_add a b = cond (ends_fit (sum_of a b)) (Ok (sum_of a b)) (Err Size)

-- `difference_of`, refused with `Size` where an end is too large
unfoldable pub iv_sub : Interval → Interval → Result Interval NumFault
iv_sub a b = cond (ends_fit (difference_of a b)) (Ok (difference_of a b)) (Err Size)

-- `quotient_of`, refused with `Zero` where zero lies in the divisor, and else with `Size` where a scaled end is too large
unfoldable pub iv_div : Interval → Interval → Result Interval NumFault
iv_div a b = cond (has_zero b) (Err Zero) (cond (quotient_fits a) (Ok (quotient_of a b)) (Err Size))
