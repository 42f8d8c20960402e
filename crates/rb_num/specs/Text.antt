-- How an interval is printed, and a fault.
use Rattle.std.specs.Prelude.{ℕ, ◌-◌, ◌/◌, ◌%◌, List, [], ◌++◌, length, replicate, codes, decimal, ℤ, pos, negsuc, unsigned_abs}
use Rattle.rb_num.specs.Interval.{Interval, grid}
use Rattle.rb_num.specs.declared.interval.NumFault.{NumFault}
use Rattle.rb_num.specs.declared.interval.NumFault.TheVariants.{Size, Zero}

-- twelve digits
unfoldable pub part_text : ℕ → List ℕ
part_text n = replicate (12 - length (decimal n)) 48 ++ decimal n

abbrev pub minus_text : ℤ → List ℕ
minus_text (pos n) = []
minus_text (negsuc n) = codes "-"

-- a minus where it is negative, the whole part, a point and twelve digits
unfoldable pub end_text : ℤ → List ℕ
end_text z = minus_text z ++ (decimal (unsigned_abs z / grid) ++ (codes "." ++ part_text (unsigned_abs z % grid)))

-- the lower end, two points and the upper end
unfoldable pub iv_text : Interval → List ℕ
iv_text v = end_text v.lo ++ (codes ".." ++ end_text v.hi)

-- the fault's name
abbrev pub fault_text : NumFault → List ℕ
fault_text Size = codes "Size"
fault_text Zero = codes "Zero"
