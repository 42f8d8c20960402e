-- The factor that makes an axis one unit long: one divided by the root of the squared length, rounded outwards.
use Rattle.std.specs.Prelude.{ℕ, zero, suc, ◌+◌, ◌*◌, nat_le, unsigned_abs, ℤ, pos, ◌+ℤ◌, ◌*ℤ◌, ◌<ℤ◌, ◌≤ℤ◌, ◌&&◌, Bool, cond, List, codes, Result, Ok, Err}
use Rattle.rb_frac.specs.Frac.{Frac, Le, add, mul, whole}
use Rattle.rb_num.specs.Interval.{Interval, interval, grid, limit}
use Rattle.rb_num.specs.Fraction.{LiesIn}
use Rattle.rb_num.specs.Dot.{is_within, floor_of, ceil_of}
use Rattle.rb_num.specs.Refusing.{has_zero}
use Rattle.rb_trig.specs.declared.axis.AxisFault.{AxisFault}
use Rattle.rb_trig.specs.declared.axis.AxisFault.TheVariants.{Size, ZeroAxis}
use Rattle.rb_trig.specs.Ends.{squares, SquaresFit}

-- the root of n, rounded down: the greatest r whose square is at most n
unfoldable pub root : ℕ → ℕ
root zero = zero
root (suc n) = cond (nat_le ((root n + 1) * (root n + 1)) (suc n)) (root n + 1) (root n)

-- the root of a number that is not negative, rounded down and up
unfoldable pub floor_root : ℤ → ℕ
floor_root z = root (unsigned_abs z)

unfoldable pub ceil_root : ℤ → ℕ
ceil_root z = cond (nat_le (unsigned_abs z) (floor_root z * floor_root z)) (floor_root z) (floor_root z + 1)

-- the least and the greatest squared length, which count parts of one in grid²
unfoldable pub squared_length : Interval → Interval → Interval → Interval
squared_length x y z =
    interval ((squares x).lo +ℤ (squares y).lo +ℤ (squares z).lo) ((squares x).hi +ℤ (squares y).hi +ℤ (squares z).hi)

-- one divided by the roots of squared lengths
unfoldable pub factor : Interval → Interval
factor q = interval (floor_of (pos (grid * grid)) (ceil_root q.hi)) (ceil_of (pos (grid * grid)) (floor_root q.lo))

-- q holds squared lengths, none of them 0
pub record IsLength (q : Interval) : Type 0 where
  pub some : pos 0 <ℤ q.lo
  pub ordered : q.lo ≤ℤ q.hi
  pub high : q.hi ≤ℤ pos (3 * limit)

-- the squares of the ends of the three are at most `limit`
pub record AxisFits (x y z : Interval) : Type 0 where
  pub first : SquaresFit x
  pub second : SquaresFit y
  pub third : SquaresFit z

-- whether `SquaresFit v`
abbrev pub squares_fit : Interval → Bool
squares_fit v = is_within (v.lo *ℤ v.lo) && is_within (v.hi *ℤ v.hi)

-- the factor, refused where a square is too large, and else where a squared length may be 0
unfoldable pub unit_scale_of : Interval → Interval → Interval → Result Interval AxisFault
unit_scale_of x y z =
    cond (squares_fit x && squares_fit y && squares_fit z) (cond (has_zero (squared_length x y z)) (Err ZeroAxis) (Ok (factor (squared_length x y z)))) (Err Size)

-- the fault's name
abbrev pub fault_text : AxisFault → List ℕ
fault_text Size = codes "Size"
fault_text ZeroAxis = codes "ZeroAxis"

-- ---- what the factor is for
abbrev pub square_sum : Frac → Frac → Frac → Frac
square_sum a b c = add (add (mul a a) (mul b b)) (mul c c)

-- each axis that lies in x, y and z is at most one unit long once it is taken times k.lo, and at least one unit long once it is taken times k.hi
pub record MakesUnit (x y z k : Interval) : Type 0 where
  pub low : (a b c : Frac) → LiesIn a x → LiesIn b y → LiesIn c z → Le (mul (whole (k.lo *ℤ k.lo)) (square_sum a b c)) (whole (pos (grid * grid)))
  pub high : (a b c : Frac) → LiesIn a x → LiesIn b y → LiesIn c z → Le (whole (pos (grid * grid))) (mul (whole (k.hi *ℤ k.hi)) (square_sum a b c))
