-- The sine and the cosine of an interval of angles: nested products of intervals for the two sums of terms, and the hull of both.
use Rattle.std.specs.Prelude.{ℕ, zero, suc, ◌+◌, ◌-◌, ◌*◌, ◌/◌, unsigned_abs, ℤ, pos, neg_ℤ, ◌≤ℤ◌, ◌*ℤ◌, ◌&&◌, Bool, cond, Result, Ok, Err}
use Rattle.std.specs.Int.Signed.{le_z}
use Rattle.rb_frac.specs.Frac.{Frac}
use Rattle.rb_num.specs.Interval.{Interval, interval, difference_of, grid}
use Rattle.rb_num.specs.Hull.{hull_of}
use Rattle.rb_num.specs.Fraction.{LiesIn}
use Rattle.rb_num.specs.Sine.{terms, GoesWith}
use Rattle.rb_trig.specs.declared.sine.AngleRange.{AngleRange}
use Rattle.rb_trig.specs.declared.sine.TheConstants.{ANGLE_LIMIT, T}
use Rattle.rb_trig.specs.declared.sine.Series.{Series}
use Rattle.rb_trig.specs.declared.sine.Series.TheVariants.{Sine, Cosine}
use Rattle.rb_trig.specs.Ends.{outward, products, squares, clamped}

-- the largest size of an angle, in units: the code's constant
abbrev pub angle_limit : ℕ
angle_limit = unsigned_abs ANGLE_LIMIT

-- the nested products count parts of one in this number: the code's constant
abbrev pub scale : ℕ
scale = unsigned_abs T

-- the ends of t are at most `angle_limit` in size
pub record IsAngle (t : Interval) : Type 0 where
  pub low : neg_ℤ (pos angle_limit) ≤ℤ t.lo
  pub high : t.hi ≤ℤ pos angle_limit

-- the squares of the angles, in parts of `scale`
unfoldable pub square_of : Interval → Interval
square_of t = outward (squares t) (pos (grid * grid / scale))

-- the largest square of an angle, in parts of `scale`
abbrev pub square_limit : ℕ
square_limit = angle_limit * angle_limit * scale / (grid * grid)

-- u may hold squares of angles, in parts of `scale`
pub record IsSquare (u : Interval) : Type 0 where
  pub low : pos 0 ≤ℤ u.lo
  pub ordered : u.lo ≤ℤ u.hi
  pub high : u.hi ≤ℤ pos square_limit

-- the quotient of the factorials in the terms k and k - 1
unfoldable pub divisor : Series → ℕ → ℕ
divisor Sine k = 2 * k * (2 * k + 1)
divisor Cosine k = (2 * k - 1) * (2 * k)

-- 1 - u h / d
unfoldable pub step : Interval → Interval → ℤ → Interval
step u h d = difference_of (interval (pos scale) (pos scale)) (outward (products u h) (pos scale *ℤ d))

-- 1 - u / d_k (1 - u / d_(k+1) (..)), with m quotients
unfoldable pub nested : Series → Interval → ℕ → ℕ → Interval
nested s u k zero = interval (pos scale) (pos scale)
nested s u k (suc m) = step u (nested s u (suc k) m) (pos (divisor s k))

-- the sum of n terms for the angles t, whose squares are u, in units
unfoldable pub sines : Interval → Interval → ℕ → Interval
sines t u n = outward (products t (nested Sine u 1 (n - 1))) (pos scale)

unfoldable pub cosines : Interval → ℕ → Interval
cosines u n = outward (nested Cosine u 1 (n - 1)) (pos (scale / grid))

unfoldable pub sine_of : Interval → Interval
sine_of t = clamped (hull_of (sines t (square_of t) terms) (sines t (square_of t) (terms + 1)))

unfoldable pub cosine_of : Interval → Interval
cosine_of t = clamped (hull_of (cosines (square_of t) terms) (cosines (square_of t) (terms + 1)))

-- whether `IsAngle t`
abbrev pub is_angle : Interval → Bool
is_angle t = le_z (neg_ℤ (pos angle_limit)) t.lo && le_z t.hi (pos angle_limit)

-- both, refused where an end of t is too large
unfoldable pub sin_cos_of : Interval → Result (Interval × Interval) AngleRange
sin_cos_of t = cond (is_angle t) (Ok (sine_of t, cosine_of t)) (Err (record {}))

-- each sine and cosine that goes with an angle in t lies in the first and in the second interval of r
pub record Encloses (t : Interval) (r : Interval × Interval) : Type 0 where
  pub at : (x s c : Frac) → LiesIn x t → GoesWith x s c → LiesIn s r.0 × LiesIn c r.1
