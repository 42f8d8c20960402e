-- That a fraction lies in an interval is a fact about its number.
use Rattle.std.proofs.Common.{◌↔◌}
use Rattle.rb_frac.specs.Frac.{Frac}
use Rattle.rb_frac.proofs.Reduce.{same_refl}
use Rattle.rb_frac.proofs.FracLaws.{le_same}
use Rattle.rb_frac.proofs.Rational.{◌≤ℚ◌, cls, cls-le}
use Rattle.rb_num.specs.Interval.{Interval}
use Rattle.rb_num.specs.Fraction.{LiesIn}
use Rattle.rb_num.specs.Laws.{LiesInKeepsSame}
use Rattle.rb_num.specs.Least.{units}

-- the two orders of numbers
pub lies_in : (x : Frac) (v : Interval) → LiesIn x v ↔ ((cls (units v.lo) ≤ℚ cls x) × (cls x ≤ℚ cls (units v.hi)))
unfolding units
lies_in x v = (
  λ h. ((cls-le (units v.lo) x).0 h.above, (cls-le x (units v.hi)).0 h.below),
  λ k. record { above = (cls-le (units v.lo) x).1 k.0; below = (cls-le x (units v.hi)).1 k.1 },
)

pub lies_in_same : LiesInKeepsSame
unfolding units
lies_in_same x y v s h = record {
  above = le_same (units v.lo) (units v.lo) x y (same_refl (units v.lo)) s h.above;
  below = le_same x y (units v.hi) (units v.hi) s (same_refl (units v.hi)) h.below;
}
