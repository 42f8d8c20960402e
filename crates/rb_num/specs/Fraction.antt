-- Fractions that lie in intervals, and what each operation encloses: the results for all fractions that lie in its arguments.
use Rattle.std.specs.Prelude.{pos, ◌*ℤ◌, ◌≤ℤ◌, List, Option, IsSomeAnd}
use Rattle.rb_frac.specs.Frac.{Frac, fracs, add, sub, neg, quot}
use Rattle.rb_frac.specs.Pairs.{dot, PairsRelate}
use Rattle.rb_num.specs.Interval.{Interval, grid}

-- the fraction x = num / den lies between the ends: lo ≤ x · grid ≤ hi, multiplied out
pub record LiesIn (x : Frac) (v : Interval) : Type 0 where
  pub above : (v.lo *ℤ pos x.den) ≤ℤ (x.num *ℤ pos grid)
  pub below : (x.num *ℤ pos grid) ≤ℤ (v.hi *ℤ pos x.den)

-- the sum of each fraction in a and each in b lies in v
pub record EnclosesSum (a b v : Interval) : Type 0 where
  pub at : (x y : Frac) → LiesIn x a → LiesIn y b → LiesIn (add x y) v

pub record EnclosesDifference (a b v : Interval) : Type 0 where
  pub at : (x y : Frac) → LiesIn x a → LiesIn y b → LiesIn (sub x y) v

pub record EnclosesNegative (a v : Interval) : Type 0 where
  pub at : (x : Frac) → LiesIn x a → LiesIn (neg x) v

-- a quotient by zero is 0 here; zero does not lie in b where v is a quotient of intervals
pub record EnclosesQuotient (a b v : Interval) : Type 0 where
  pub at : (x y : Frac) → LiesIn x a → LiesIn y b → LiesIn (quot x y) v

-- the sum of the products lies in v, for all lists of pairs of fractions that lie in the pairs of intervals one by one
pub record EnclosesDot (ps : List (Interval × Interval)) (v : Interval) : Type 0 where
  pub at : (xs : List (Frac × Frac)) → PairsRelate LiesIn xs ps → LiesIn (dot fracs xs) v

-- each fraction that lies in a or in b lies in v
pub record EnclosesHull (a b v : Interval) : Type 0 where
  pub left : (x : Frac) → LiesIn x a → LiesIn x v
  pub right : (x : Frac) → LiesIn x b → LiesIn x v

-- each fraction that lies in a and in b lies in what the option holds
pub record EnclosesMeet (a b : Interval) (r : Option Interval) : Type 0 where
  pub at : (x : Frac) → LiesIn x a → LiesIn x b → IsSomeAnd r (LiesIn x)

-- each fraction that lies in v lies in a and in b
pub record IsWithinBoth (a b v : Interval) : Type 0 where
  pub left : (x : Frac) → LiesIn x v → LiesIn x a
  pub right : (x : Frac) → LiesIn x v → LiesIn x b
