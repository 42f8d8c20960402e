-- Laws of intervals, and of the sines and the cosines of fractions.
use Rattle.std.specs.Prelude.{true, List, [], ◌∷◌, ◌++◌, ◌≡◌, ◌↔◌, Ok}
use Rattle.rb_frac.specs.Frac.{Frac, Same, Le}
use Rattle.rb_frac.specs.Laws.{one}
use Rattle.rb_num.specs.Interval.{Interval, IsInterval, zero_interval}
use Rattle.rb_num.specs.Dot.{iv_dot}
use Rattle.rb_num.specs.Refusing.{iv_add, iv_sub}
use Rattle.rb_num.specs.Hull.{Meet, do_meet}
use Rattle.rb_num.specs.Fraction.{LiesIn}
use Rattle.rb_num.specs.Sine.{minus_one, cut, GoesWith}

-- that to lie in an interval is a property of the number
abbrev pub LiesInKeepsSame : Type 0
LiesInKeepsSame = (x y : Frac) (v : Interval) → Same x y → LiesIn x v → LiesIn y v

-- a pair with zero may be left out of a sum of products, which is refused for the others alone; the sum of none is zero
pub record DotLeavesOutZero : Type 0 where
  pub none : iv_dot [] ≡ Ok zero_interval
  pub first : (v : Interval) (ps qs : List (Interval × Interval)) → iv_dot (ps ++ (zero_interval, v) ∷ qs) ≡ iv_dot (ps ++ qs)
  pub second : (v : Interval) (ps qs : List (Interval × Interval)) → iv_dot (ps ++ (v, zero_interval) ∷ qs) ≡ iv_dot (ps ++ qs)

-- zero, added or taken away, changes nothing and is not refused
pub record ZeroIsNeutral : Type 0 where
  pub add_right : (v : Interval) → IsInterval v.lo v.hi → iv_add v zero_interval ≡ Ok v
  pub add_left : (v : Interval) → IsInterval v.lo v.hi → iv_add zero_interval v ≡ Ok v
  pub sub : (v : Interval) → IsInterval v.lo v.hi → iv_sub v zero_interval ≡ Ok v

-- the test is true exactly where some fraction lies in both
abbrev pub DoMeetDecides : Type 0
DoMeetDecides = (a b : Interval) → (do_meet a b ≡ true) ↔ Meet a b

-- ---- sines and cosines
-- what the cut is: x itself from -1 to 1, and else the end that is nearer
pub record IsCut : Type 0 where
  pub inside : (x : Frac) → Le minus_one x → Le x one → Same (cut x) x
  pub above : (x : Frac) → Le one x → Same (cut x) one
  pub below : (x : Frac) → Le x minus_one → Same (cut x) minus_one

-- each angle has a pair
abbrev pub HasPair : Type 0
HasPair = (t : Frac) → (s : Frac) × (c : Frac) × GoesWith t s c
