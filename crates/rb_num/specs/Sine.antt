-- Sines and cosines by their series: a pair of fractions goes with an angle where it lies between two sums of terms next to each other.
use Rattle.std.specs.Prelude.{ℕ, zero, suc, ◌+◌, ◌*◌, pos, negsuc, ◌*ℤ◌, Bool, cond}
use Rattle.std.specs.Int.Signed.{le_z}
use Rattle.rb_frac.specs.Frac.{Frac, Le, mul, quot, whole, fracs}
use Rattle.rb_frac.specs.Laws.{one}
use Rattle.rb_frac.specs.Ops.{sum}
use Rattle.rb_num.specs.declared.terms.TheConstants.{TERMS}

abbrev pub minus_one : Frac
minus_one = whole (negsuc 0)

-- n!
unfoldable pub factorial : ℕ → ℕ
factorial zero = 1
factorial (suc n) = suc n * factorial n

-- t to the n
unfoldable pub power : Frac → ℕ → Frac
power t zero = one
power t (suc n) = mul (power t n) t

-- (-1)^k t^(2k+1) / (2k+1)!
unfoldable pub sine_term : Frac → ℕ → Frac
sine_term t k = quot (mul (power minus_one k) (power t (2 * k + 1))) (whole (pos (factorial (2 * k + 1))))

-- (-1)^k t^(2k) / (2k)!
unfoldable pub cosine_term : Frac → ℕ → Frac
cosine_term t k = quot (mul (power minus_one k) (power t (2 * k))) (whole (pos (factorial (2 * k))))

-- the terms for each k below n
unfoldable pub sine_sum : Frac → ℕ → Frac
sine_sum t n = sum fracs n (sine_term t)

unfoldable pub cosine_sum : Frac → ℕ → Frac
cosine_sum t n = sum fracs n (cosine_term t)

-- whether `Le x y`
abbrev pub is_le : Frac → Frac → Bool
is_le x y = le_z (x.num *ℤ pos y.den) (y.num *ℤ pos x.den)

unfoldable pub lesser : Frac → Frac → Frac
lesser x y = cond (is_le x y) x y

unfoldable pub greater : Frac → Frac → Frac
greater x y = cond (is_le x y) y x

-- x, but 1 where it is above 1, and -1 where it is below -1
unfoldable pub cut : Frac → Frac
cut x = greater minus_one (lesser x one)

-- z lies between x and y, ends included, in whichever order they come
pub record IsBetween (x y z : Frac) : Type 0 where
  pub above : Le (lesser x y) z
  pub below : Le z (greater x y)

-- how many terms the one sum has; the other has one more: the code's constant
abbrev pub terms : ℕ
terms = TERMS

-- s and c may be the sine and the cosine of t. They need not lie on one circle.
pub record GoesWith (t s c : Frac) : Type 0 where
  pub sine : IsBetween (cut (sine_sum t terms)) (cut (sine_sum t (terms + 1))) s
  pub cosine : IsBetween (cut (cosine_sum t terms)) (cut (cosine_sum t (terms + 1))) c
