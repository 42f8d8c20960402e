-- How large the intervals of the rule can be, so that all of them fit 128 bits.
use Rattle.std.proofs.Common.{◌≡◌, ℕ, zero, suc, ◌+◌, ◌-◌, ◌*◌, ◌^◌, ◌<◌, ◌≤◌, ℤ, pos, negsuc, ◌*ℤ◌, neg_ℤ, ◌≤ℤ◌, Bool, true, false, cond, refl, arith}
use Rattle.std.proofs.lemmas.Int.{ints, clamps}
use Rattle.std.specs.Int.{int_min, int_max}
use Rattle.rb_num.specs.Refusing.{has_zero}
use Rattle.std.proofs.lemmas.Nat.{mul-le}
use Rattle.std.proofs.Math.Nat.{mul-le-mul_left}
use Rattle.rb_num.specs.Interval.{Interval, IsInterval, IsWithin, interval, difference_of, limit}
use Rattle.rb_num.specs.Dot.{ProductsFit, least_product, greatest_product}
use Rattle.rb_num.proofs.Least.{floor_greatest, ceil_least}
use Rattle.rb_num.proofs.Quotients.{floor-le-ceil}
use Rattle.rb_num.proofs.Ring.{at, nat, ◌⊗◌, minus, le_by, le_from}
use Rattle.rb_trig.specs.declared.sine.Series.{Series}
use Rattle.rb_trig.specs.declared.sine.Series.TheVariants.{Sine, Cosine}
use Rattle.rb_trig.specs.Ends.{outward, products, squares, SquaresFit}
use Rattle.rb_trig.specs.Sine.{scale, angle_limit, divisor, step, nested, square_of, IsAngle, IsSquare}

-- z is at most n in size
pub record Sized (n : ℕ) (z : ℤ) : Type 0 where
  pub low : neg_ℤ (pos n) ≤ℤ z
  pub high : z ≤ℤ pos n

-- so are the ends of v, which are in order
pub record Within (n : ℕ) (v : Interval) : Type 0 where
  pub low : neg_ℤ (pos n) ≤ℤ v.lo
  pub ordered : v.lo ≤ℤ v.hi
  pub high : v.hi ≤ℤ pos n

lo_sized : (n : ℕ) (v : Interval) → Within n v → Sized n v.lo
lo_sized n v h = record { low = h.low; high = omega (arith, ints, h.ordered, h.high) }

hi_sized : (n : ℕ) (v : Interval) → Within n v → Sized n v.hi
hi_sized n v h = record { low = omega (arith, ints, h.low, h.ordered); high = h.high }

pub weaker : (m n : ℕ) (v : Interval) → m ≤ n → Within m v → Within n v
weaker m n v l h = record { low = omega (arith, ints, h.low); ordered = h.ordered; high = omega (arith, ints, h.high) }

pub is_interval : (v : Interval) → Within limit v → IsInterval v.lo v.hi
is_interval v h = record { ordered = h.ordered; low = h.low; high = h.high }

-- ---- products
product_sized : (x y : ℤ) (m n : ℕ) → Sized m x → Sized n y → Sized (m * n) (x *ℤ y)
product_sized (pos a) (pos b) m n h k =
    let l : a * b ≤ m * n = mul-le a b m n (omega (arith, ints, h.high)) (omega (arith, ints, k.high)) in
    record { low = omega (arith, ints); high = omega (arith, ints) }
product_sized (pos a) (negsuc b) m n h k =
    let l : a * suc b ≤ m * n = mul-le a (suc b) m n (omega (arith, ints, h.high)) (omega (arith, ints, k.low)) in
    record { low = omega (arith, ints); high = omega (arith, ints) }
product_sized (negsuc a) (pos b) m n h k =
    let l : suc a * b ≤ m * n = mul-le (suc a) b m n (omega (arith, ints, h.low)) (omega (arith, ints, k.high)) in
    record { low = omega (arith, ints); high = omega (arith, ints) }
product_sized (negsuc a) (negsuc b) m n h k =
    let l : suc a * suc b ≤ m * n = mul-le (suc a) (suc b) m n (omega (arith, ints, h.low)) (omega (arith, ints, k.low)) in
    record { low = omega (arith, ints); high = omega (arith, ints) }

pub products_within : (a b : Interval) (m n : ℕ) → Within m a → Within n b → Within (m * n) (products a b)
unfolding products least_product greatest_product
products_within a b m n h k =
    from (a.lo *ℤ b.lo) (a.lo *ℤ b.hi) (a.hi *ℤ b.lo) (a.hi *ℤ b.hi) (m * n)
    (product_sized a.lo b.lo m n (lo_sized m a h) (lo_sized n b k)) (product_sized a.lo b.hi m n (lo_sized m a h) (hi_sized n b k))
    (product_sized a.hi b.lo m n (hi_sized m a h) (lo_sized n b k)) (product_sized a.hi b.hi m n (hi_sized m a h) (hi_sized n b k))
  where
    from : (p q r s : ℤ) (n : ℕ) → Sized n p → Sized n q → Sized n r → Sized n s
        → Within n (interval (int_min (int_min p q) (int_min r s)) (int_max (int_max p q) (int_max r s)))
    from p q r s n a b c d = record { low = omega (arith, ints, clamps, a, b, c, d); ordered = omega (arith, ints, clamps); high = omega (arith, ints, clamps, a, b, c, d) }

is_within : (n : ℕ) (z : ℤ) → n ≤ limit → Sized n z → IsWithin z
is_within n z l h = record { above = omega (arith, ints, h.low); below = omega (arith, ints, h.high) }

pub products_fit : (a b : Interval) (m n : ℕ) → Within m a → Within n b → m * n ≤ limit → ProductsFit (a, b)
products_fit a b m n h k l = record {
  lo_lo = is_within (m * n) _ l (product_sized a.lo b.lo m n (lo_sized m a h) (lo_sized n b k));
  lo_hi = is_within (m * n) _ l (product_sized a.lo b.hi m n (lo_sized m a h) (hi_sized n b k));
  hi_lo = is_within (m * n) _ l (product_sized a.hi b.lo m n (hi_sized m a h) (lo_sized n b k));
  hi_hi = is_within (m * n) _ l (product_sized a.hi b.hi m n (hi_sized m a h) (hi_sized n b k));
}

-- the products that fit are in order, and within the limit
pub fitting_products : (a b : Interval) → ProductsFit (a, b) → Within limit (products a b)
unfolding products least_product greatest_product
fitting_products a b f = record {
  low = omega (arith, ints, clamps, f.lo_lo, f.lo_hi, f.hi_lo, f.hi_hi);
  ordered = omega (arith, ints, clamps);
  high = omega (arith, ints, clamps, f.lo_lo, f.lo_hi, f.hi_lo, f.hi_hi);
}

-- ---- quotients
pub outward_within : (v : Interval) (d n : ℕ) → 0 < d → Within (n * d) v → Within n (outward v (pos d))
unfolding outward
outward_within v d n p h = record {
  low = floor_greatest (neg_ℤ (pos n)) v.lo d p (le_by (minus (nat n) ⊗ nat d) (at v.lo) (omega (arith, le_from (minus (nat (n * d))) (at v.lo) h.low)));
  ordered = floor-le-ceil v.lo v.hi d p h.ordered;
  high = ceil_least (pos n) v.hi d p h.high;
}

-- ---- a step
difference_within : (t n : ℕ) (v : Interval) → Within (n * t) v → Within ((n + 1) * t) (difference_of (interval (pos t) (pos t)) v)
difference_within t n v h = record { low = omega (arith, ints, h.high); ordered = omega (arith, ints, h.ordered); high = omega (arith, ints, h.low) }

times_scales : (t b n d : ℕ) → 64 * b ≤ n * d → (64 * t) * (b * t) ≤ (n * t) * (t * d)
times_scales t b n d h = omega (arith, mul-le-mul_left (t * t) h)

pub step_within : (u h : Interval) (b n d : ℕ) → Within (64 * scale) u → Within (b * scale) h → 0 < d → 64 * b ≤ n * d → Within ((n + 1) * scale) (step u h (pos d))
unfolding step
step_within u h b n d i j p l =
    difference_within scale n _ (outward_within (products u h) (scale * d) (n * scale) (omega arith)
    (weaker _ _ (products u h) (times_scales scale b n d l) (products_within u h (64 * scale) (b * scale) i j)))

-- any step from products that fit
pub step_is_interval : (u h : Interval) (d : ℕ) → 0 < d → ProductsFit (u, h) → Within limit (step u h (pos d))
unfolding step
step_is_interval u h d p f =
    weaker _ limit (step u h (pos d)) (omega arith) (difference_within scale (2 ^ 64) _
    (outward_within (products u h) (scale * d) (2 ^ 64 * scale) (omega arith) (weaker limit _ (products u h) (omega arith) (fitting_products u h f))))

-- ---- nested products: with the quotients from k on, the value is at most spread k + 1 in size
pub spread : ℕ → ℕ
spread zero = 2432
spread (suc zero) = 2432
spread (suc (suc zero)) = 75
spread (suc (suc (suc zero))) = 13
spread (suc (suc (suc (suc zero)))) = 5
spread (suc (suc (suc (suc (suc k))))) = 3

spread_step : (s : Series) (k : ℕ) → 1 ≤ k → 64 * (spread (suc k) + 1) ≤ spread k * divisor s k
unfolding spread divisor
spread_step s zero h = absurd (omega arith)
spread_step Sine (suc zero) h = omega arith
spread_step Sine (suc (suc zero)) h = omega arith
spread_step Sine (suc (suc (suc zero))) h = omega arith
spread_step Sine (suc (suc (suc (suc zero)))) h = omega arith
spread_step Sine (suc (suc (suc (suc (suc k))))) h = let n = suc (suc (suc (suc (suc k)))) in omega (arith, mul-le 9 10 (2 * n) (2 * n + 1) (omega arith) (omega arith))
spread_step Cosine (suc zero) h = omega arith
spread_step Cosine (suc (suc zero)) h = omega arith
spread_step Cosine (suc (suc (suc zero))) h = omega arith
spread_step Cosine (suc (suc (suc (suc zero)))) h = omega arith
spread_step Cosine (suc (suc (suc (suc (suc k))))) h = let n = suc (suc (suc (suc (suc k)))) in far ((2 * n - 1) * (2 * n)) (mul-le 9 10 (2 * n - 1) (2 * n) (omega arith) (omega arith))
  where
    far : (a : ℕ) → 9 * 10 ≤ a → 64 * (3 + 1) ≤ 3 * a
    far a l = omega arith

pub some_divisor : (s : Series) (k : ℕ) → 1 ≤ k → 0 < divisor s k
unfolding divisor
some_divisor s zero h = absurd (omega arith)
some_divisor Sine (suc k) h = omega arith
some_divisor Cosine (suc k) h = mul-le 1 1 (2 * suc k - 1) (2 * suc k) (omega arith) (omega arith)

pub square_within : (u : Interval) → IsSquare u → Within (64 * scale) u
square_within u h = record { low = omega (arith, ints, h.low); ordered = h.ordered; high = h.high }

pub nested_within : (s : Series) (u : Interval) (m k : ℕ) → IsSquare u → 1 ≤ k → Within ((spread k + 1) * scale) (nested s u k m)
unfolding nested
nested_within s u zero k h p = record { low = omega (arith, ints); ordered = omega (arith, ints); high = omega (arith, ints) }
nested_within s u (suc m) k h p =
    step_within u (nested s u (suc k) m) (spread (suc k) + 1) (spread k) (divisor s k) (square_within u h) (nested_within s u m (suc k) h (omega arith)) (some_divisor s k p) (spread_step s k p)

spread_small : (k : ℕ) → 2 ≤ k → spread k ≤ 75
unfolding spread
spread_small zero h = absurd (omega arith)
spread_small (suc zero) h = absurd (omega arith)
spread_small (suc (suc zero)) h = omega arith
spread_small (suc (suc (suc zero))) h = omega arith
spread_small (suc (suc (suc (suc zero)))) h = omega arith
spread_small (suc (suc (suc (suc (suc k))))) h = omega arith

spread_first : spread 1 ≡ 2432
unfolding spread
spread_first = refl

-- what is multiplied on the way fits
pub step_fits : (s : Series) (u : Interval) (m k : ℕ) → IsSquare u → 2 ≤ k → ProductsFit (u, nested s u k m)
step_fits s u m k h p =
    products_fit u (nested s u k m) (64 * scale) (76 * scale) (square_within u h)
    (weaker ((spread k + 1) * scale) (76 * scale) _ (omega (arith, spread_small k p)) (nested_within s u m k h (omega arith))) (omega arith)

pub angle_within : (t : Interval) → t.lo ≤ℤ t.hi → IsAngle t → Within angle_limit t
angle_within t o h = record { low = h.low; ordered = o; high = h.high }

pub sine_fits : (s : Series) (t u : Interval) (m : ℕ) → t.lo ≤ℤ t.hi → IsAngle t → IsSquare u → ProductsFit (t, nested s u 1 m)
sine_fits s t u m o i h =
    products_fit t (nested s u 1 m) angle_limit (2433 * scale) (angle_within t o i)
    (weaker ((spread 1 + 1) * scale) (2433 * scale) _ (omega (arith, spread_first)) (nested_within s u m 1 h (omega arith))) (omega arith)

-- ---- the square of an angle
pub square_nonneg : (z : ℤ) → pos 0 ≤ℤ (z *ℤ z)
square_nonneg (pos a) = omega (arith, ints)
square_nonneg (negsuc a) = omega (arith, ints)

pub squares_fit : (t : Interval) → t.lo ≤ℤ t.hi → IsAngle t → SquaresFit t
squares_fit t o h =
    let w = angle_within t o h in
    record {
      low = is_within (angle_limit * angle_limit) _ (omega arith) (product_sized t.lo t.lo angle_limit angle_limit (lo_sized _ t w) (lo_sized _ t w));
      high = is_within (angle_limit * angle_limit) _ (omega arith) (product_sized t.hi t.hi angle_limit angle_limit (hi_sized _ t w) (hi_sized _ t w));
    }

angle_square : (t : Interval) → t.lo ≤ℤ t.hi → IsAngle t → (squares t).hi ≤ℤ pos (angle_limit * angle_limit)
unfolding squares
angle_square t o h =
    let w = angle_within t o h in
    let l = product_sized t.lo t.lo angle_limit angle_limit (lo_sized _ t w) (lo_sized _ t w) in
    let g = product_sized t.hi t.hi angle_limit angle_limit (hi_sized _ t w) (hi_sized _ t w) in
    omega (arith, ints, clamps, l.high, g.high)

pub least_square_nonneg : (v : Interval) → pos 0 ≤ℤ (squares v).lo
unfolding squares
least_square_nonneg v = go (has_zero v)
  where
    go : (b : Bool) → pos 0 ≤ℤ cond b (pos 0) (int_min (v.lo *ℤ v.lo) (v.hi *ℤ v.hi))
    go true = omega (arith, ints)
    go false = let l = square_nonneg v.lo in let h = square_nonneg v.hi in omega (arith, ints, clamps, l, h)

pub squares_ordered : (v : Interval) → (squares v).lo ≤ℤ (squares v).hi
unfolding squares
squares_ordered v = go (has_zero v)
  where
    go : (b : Bool) → cond b (pos 0) (int_min (v.lo *ℤ v.lo) (v.hi *ℤ v.hi)) ≤ℤ int_max (v.lo *ℤ v.lo) (v.hi *ℤ v.hi)
    go true = let l = square_nonneg v.lo in omega (arith, ints, clamps, l)
    go false = omega (arith, ints, clamps)

pub is_square : (t : Interval) → t.lo ≤ℤ t.hi → IsAngle t → IsSquare (square_of t)
unfolding square_of outward
is_square t o h = record {
  low = floor_greatest (pos 0) (squares t).lo 100000000 (omega arith) (least_square_nonneg t);
  ordered = floor-le-ceil (squares t).lo (squares t).hi 100000000 (omega arith) (squares_ordered t);
  high = ceil_least (pos (64 * scale)) (squares t).hi 100000000 (omega arith) (angle_square t o h);
}
