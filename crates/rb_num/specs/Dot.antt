-- The sum of products of intervals: of each pair the least and the greatest product of ends, summed, and only the sums rounded.
use Rattle.std.specs.Prelude.{ℕ, ℤ, pos, ◌+ℤ◌, ◌*ℤ◌, neg_ℤ, List, [], ◌∷◌, Bool, true, ◌&&◌, cond, Result, Ok, Err}
use Rattle.std.specs.Int.Signed.{le_z}
use Rattle.std.specs.List.{All}
use Rattle.std.specs.Int.{int_min, int_max, int_div_euclid}
use Rattle.rb_num.specs.declared.interval.NumFault.{NumFault}
use Rattle.rb_num.specs.declared.interval.NumFault.TheVariants.{Size}
use Rattle.rb_num.specs.Interval.{Interval, IsWithin, grid, limit, interval}

-- z / n rounded down to a whole number, and rounded up
abbrev pub floor_of : ℤ → ℕ → ℤ
floor_of z n = int_div_euclid z (pos n)

abbrev pub ceil_of : ℤ → ℕ → ℤ
ceil_of z n = neg_ℤ (int_div_euclid (neg_ℤ z) (pos n))

-- the least and the greatest of the four products of an end of each; they count units of one part in grid²
unfoldable pub least_product : Interval × Interval → ℤ
least_product p =
    int_min (int_min (p.0.lo *ℤ p.1.lo) (p.0.lo *ℤ p.1.hi)) (int_min (p.0.hi *ℤ p.1.lo) (p.0.hi *ℤ p.1.hi))

unfoldable pub greatest_product : Interval × Interval → ℤ
greatest_product p =
    int_max (int_max (p.0.lo *ℤ p.1.lo) (p.0.lo *ℤ p.1.hi)) (int_max (p.0.hi *ℤ p.1.lo) (p.0.hi *ℤ p.1.hi))

-- each of the four products is at most `limit` in size
pub record ProductsFit (p : Interval × Interval) : Type 0 where
  pub lo_lo : IsWithin (p.0.lo *ℤ p.1.lo)
  pub lo_hi : IsWithin (p.0.lo *ℤ p.1.hi)
  pub hi_lo : IsWithin (p.0.hi *ℤ p.1.lo)
  pub hi_hi : IsWithin (p.0.hi *ℤ p.1.hi)

-- that holds of each pair: what a sum of products needs
pub record DotFits (ps : List (Interval × Interval)) : Type 0 where
  pub each : All ProductsFit ps

-- the sum of f x over a list
abbrev pub int_sum_by : {X : Type 0} → (X → ℤ) → List X → ℤ
int_sum_by f [] = pos 0
int_sum_by f (x ∷ xs) = f x +ℤ int_sum_by f xs

-- the sum of the least products, rounded down to units, and that of the greatest, rounded up
unfoldable pub dot_of : List (Interval × Interval) → Interval
dot_of ps =
    interval (floor_of (int_sum_by least_product ps) grid) (ceil_of (int_sum_by greatest_product ps) grid)

-- ---- the same, with the refusal, as a value that rules are made of
-- whether `IsWithin z`
abbrev pub is_within : ℤ → Bool
is_within z = le_z (neg_ℤ (pos limit)) z && le_z z (pos limit)

-- whether `ProductsFit p`
unfoldable pub products_fit : Interval × Interval → Bool
products_fit p =
    (is_within (p.0.lo *ℤ p.1.lo) && is_within (p.0.lo *ℤ p.1.hi)) && (is_within (p.0.hi *ℤ p.1.lo) && is_within (p.0.hi *ℤ p.1.hi))

-- whether `DotFits ps`
unfoldable pub all_fit : List (Interval × Interval) → Bool
all_fit [] = true
all_fit (p ∷ ps) = products_fit p && all_fit ps

-- `dot_of`, refused with `Size` where a product is too large
unfoldable pub iv_dot : List (Interval × Interval) → Result Interval NumFault
iv_dot ps = cond (all_fit ps) (Ok (dot_of ps)) (Err Size)
