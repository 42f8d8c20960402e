-- A quotient of intervals is within the limit, is what the code computes, and encloses the quotients of fractions.
use Rattle.std.proofs.Common.{◌≡◌, ℕ, ℤ, pos, negsuc, suc, neg_ℤ, ◌*◌, ◌<◌, ◌≤◌, ◌+ℤ◌, ◌-ℤ◌, ◌*ℤ◌, ◌≤ℤ◌, ◌<ℤ◌, ap, arith, subst, sym, refl, zero, ◌∙◌, to_z, of_z}
use Rattle.std.proofs.lemmas.Int.{ints, clamps}
use lib.Signed.{≤ℤ_refl}
use Rattle.std.proofs.Math.Nat.{mul-le-mul_left}
use Rattle.std.specs.Int.{int_min, int_max}
use Rattle.rb_frac.specs.Positive.{times_pos as times_positive}
use Rattle.rb_num.specs.Interval.{Interval, IsInterval, grid, limit, interval, IsWithin, negative_of}
use Rattle.rb_num.specs.Dot.{floor_of, ceil_of}
use Rattle.rb_num.specs.Quotient.{HasZero, floor_quotient, ceil_quotient, least_of, greatest_of, quotient_of, quotients_of, QuotientFits}
use mir.Syntax.{w128}
use Rattle.rb_num.proofs.Ends.{Made, made, read}
use Rattle.rb_num.proofs.Ring.{at, nat, ◌⊗◌, minus, le_by, le_from, same_by}
use Rattle.rb_num.proofs.Order.{times_pos}
use Rattle.rb_num.proofs.Quotients.{grid_positive, cancel_pos, floor-low, floor-high, floor-le-ceil, ceil-high}

-- Q is below each quotient of x by an end of the divisor, so below n e / (d m), where x d is at most n G
quotient_above : (Q x y1 y2 n : ℤ) (d e m G : ℕ) → 0 < G → (Q *ℤ y1) ≤ℤ (x *ℤ pos G) → (Q *ℤ y2) ≤ℤ (x *ℤ pos G)
    → (x *ℤ pos d) ≤ℤ (n *ℤ pos G) → (y1 *ℤ pos e) ≤ℤ (pos m *ℤ pos G) → (pos m *ℤ pos G) ≤ℤ (y2 *ℤ pos e)
    → (Q *ℤ pos (d * m)) ≤ℤ ((n *ℤ pos e) *ℤ pos G)
quotient_above (pos q) x y1 y2 n d e m G p h1 h2 hx k1 k2 =
    cancel_pos (pos q *ℤ pos (d * m)) ((n *ℤ pos e) *ℤ pos G) G p
    (le_by ((at (pos q) ⊗ nat (d * m)) ⊗ nat G) (((at n ⊗ nat e) ⊗ nat G) ⊗ nat G)
    (omega (
      arith,
      mul-le-mul_left (q * d) (le_from (nat m ⊗ nat G) (at y2 ⊗ nat e) k2),
      mul-le-mul_left (d * e) (le_from (at (pos q) ⊗ at y2) (at x ⊗ nat G) h2),
      mul-le-mul_left (e * G) (le_from (at x ⊗ nat d) (at n ⊗ nat G) hx),
    )))
quotient_above (negsuc q) x y1 y2 n d e m G p h1 h2 hx k1 k2 =
    cancel_pos (negsuc q *ℤ pos (d * m)) ((n *ℤ pos e) *ℤ pos G) G p
    (le_by ((at (negsuc q) ⊗ nat (d * m)) ⊗ nat G) (((at n ⊗ nat e) ⊗ nat G) ⊗ nat G)
    (omega (
      arith,
      mul-le-mul_left (suc q * d) (le_from (at y1 ⊗ nat e) (nat m ⊗ nat G) k1),
      mul-le-mul_left (d * e) (le_from (at (negsuc q) ⊗ at y1) (at x ⊗ nat G) h1),
      mul-le-mul_left (e * G) (le_from (at x ⊗ nat d) (at n ⊗ nat G) hx),
    )))

quotient_below : (Q x y1 y2 n : ℤ) (d e m G : ℕ) → 0 < G → (x *ℤ pos G) ≤ℤ (Q *ℤ y1) → (x *ℤ pos G) ≤ℤ (Q *ℤ y2)
    → (n *ℤ pos G) ≤ℤ (x *ℤ pos d) → (y1 *ℤ pos e) ≤ℤ (pos m *ℤ pos G) → (pos m *ℤ pos G) ≤ℤ (y2 *ℤ pos e)
    → ((n *ℤ pos e) *ℤ pos G) ≤ℤ (Q *ℤ pos (d * m))
quotient_below (pos q) x y1 y2 n d e m G p h1 h2 hx k1 k2 =
    cancel_pos ((n *ℤ pos e) *ℤ pos G) (pos q *ℤ pos (d * m)) G p
    (le_by (((at n ⊗ nat e) ⊗ nat G) ⊗ nat G) ((at (pos q) ⊗ nat (d * m)) ⊗ nat G)
    (omega (
      arith,
      mul-le-mul_left (q * d) (le_from (at y1 ⊗ nat e) (nat m ⊗ nat G) k1),
      mul-le-mul_left (d * e) (le_from (at x ⊗ nat G) (at (pos q) ⊗ at y1) h1),
      mul-le-mul_left (e * G) (le_from (at n ⊗ nat G) (at x ⊗ nat d) hx),
    )))
quotient_below (negsuc q) x y1 y2 n d e m G p h1 h2 hx k1 k2 =
    cancel_pos ((n *ℤ pos e) *ℤ pos G) (negsuc q *ℤ pos (d * m)) G p
    (le_by (((at n ⊗ nat e) ⊗ nat G) ⊗ nat G) ((at (negsuc q) ⊗ nat (d * m)) ⊗ nat G)
    (omega (
      arith,
      mul-le-mul_left (suc q * d) (le_from (nat m ⊗ nat G) (at y2 ⊗ nat e) k2),
      mul-le-mul_left (d * e) (le_from (at x ⊗ nat G) (at (negsuc q) ⊗ at y2) h2),
      mul-le-mul_left (e * G) (le_from (at n ⊗ nat G) (at x ⊗ nat d) hx),
    )))

-- the quotients of one number z that fits, by a divisor that is not 0
pub record QuotientIsWithin (z q r : ℤ) : Type 0 where
  pub low : neg_ℤ (pos limit) ≤ℤ q
  pub ordered : q ≤ℤ r
  pub high : r ≤ℤ pos limit

floor_low_bound : (F z : ℤ) (n : ℕ) → 0 < n → neg_ℤ (pos limit) ≤ℤ z → z ≤ℤ pos limit → z <ℤ (F *ℤ pos n +ℤ pos n) → neg_ℤ (pos limit) ≤ℤ F
floor_low_bound (pos f) z n p a b h = omega (arith, ints)
floor_low_bound (negsuc f) z n p a b h = omega (arith, ints, mul-le-mul_left f p)

floor_at_least : (z : ℤ) (n : ℕ) → 0 < n → neg_ℤ (pos limit) ≤ℤ z → z ≤ℤ pos limit → neg_ℤ (pos limit) ≤ℤ floor_of z n
floor_at_least z n p a b = floor_low_bound (floor_of z n) z n p a b (floor-high z n p)

quotient_at_least : (z d : ℤ) → IsWithin z → (d ≡ pos 0 → ⊥) → neg_ℤ (pos limit) ≤ℤ floor_quotient z d
quotient_at_least z (pos zero) h n = absurd (n refl)
quotient_at_least z (pos (suc k)) h n = floor_at_least z (suc k) (omega arith) h.above h.below
quotient_at_least z (negsuc k) h n = floor_at_least (neg_ℤ z) (suc k) (omega arith) (omega (arith, ints, h.below)) (omega (arith, ints, h.above))

within_negative : {z : ℤ} → IsWithin z → IsWithin (neg_ℤ z)
within_negative h = record { above = omega (arith, ints, h.below); below = omega (arith, ints, h.above) }

quotients_ordered : (z d : ℤ) → (d ≡ pos 0 → ⊥) → floor_quotient z d ≤ℤ ceil_quotient z d
quotients_ordered z (pos zero) n = absurd (n refl)
quotients_ordered z (pos (suc k)) n = floor-le-ceil z z (suc k) (omega arith) (≤ℤ_refl z)
quotients_ordered z (negsuc k) n = floor-le-ceil (neg_ℤ z) (neg_ℤ z) (suc k) (omega arith) (≤ℤ_refl (neg_ℤ z))

at_most : (c : ℤ) → neg_ℤ (pos limit) ≤ℤ c → neg_ℤ c ≤ℤ pos limit
at_most c h = omega (arith, ints)

pub quotient_within : (z d : ℤ) → IsWithin z → (d ≡ pos 0 → ⊥) → QuotientIsWithin z (floor_quotient z d) (ceil_quotient z d)
quotient_within z d h n = record {
  low = quotient_at_least z d h n;
  ordered = quotients_ordered z d n;
  high = at_most (floor_quotient (neg_ℤ z) d) (quotient_at_least (neg_ℤ z) d (within_negative h) n);
}

-- neither end of a divisor is 0
pub record EndsAreNonzero (b : Interval) : Type 0 where
  pub low : b.lo ≡ pos 0 → ⊥
  pub high : b.hi ≡ pos 0 → ⊥

pub ends_nonzero : (b : Interval) → b.lo ≤ℤ b.hi → ¬ HasZero b → EndsAreNonzero b
ends_nonzero b h n = record {
  low = λ e. n (record { low = omega (arith, ints, e); high = omega (arith, ints, e) });
  high = λ e. n (record { low = omega (arith, ints, e); high = omega (arith, ints, e) });
}

pub fits_back : (z : ℤ) → IsWithin z → to_z w128 (of_z w128 z) ≡ z
fits_back z h = read z (omega (arith, ints, h.above, h.below)) refl

-- 0 less a number that was read from its bits, read from its bits
pub negative_read : (r v : ℤ) → IsWithin r → r ≡ v → to_z w128 (of_z w128 (pos 0 -ℤ to_z w128 (of_z w128 r))) ≡ neg_ℤ v
negative_read r v h e =
    let b = fits_back r h in
    let h1 = h.above in let h2 = h.below in
    read (pos 0 -ℤ to_z w128 (of_z w128 r)) (omega (arith, ints)) (omega (arith, ints))

least_and_greatest : (l1 l2 l3 l4 g1 g2 g3 g4 z : ℤ) → QuotientIsWithin z l1 g1 → QuotientIsWithin z l2 g2 → {w : ℤ} → QuotientIsWithin w l3 g3 → QuotientIsWithin w l4 g4
    → IsInterval (int_min (int_min l1 l2) (int_min l3 l4)) (int_max (int_max g1 g2) (int_max g3 g4))
least_and_greatest l1 l2 l3 l4 g1 g2 g3 g4 z a b c d = record {
  ordered = omega (arith, ints, clamps, a);
  low = omega (arith, ints, clamps, a, b, c, d);
  high = omega (arith, ints, clamps, a, b, c, d);
}

pub floor_within : (z d : ℤ) → IsWithin z → (d ≡ pos 0 → ⊥) → IsWithin (floor_quotient z d)
floor_within z d h n = let w = quotient_within z d h n in record { above = w.low; below = omega (arith, ints, w.ordered, w.high) }

pub quotients_made : (x y c d r q : ℤ) → IsWithin x → IsWithin y → (c ≡ pos 0 → ⊥) → (d ≡ pos 0 → ⊥)
    → r ≡ least_of floor_quotient x y c d → q ≡ greatest_of ceil_quotient x y c d
    → Made (quotients_of x y c d) (to_z w128 (of_z w128 r)) (to_z w128 (of_z w128 q))
unfolding quotients_of
quotients_made x y c d r q hx hy nc nd er eq =
    made (quotients_of x y c d) r q
    (least_and_greatest _ _ _ _ _ _ _ _ _ (quotient_within x c hx nc) (quotient_within x d hx nd) (quotient_within y c hy nc) (quotient_within y d hy nd))
    er eq

-- an end below a floor, multiplied out
below_floor : (Q z : ℤ) (y : ℕ) → 0 < y → Q ≤ℤ floor_of z y → (Q *ℤ pos y) ≤ℤ z
below_floor Q z y p h = let a = times_pos Q (floor_of z y) y h in let b = floor-low z y p in omega (arith, ints)

above_ceil : (Q z : ℤ) (y : ℕ) → 0 < y → ceil_of z y ≤ℤ Q → z ≤ℤ (Q *ℤ pos y)
above_ceil Q z y p h = let a = times_pos (ceil_of z y) Q y h in let b = ceil-high z y p in omega (arith, ints)

-- n / d lies between the ends of v
pub record Lies (n : ℤ) (d : ℕ) (v : Interval) : Type 0 where
  pub above : (v.lo *ℤ pos d) ≤ℤ (n *ℤ pos grid)
  pub below : (n *ℤ pos grid) ≤ℤ (v.hi *ℤ pos d)

-- the quotient by a positive interval
positive_quotient : (a : Interval) (n : ℤ) (d : ℕ) (L H zl zh : ℤ) (y1 y2 e m : ℕ) → zl ≡ a.lo *ℤ pos grid → zh ≡ a.hi *ℤ pos grid → Lies n d a → 0 < e → 0 < y1 → 0 < y2
    → (y1 * e ≤ m * grid) → (m * grid ≤ y2 * e)
    → L ≤ℤ floor_of zl y1 → L ≤ℤ floor_of zl y2 → ceil_of zh y1 ≤ℤ H → ceil_of zh y2 ≤ℤ H
    → Lies (n *ℤ pos e) (d * m) (interval L H)
positive_quotient a n d L H zl zh y1 y2 e m el eh f pe p1 p2 k1 k2 l1 l2 h1 h2 = record {
  above = quotient_above L a.lo (pos y1) (pos y2) n d e m grid grid_positive
      (subst (λ (t : ℤ). (L *ℤ pos y1) ≤ℤ t) el (below_floor L zl y1 p1 l1)) (subst (λ (t : ℤ). (L *ℤ pos y2) ≤ℤ t) el (below_floor L zl y2 p2 l2)) f.above (omega (arith, ints)) (omega (arith, ints));
  below = quotient_below H a.hi (pos y1) (pos y2) n d e m grid grid_positive
      (subst (λ (t : ℤ). t ≤ℤ (H *ℤ pos y1)) eh (above_ceil H zh y1 p1 h1)) (subst (λ (t : ℤ). t ≤ℤ (H *ℤ pos y2)) eh (above_ceil H zh y2 p2 h2)) f.below (omega (arith, ints)) (omega (arith, ints));
}

negative_lies : (n : ℤ) (d : ℕ) (a : Interval) → Lies n d a → Lies (neg_ℤ n) d (negative_of a)
negative_lies n d a f = record {
  above = le_by (minus (at a.hi) ⊗ nat d) (minus (at n) ⊗ nat grid) (omega (arith, le_from (at n ⊗ nat grid) (at a.hi ⊗ nat d) f.below));
  below = le_by (minus (at n) ⊗ nat grid) (minus (at a.lo) ⊗ nat d) (omega (arith, le_from (at a.lo ⊗ nat d) (at n ⊗ nat grid) f.above));
}

negative_times : (a : ℤ) (n : ℕ) → neg_ℤ a *ℤ pos n ≡ neg_ℤ (a *ℤ pos n)
negative_times a n = same_by (minus (at a) ⊗ nat n) (minus (at a ⊗ nat n)) (omega arith)

first_positive : (y1 y2 : ℕ) → ¬ HasZero (interval (pos y1) (pos y2)) → 0 < y1
first_positive zero y2 n = absurd (n (record { low = omega (arith, ints); high = omega (arith, ints) }))
first_positive (suc y1) y2 n = omega arith

second_positive : (y1 y2 e k : ℕ) → 0 < y1 → 0 < e → y1 * e ≤ k → k ≤ y2 * e → 0 < y2
second_positive y1 zero e k p q a b = absurd (omega (arith, times_positive y1 e p q))
second_positive y1 (suc y2) e k p q a b = omega arith

-- n / d by m / e, where m is positive, and where it is negative
pub by_positive : (a : Interval) (lo hi n : ℤ) (m d e : ℕ) → 0 < e → ¬ HasZero (interval lo hi) → Lies n d a → Lies (pos m) e (interval lo hi)
    → Lies (n *ℤ pos e) (d * m) (quotient_of a (interval lo hi))
unfolding quotient_of quotients_of
by_positive a (pos y1) (pos y2) n m d e s z f g =
    let k1 : y1 * e ≤ m * grid = omega (arith, ints, g.above) in
    let k2 : m * grid ≤ y2 * e = omega (arith, ints, g.below) in
    let p1 = first_positive y1 y2 z in
    let v : Interval = quotient_of a (interval (pos y1) (pos y2)) in
    positive_quotient a n d v.lo v.hi (a.lo *ℤ pos grid) (a.hi *ℤ pos grid) y1 y2 e m refl refl f s p1 (second_positive y1 y2 e (m * grid) p1 s k1 k2) k1 k2
    (omega (arith, ints, clamps)) (omega (arith, ints, clamps)) (omega (arith, ints, clamps)) (omega (arith, ints, clamps))
by_positive a (negsuc y1) (negsuc y2) n m d e s z f g = absurd (omega (arith, ints, g.below, s))
by_positive a (pos y1) (negsuc y2) n m d e s z f g = absurd (omega (arith, ints, g.below, s))
by_positive a (negsuc y1) (pos y2) n m d e s z f g = absurd (z (record { low = omega (arith, ints); high = omega (arith, ints) }))

pub by_negative : (a : Interval) (lo hi n : ℤ) (m d e : ℕ) → 0 < e → ¬ HasZero (interval lo hi) → Lies n d a → Lies (negsuc m) e (interval lo hi)
    → Lies (n *ℤ neg_ℤ (pos e)) (d * suc m) (quotient_of a (interval lo hi))
unfolding quotient_of quotients_of
by_negative a (pos y1) (pos y2) n m d e s z f g = absurd (omega (arith, ints, g.above))
by_negative a (negsuc y1) (negsuc y2) n m d e s z f g =
    let k1 : suc y2 * e ≤ suc m * grid = omega (arith, ints, g.below) in
    let k2 : suc m * grid ≤ suc y1 * e = omega (arith, ints, g.above) in
    let v : Interval = quotient_of a (interval (negsuc y1) (negsuc y2)) in
    subst (λ (t : ℤ). Lies t (d * suc m) v) (same_by (minus (at n) ⊗ nat e) (at n ⊗ minus (nat e)) (omega arith))
    (positive_quotient (negative_of a) (neg_ℤ n) d v.lo v.hi (neg_ℤ (a.hi *ℤ pos grid)) (neg_ℤ (a.lo *ℤ pos grid)) (suc y2) (suc y1) e (suc m)
    (sym (negative_times a.hi grid)) (sym (negative_times a.lo grid))
    (negative_lies n d a f) s (omega arith) (omega arith) k1 k2
    (omega (arith, ints, clamps)) (omega (arith, ints, clamps)) (omega (arith, ints, clamps)) (omega (arith, ints, clamps)))
by_negative a (pos y1) (negsuc y2) n m d e s z f g = absurd (omega (arith, ints, g.above))
by_negative a (negsuc y1) (pos y2) n m d e s z f g = absurd (z (record { low = omega (arith, ints); high = omega (arith, ints) }))

same_quotients : (x y c d : ℤ) {x' y' c' d' : ℤ} → x ≡ x' → y ≡ y' → c ≡ c' → d ≡ d' → quotients_of x y c d ≡ quotients_of x' y' c' d'
same_quotients x y c d {x'} {y'} {c'} {d'} p q r s =
    ap (λ (t : ℤ). quotients_of t y c d) p ∙ ap (λ (t : ℤ). quotients_of x' t c d) q ∙ ap (λ (t : ℤ). quotients_of x' y' t d) r ∙ ap (λ (t : ℤ). quotients_of x' y' c' t) s

-- a product by the grid, as `product` gives it, of an end that was read from its bits
pub record IsScaled (r v : ℤ) : Type 0 where
  pub fits : IsWithin (v *ℤ pos grid)
  pub read : to_z w128 (of_z w128 r) ≡ v *ℤ pos grid

pub scaled : {r a v : ℤ} → IsWithin (a *ℤ pos grid) × (r ≡ a *ℤ pos grid) → a ≡ v → IsScaled r v
scaled {r} {a} {v} h e =
    let p : a *ℤ pos grid ≡ v *ℤ pos grid = ap (λ (t : ℤ). t *ℤ pos grid) e in
    let k : IsWithin r = subst IsWithin (sym h.1) h.0 in
    record { fits = subst IsWithin p h.0; read = fits_back r k ∙ h.1 ∙ p }

pub quotient_is : (a b : Interval) (x y c d : ℤ) (v : Interval) → ¬ HasZero b → IsScaled x a.lo → IsScaled y a.hi → c ≡ b.lo → d ≡ b.hi
    → v ≡ quotients_of (to_z w128 (of_z w128 x)) (to_z w128 (of_z w128 y)) c d → QuotientFits a b × (v ≡ quotient_of a b)
unfolding quotient_of
quotient_is a b x y c d v n hx hy ec ed e =
    (record { nonzero = n; low = hx.fits; high = hy.fits }, e ∙ same_quotients _ _ _ _ hx.read hy.read ec ed)
