-- The results of `dot`, `div` and `hull` are the least intervals with what they have in them.
use Rattle.std.proofs.Common.{◌≡◌, ℕ, zero, suc, ℤ, pos, negsuc, neg_ℤ, ◌*◌, ◌<◌, ◌+ℤ◌, ◌*ℤ◌, ◌≤ℤ◌, ◌<ℤ◌, List, refl, sym, subst, arith}
use Rattle.std.proofs.lemmas.Int.{ints, clamps, by_lt_z}
use lib.Signed.{≤ℤ_refl}
use Rattle.std.specs.Int.{int_min, int_max}
use Rattle.rb_frac.specs.Frac as F
use Rattle.rb_num.specs.Interval.{Interval, grid}
use Rattle.rb_num.specs.Fraction.{LiesIn}
use Rattle.rb_num.specs.Dot.{floor_of, ceil_of, least_product, greatest_product, int_sum_by, dot_of}
use Rattle.rb_num.specs.Hull.{hull_of}
use Rattle.rb_num.specs.Quotient.{HasZero, floor_quotient, ceil_quotient, quotient_of, quotients_of}
use Rattle.rb_num.specs.Least.{Covers, IsLeast, units, HasQuotients, HasSums, HasBoth}
use Rattle.rb_num.proofs.Order.{times_pos}
use Rattle.rb_num.proofs.Ring.{at, nat, ◌⊕◌, ◌⊗◌, minus, le_by, le_from}
use Rattle.rb_num.proofs.Quotient.{EndsAreNonzero, ends_nonzero}
use Rattle.rb_num.proofs.Quotients.{grid_positive, cancel_pos, floor-low, floor-high, ceil-high}
use Rattle.rb_num.proofs.Fractions.{quot_lies}

-- ---- a quotient rounded down is the greatest whole number that is not above it
pub floor_greatest : (w z : ℤ) (n : ℕ) → 0 < n → (w *ℤ pos n) ≤ℤ z → w ≤ℤ floor_of z n
floor_greatest w z n p h = by_lt_z (floor_of z n) w (λ (l : floor_of z n <ℤ w). absurd (no l)) (λ l. l)
  where
    no : floor_of z n <ℤ w → ⊥
    no l =
        let q : ℤ = floor_of z n in
        let a : ((q +ℤ pos 1) *ℤ pos n) ≤ℤ (w *ℤ pos n) = times_pos (q +ℤ pos 1) w n (omega (arith, ints, l)) in
        let b : (z +ℤ pos 1) ≤ℤ (q *ℤ pos n +ℤ pos n) = omega (arith, ints, floor-high z n p) in
        omega (arith, le_from ((at q ⊕ nat 1) ⊗ nat n) (at w ⊗ nat n) a, le_from (at z ⊕ nat 1) (at q ⊗ nat n ⊕ nat n) b, le_from (at w ⊗ nat n) (at z) h)

pub ceil_least : (w z : ℤ) (n : ℕ) → 0 < n → z ≤ℤ (w *ℤ pos n) → ceil_of z n ≤ℤ w
ceil_least w z n p h =
    let k : (neg_ℤ w *ℤ pos n) ≤ℤ neg_ℤ z = le_by (minus (at w) ⊗ nat n) (minus (at z)) (omega (arith, le_from (at z) (at w ⊗ nat n) h)) in
    let l : neg_ℤ w ≤ℤ floor_of (neg_ℤ z) n = floor_greatest (neg_ℤ w) (neg_ℤ z) n p k in
    omega (arith, ints)

-- ---- bounds of a quotient of ends, multiplied out
below_positive : (w x : ℤ) (G m : ℕ) → 0 < G → (w *ℤ pos (G * m)) ≤ℤ ((x *ℤ pos G) *ℤ pos G) → (w *ℤ pos m) ≤ℤ (x *ℤ pos G)
below_positive w x G m p h =
    cancel_pos (w *ℤ pos m) (x *ℤ pos G) G p
    (le_by ((at w ⊗ nat m) ⊗ nat G) ((at x ⊗ nat G) ⊗ nat G) (omega (arith, le_from (at w ⊗ nat (G * m)) ((at x ⊗ nat G) ⊗ nat G) h)))

above_positive : (w x : ℤ) (G m : ℕ) → 0 < G → ((x *ℤ pos G) *ℤ pos G) ≤ℤ (w *ℤ pos (G * m)) → (x *ℤ pos G) ≤ℤ (w *ℤ pos m)
above_positive w x G m p h =
    cancel_pos (x *ℤ pos G) (w *ℤ pos m) G p
    (le_by ((at x ⊗ nat G) ⊗ nat G) ((at w ⊗ nat m) ⊗ nat G) (omega (arith, le_from ((at x ⊗ nat G) ⊗ nat G) (at w ⊗ nat (G * m)) h)))

below_negative : (w x : ℤ) (G m : ℕ) → 0 < G → (w *ℤ pos (G * m)) ≤ℤ ((x *ℤ neg_ℤ (pos G)) *ℤ pos G) → (w *ℤ pos m) ≤ℤ neg_ℤ (x *ℤ pos G)
below_negative w x G m p h =
    cancel_pos (w *ℤ pos m) (neg_ℤ (x *ℤ pos G)) G p
    (le_by ((at w ⊗ nat m) ⊗ nat G) (minus (at x ⊗ nat G) ⊗ nat G) (omega (arith, le_from (at w ⊗ nat (G * m)) ((at x ⊗ minus (nat G)) ⊗ nat G) h)))

above_negative : (w x : ℤ) (G m : ℕ) → 0 < G → ((x *ℤ neg_ℤ (pos G)) *ℤ pos G) ≤ℤ (w *ℤ pos (G * m)) → neg_ℤ (x *ℤ pos G) ≤ℤ (w *ℤ pos m)
above_negative w x G m p h =
    cancel_pos (neg_ℤ (x *ℤ pos G)) (w *ℤ pos m) G p
    (le_by (minus (at x ⊗ nat G) ⊗ nat G) ((at w ⊗ nat m) ⊗ nat G) (omega (arith, le_from ((at x ⊗ minus (nat G)) ⊗ nat G) (at w ⊗ nat (G * m)) h)))

-- an interval that has x / y in it has its lower end below the quotient rounded down
lower : (w : Interval) (x y : ℤ) → (y ≡ pos 0 → ⊥) → LiesIn (F.quot (units x) (units y)) w → w.lo ≤ℤ floor_quotient (x *ℤ pos grid) y
unfolding units F.quot F.mul F.turn
lower w x (pos zero) n h = absurd (n refl)
lower w x (pos (suc m)) n h = floor_greatest w.lo (x *ℤ pos grid) (suc m) (omega arith) (below_positive w.lo x grid (suc m) grid_positive h.above)
lower w x (negsuc m) n h = floor_greatest w.lo (neg_ℤ (x *ℤ pos grid)) (suc m) (omega arith) (below_negative w.lo x grid (suc m) grid_positive h.above)

upper : (w : Interval) (x y : ℤ) → (y ≡ pos 0 → ⊥) → LiesIn (F.quot (units x) (units y)) w → ceil_quotient (x *ℤ pos grid) y ≤ℤ w.hi
unfolding units F.quot F.mul F.turn
upper w x (pos zero) n h = absurd (n refl)
upper w x (pos (suc m)) n h = ceil_least w.hi (x *ℤ pos grid) (suc m) (omega arith) (above_positive w.hi x grid (suc m) grid_positive h.below)
upper w x (negsuc m) n h = ceil_least w.hi (neg_ℤ (x *ℤ pos grid)) (suc m) (omega arith) (above_negative w.hi x grid (suc m) grid_positive h.below)

-- ---- quotients
end_lies : (z : ℤ) (v : Interval) → v.lo ≤ℤ z → z ≤ℤ v.hi → LiesIn (units z) v
unfolding units
end_lies z v h k = record { above = times_pos v.lo z grid h; below = times_pos z v.hi grid k }

has_quotients : (a b : Interval) → a.lo ≤ℤ a.hi → b.lo ≤ℤ b.hi → ¬ HasZero b → HasQuotients a b (quotient_of a b)
has_quotients a b h k n =
    let al = end_lies a.lo a (≤ℤ_refl a.lo) h in
    let ah = end_lies a.hi a h (≤ℤ_refl a.hi) in
    let bl = end_lies b.lo b (≤ℤ_refl b.lo) k in
    let bh = end_lies b.hi b k (≤ℤ_refl b.hi) in
    record {
      lo_lo = quot_lies _ _ a b al bl n;
      lo_hi = quot_lies _ _ a b al bh n;
      hi_lo = quot_lies _ _ a b ah bl n;
      hi_hi = quot_lies _ _ a b ah bh n;
    }

covers_quotient : (a b w : Interval) → EndsAreNonzero b → HasQuotients a b w → Covers w (quotient_of a b)
unfolding quotient_of quotients_of
covers_quotient a b w n h =
    let l1 = lower w a.lo b.lo n.low h.lo_lo in
    let l2 = lower w a.lo b.hi n.high h.lo_hi in
    let l3 = lower w a.hi b.lo n.low h.hi_lo in
    let l4 = lower w a.hi b.hi n.high h.hi_hi in
    let u1 = upper w a.lo b.lo n.low h.lo_lo in
    let u2 = upper w a.lo b.hi n.high h.lo_hi in
    let u3 = upper w a.hi b.lo n.low h.hi_lo in
    let u4 = upper w a.hi b.hi n.high h.hi_hi in
    record { low = least_of_four w.lo _ _ _ _ l1 l2 l3 l4; high = greatest_of_four w.hi _ _ _ _ u1 u2 u3 u4 }
  where
    least_of_four : (w p q r s : ℤ) → w ≤ℤ p → w ≤ℤ q → w ≤ℤ r → w ≤ℤ s → w ≤ℤ int_min (int_min p q) (int_min r s)
    least_of_four w p q r s a b c d = omega (arith, ints, clamps)

    greatest_of_four : (w p q r s : ℤ) → p ≤ℤ w → q ≤ℤ w → r ≤ℤ w → s ≤ℤ w → int_max (int_max p q) (int_max r s) ≤ℤ w
    greatest_of_four w p q r s a b c d = omega (arith, ints, clamps)

pub least_quotient : (a b v : Interval) → a.lo ≤ℤ a.hi → b.lo ≤ℤ b.hi → ¬ HasZero b → v ≡ quotient_of a b → IsLeast (HasQuotients a b) v
least_quotient a b v h k n e = subst (λ (t : Interval). IsLeast (HasQuotients a b) t) (sym e) (record {
  has = has_quotients a b h k n;
  least = λ w q. covers_quotient a b w (ends_nonzero b k n) q;
})

-- ---- sums of products
pub least_sums : (ps : List (Interval × Interval)) (v : Interval) → v ≡ dot_of ps → IsLeast (HasSums ps) v
unfolding dot_of
least_sums ps v e = subst (λ (t : Interval). IsLeast (HasSums ps) t) (sym e) (record {
  has = record { low = floor-low (int_sum_by least_product ps) grid grid_positive; high = ceil-high (int_sum_by greatest_product ps) grid grid_positive };
  least = λ w s. record {
    low = floor_greatest w.lo (int_sum_by least_product ps) grid grid_positive s.low;
    high = ceil_least w.hi (int_sum_by greatest_product ps) grid grid_positive s.high;
  };
})

-- ---- the hull
pub least_hull : (a b v : Interval) → v ≡ hull_of a b → IsLeast (HasBoth a b) v
unfolding hull_of
least_hull a b v e = subst (λ (t : Interval). IsLeast (HasBoth a b) t) (sym e) (record {
  has = record { left = record { low = omega (arith, ints, clamps); high = omega (arith, ints, clamps) }; right = record { low = omega (arith, ints, clamps); high = omega (arith, ints, clamps) } };
  least = λ w h. record { low = omega (arith, ints, clamps, h.left.low, h.right.low); high = omega (arith, ints, clamps, h.left.high, h.right.high) };
})
