-- A solution whose right side is zero: each step stays at zero, and none is refused.
use Rattle.std.proofs.Common.{◌≡◌, ℕ, zero, suc, ◌*◌, ◌≤◌, ℤ, pos, negsuc, neg_ℤ, ◌*ℤ◌, [], ◌∷◌, Bool, true, false, ◌&&◌, cond, Ok, Err, refl, sym, ap, ◌∙◌, arith}
use mathlib.Core.Path.{ap₂}
use native.Mathlib.Nat.{zero-div}
use Rattle.std.specs.Bool.{Decides}
use Rattle.std.proofs.lemmas.Int.{ints, clamps}
use Rattle.std.proofs.lemmas.List.{append-nil}
use Rattle.std.proofs.Math.Nat.{mul-le-mul_left}
use Rattle.rb_num.specs.declared.interval.NumFault.TheVariants.{Size, Zero}
use Rattle.rb_num.specs.Interval.{Interval, IsWithin, grid, interval, zero_interval, one_interval, negative_of}
use Rattle.rb_num.specs.Dot.{floor_of, is_within, iv_dot}
use Rattle.rb_num.specs.Quotient.{HasZero, floor_quotient, ceil_quotient, quotients_of, quotient_of}
use Rattle.rb_num.specs.Refusing.{has_zero, iv_add, iv_div}
use Rattle.rb_num.proofs.Quotients.{grid_positive}
use Rattle.rb_num.proofs.Refused.{decides_within, added, divided}
use Rattle.rb_num.proofs.Zeros.{dot-head_zero_first, dot-head_zero_second, dot-zero_second, dot-none}
use Rattle.rb_elimination.specs.Solving.{IsReduced, IsDivided}
use Rattle.rb_factor.specs.Steps.{lessened, interval_steps, AreDivisors}
use Rattle.rb_coupling.specs.Steps.{pairs_of}

-- ---- of intervals
zero_lessened : (l : Interval) → lessened zero_interval l zero_interval ≡ Ok zero_interval
zero_lessened l =
    dot-head_zero_first one_interval ((negative_of l, zero_interval) ∷ []) ∙ dot-head_zero_second (negative_of l) [] ∙ dot-none

floor_zero : (n : ℕ) → floor_of (pos 0) n ≡ pos 0
floor_zero n = ap pos (zero-div n)

floor_none : (d : ℤ) → floor_quotient (pos 0) d ≡ pos 0
floor_none (pos n) = floor_zero n
floor_none (negsuc n) = floor_zero (suc n)

ceil_none : (d : ℤ) → ceil_quotient (pos 0) d ≡ pos 0
ceil_none d = ap neg_ℤ (floor_none d)

zero_over : (d : Interval) → zero_interval ≡ quotient_of zero_interval d
unfolding quotient_of quotients_of
zero_over d =
    let a = floor_none d.lo in
    let b = floor_none d.hi in
    let e = ceil_none d.lo in
    let f = ceil_none d.hi in
    ap₂ interval (omega (arith, ints, clamps)) (omega (arith, ints, clamps))

nothing_within : (z : ℤ) → z ≡ pos 0 → IsWithin z
nothing_within z e = record { above = omega (arith, ints); below = omega (arith, ints) }

zero_quotient : (d : Interval) → ¬ HasZero d → iv_div zero_interval d ≡ Ok zero_interval
zero_quotient d nonzero =
    let scaled : IsWithin (pos 0 *ℤ pos grid) = nothing_within (pos 0 *ℤ pos grid) (omega (arith, ints)) in
    sym (divided (Ok zero_interval) zero_interval d (record { nonzero = nonzero; low = scaled; high = scaled }, zero_over d) tt)

pub zero_products : (n : ℕ) (a : ℕ → Interval) → iv_dot (pairs_of a (λ c. zero_interval) n) ≡ Ok zero_interval
unfolding pairs_of
zero_products zero a = dot-none
zero_products (suc n) a =
    let before = pairs_of a (λ c. zero_interval) n in
    dot-zero_second (a (suc n)) before [] ∙ ap iv_dot (append-nil before) ∙ zero_products n a

pub twice_negative : (v : Interval) → negative_of (negative_of v) ≡ v
twice_negative v = ap₂ interval (omega (arith, ints)) (omega (arith, ints))

-- ---- what is divided is within the limit, so that to add it to zero is not refused
unscaled : (z : ℤ) → IsWithin (z *ℤ pos grid) → IsWithin z
unscaled (pos n) h = let less : n * 1 ≤ n * grid = mul-le-mul_left n grid_positive in record { above = omega (arith, ints, h.above); below = omega (arith, ints, h.below, less) }
unscaled (negsuc n) h =
    let less : suc n * 1 ≤ suc n * grid = mul-le-mul_left (suc n) grid_positive in record { above = omega (arith, ints, h.above, less); below = omega (arith, ints, h.below) }

scaled_within : (a b q : Interval) → iv_div a b ≡ Ok q → IsWithin (a.lo *ℤ pos grid) × IsWithin (a.hi *ℤ pos grid)
unfolding iv_div
scaled_within a b q e = go (has_zero b) (is_within (a.lo *ℤ pos grid)) (is_within (a.hi *ℤ pos grid)) (decides_within _) (decides_within _) e
  where
    go : (z l h : Bool) → Decides l (IsWithin (a.lo *ℤ pos grid)) → Decides h (IsWithin (a.hi *ℤ pos grid)) → cond z (Err Zero) (cond (l && h) (Ok (quotient_of a b)) (Err Size)) ≡ Ok q
        → IsWithin (a.lo *ℤ pos grid) × IsWithin (a.hi *ℤ pos grid)
    go true l h dl dh e = absurd cc
    go false true true dl dh e = (dl.0 refl, dh.0 refl)
    go false true false dl dh e = absurd cc
    go false false h dl dh e = absurd cc

pub zero_added : (v d q : Interval) → iv_div v d ≡ Ok q → iv_add zero_interval v ≡ Ok v
zero_added v d q e =
    let scaled = scaled_within v d q e in
    let low = unscaled v.lo scaled.0 in
    let high = unscaled v.hi scaled.1 in
    sym (added (Ok v) zero_interval v (
      record {
        low = record { above = omega (arith, ints, low.above); below = omega (arith, ints, low.below) };
        high = record { above = omega (arith, ints, high.above); below = omega (arith, ints, high.below) };
      },
      ap₂ interval (omega (arith, ints)) (omega (arith, ints)),
    ) tt)

-- ---- of equations
pub zero_reduced : (n : ℕ) (up : ℕ → ℕ) (L : ℕ → ℕ → Interval) → IsReduced interval_steps n up L (λ c. zero_interval) (λ k c. zero_interval) (λ c. zero_interval)
zero_reduced n up L = record {
  first = λ c there. refl;
  result = λ c there. refl;
  updates = λ c d less on. zero_lessened (L (suc c) d);
  others = λ c d less there off. refl;
}

pub zero_divided : (n : ℕ) (up : ℕ → ℕ) (D : ℕ → Interval) → AreDivisors n D → IsDivided interval_steps n up D (λ c. zero_interval) (λ c. zero_interval)
zero_divided n up D divisors c there = zero_quotient (D c) (divisors c there)
