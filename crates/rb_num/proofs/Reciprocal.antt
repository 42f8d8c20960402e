-- Division by d, by a product with a reciprocal r: the guess g is the quotient, or one less.
use Rattle.std.proofs.Common.{◌≡◌, ℕ, suc, ◌+◌, ◌-◌, ◌*◌, ◌/◌, ◌%◌, ◌<◌, ◌≤◌, ◌^◌, ℤ, pos, neg_ℤ, ◌+ℤ◌, ◌-ℤ◌, ◌*ℤ◌, ◌≤ℤ◌, ◌<ℤ◌, arith, ap, sym, ◌∙◌, to_z, of_z}
use mir.Syntax.{w128}
use Rattle.std.proofs.lemmas.Int.{ints, by_lt_z}
use Rattle.std.proofs.lemmas.Nat.{div-mul-add, mul-le, pow-add, pow_pos}
use Rattle.std.proofs.Math.Nat.{mul-le-mul_left, div-add-mod, mod-lt, div-lt_iff_lt-mul}
use Rattle.rb_num.specs.Dot.{floor_of, ceil_of}
use Rattle.rb_num.specs.Reciprocal.{IsReciprocal, IsNear}
use Rattle.rb_num.proofs.Ring.{at, nat, ◌⊕◌, ◌⊗◌, minus, le_by, le_from}
use Rattle.rb_num.proofs.Quotients.{floor-low, ceil-low, ceil-high}
use Rattle.rb_num.proofs.Order.{times_pos}
use Rattle.rb_num.proofs.Least.{floor_greatest}

-- ---- p is the power of two by which the number is cut
low_by : (x d p r g : ℕ) → r ≡ p * 2 ^ 66 / d → g ≡ x / p * r / 2 ^ 66 → g * d ≤ x
low_by x d p r g er eg =
    let t : ℕ = x / p in
    let a : r * d ≤ p * 2 ^ 66 = omega (arith, ap (λ (n : ℕ). d * n) er, div-add-mod (p * 2 ^ 66) d) in
    let b : t * (r * d) ≤ t * (p * 2 ^ 66) = mul-le-mul_left t a in
    let c : g * 2 ^ 66 ≤ t * r = omega (arith, eg) in
    let e : d * (g * 2 ^ 66) ≤ d * (t * r) = mul-le-mul_left d c in
    let f : t * p ≤ x = omega (arith, div-add-mod x p) in
    omega (arith, b, e, f)

high_by : (x d p r g : ℕ) → 0 < p → 4 * p ≤ d → x < 2 ^ 64 * p → r ≡ p * 2 ^ 66 / d → g ≡ x / p * r / 2 ^ 66 → x < g * d + 2 * d
high_by x d p r g q l h er eg =
    let t : ℕ = x / p in
    let some : 0 < d = omega (arith, q, l) in
    let a : suc (p * 2 ^ 66) ≤ r * d + d = omega (arith, ap (λ (n : ℕ). d * n) er, div-add-mod (p * 2 ^ 66) d, mod-lt (p * 2 ^ 66) some) in
    let b : t * suc (p * 2 ^ 66) ≤ t * (r * d + d) = mul-le-mul_left t a in
    let c : suc (t * r) ≤ (g + 1) * 2 ^ 66 = omega (arith, eg) in
    let e : d * suc (t * r) ≤ d * ((g + 1) * 2 ^ 66) = mul-le-mul_left d c in
    let small : t < 2 ^ 64 = (div-lt_iff_lt-mul {k = p} {x = x} {y = 2 ^ 64} q).1 h in
    let f : d * t ≤ d * 2 ^ 64 = mul-le-mul_left d (omega (arith, small)) in
    let k : x < t * p + p = omega (arith, div-add-mod x p, mod-lt x q) in
    omega (arith, b, e, f, k, l)

-- ---- the same by the number of bits
power : (k : ℕ) → 2 ^ (k + 66) ≡ 2 ^ k * 2 ^ 66
power k = pow-add 2 k 66

pub guess_low : (x d k r g : ℕ) → IsReciprocal d k r → g ≡ x / 2 ^ k * r / 2 ^ 66 → g * d ≤ x
guess_low x d k r g h eg = low_by x d (2 ^ k) r g (h.value ∙ ap (λ (n : ℕ). n / d) (power k)) eg

pub guess_high : (x d k r g : ℕ) → IsReciprocal d k r → x < 2 ^ (k + 64) → g ≡ x / 2 ^ k * r / 2 ^ 66 → x < g * d + 2 * d
guess_high x d k r g h small eg =
    high_by x d (2 ^ k) r g (pow_pos k) (omega (arith, h.low, pow-add 2 k 2)) (omega (arith, small, pow-add 2 k 64)) (h.value ∙ ap (λ (n : ℕ). n / d) (power k)) eg

-- ---- the sizes of the factors, of their product and of the guess
pub cut_small : (x k : ℕ) → x < 2 ^ (k + 64) → x / 2 ^ k < 2 ^ 64
cut_small x k h = (div-lt_iff_lt-mul {k = 2 ^ k} {x = x} {y = 2 ^ 64} (pow_pos k)).1 (omega (arith, h, pow-add 2 k 64))

reciprocal_small : (d k r : ℕ) → IsReciprocal d k r → r ≤ 2 ^ 64
reciprocal_small d k r h =
    let p : ℕ = 2 ^ k in
    let some : 0 < d = omega (arith, h.low, pow_pos (k + 2)) in
    let l : 2 ^ (k + 66) < (2 ^ 64 + 1) * d = omega (arith, h.low, some, pow-add 2 k 2, power k) in
    omega (arith, h.value, (div-lt_iff_lt-mul {k = d} {x = 2 ^ (k + 66)} {y = 2 ^ 64 + 1} some).1 l)

pub product_small : (x d k r : ℕ) → IsReciprocal d k r → x < 2 ^ (k + 64) → x / 2 ^ k * r < 2 ^ 128
product_small x d k r h small =
    let a : x / 2 ^ k ≤ 2 ^ 64 - 1 = omega (arith, cut_small x k small) in
    omega (arith, mul-le (x / 2 ^ k) r (2 ^ 64 - 1) (2 ^ 64) a (reciprocal_small d k r h))

quotient_is : (x d g : ℕ) → g * d ≤ x → x < g * d + d → g ≡ x / d
quotient_is x d g l h =
    let e : g * d + (x - g * d) ≡ x = omega (arith, l) in
    sym (div-mul-add g d (x - g * d) (omega (arith, l, h))) ∙ ap (λ (t : ℕ). t / d) e

pub guess_is : (x d k r g : ℕ) → IsReciprocal d k r → g ≡ x / 2 ^ k * r / 2 ^ 66 → x - g * d < d → g ≡ x / d
guess_is x d k r g h eg s = let a = guess_low x d k r g h eg in quotient_is x d g a (omega (arith, a, s))

pub guess_less : (x d k r g : ℕ) → IsReciprocal d k r → x < 2 ^ (k + 64) → g ≡ x / 2 ^ k * r / 2 ^ 66 → d ≤ x - g * d → g + 1 ≡ x / d
guess_less x d k r g h small eg s =
    let a = guess_low x d k r g h eg in
    let b = guess_high x d k r g h small eg in
    let some : 0 < d = omega (arith, h.low, pow_pos (k + 2)) in
    quotient_is x d (g + 1) (omega (arith, a, s, some)) (omega (arith, a, b))

-- ---- a number that was lifted by m times d
pub floor_lifted : (z : ℤ) (d m x : ℕ) → 0 < d → z +ℤ pos (d * m) ≡ pos x → (pos (x / d) -ℤ pos m) ≡ floor_of z d
floor_lifted z d m x p e =
    let q : ℤ = pos (x / d) -ℤ pos m in
    let f : ℤ = floor_of z d in
    let low : (q *ℤ pos d) ≤ℤ z = le_by ((nat (x / d) ⊕ minus (nat m)) ⊗ nat d) (at z) (omega (arith, ints, e, div-add-mod x d)) in
    let high : f ≤ℤ q = by_lt_z q f (λ (l : q <ℤ f). absurd (no l)) (λ l. l) in
    omega (arith, ints, floor_greatest q z d p low, high)
  where
    no : (pos (x / d) -ℤ pos m) <ℤ floor_of z d → ⊥
    no l =
        let f : ℤ = floor_of z d in
        let a : ((pos (x / d + 1) -ℤ pos m) *ℤ pos d) ≤ℤ (f *ℤ pos d) = times_pos (pos (x / d + 1) -ℤ pos m) f d (omega (arith, ints, l)) in
        let b : (f *ℤ pos d) ≤ℤ z = floor-low z d p in
        omega (
          arith,
          ints,
          e,
          div-add-mod x d,
          mod-lt x p,
          le_from ((nat (x / d + 1) ⊕ minus (nat m)) ⊗ nat d) (at f ⊗ nat d) a,
          le_from (at f ⊗ nat d) (at z) b,
        )

-- z as the code holds it
abbrev held : ℤ → ℤ
held z = to_z w128 (of_z w128 z)

-- ---- a number that the code lifts, read from its bits
lift_held : (z : ℤ) (d : ℕ) → neg_ℤ (pos (2 ^ 126)) ≤ℤ z → z ≤ℤ pos (2 ^ 126 + 2 ^ 63) → d < 2 ^ 63
    → held (held z +ℤ held (to_z w128 d *ℤ pos (2 ^ 60))) ≡ z +ℤ pos (d * 2 ^ 60)
lift_held z d l h s = omega (arith, ints, l, h, s)

-- the test of the high 64 bits
pub span_low : (x d : ℕ) → d % 8 ≡ 0 → x / 2 ^ 64 < d / 8 → x < d * 2 ^ 61
span_low x d h t = omega (arith, h, t)

pub span_high : (x d : ℕ) → d % 8 ≡ 0 → d / 8 ≤ x / 2 ^ 64 → d * 2 ^ 61 ≤ x
span_high x d h t = omega (arith, h, t)

lift_small : (w : ℤ) (x d : ℕ) → d < 2 ^ 63 → x ≡ of_z w128 w → neg_ℤ (pos (2 ^ 127)) ≤ℤ w → w <ℤ pos (2 ^ 127) → x < d * 2 ^ 61 → pos x ≡ w
lift_small w x d s e l h t = omega (arith, ints, s, e, l, h, t)

pub lifted : (z : ℤ) (d x : ℕ) → d < 2 ^ 63 → neg_ℤ (pos (2 ^ 126)) ≤ℤ z → z ≤ℤ pos (2 ^ 126 + 2 ^ 63)
    → x ≡ of_z w128 (held (held z +ℤ held (to_z w128 d *ℤ pos (2 ^ 60)))) → x < d * 2 ^ 61 → z +ℤ pos (d * 2 ^ 60) ≡ pos x
lifted z d x s l h e t =
    sym (lift_small (z +ℤ pos (d * 2 ^ 60)) x d s (e ∙ ap (of_z w128) (lift_held z d l h s)) (omega (arith, ints, l)) (omega (arith, ints, h, s)) t)

pub below_near : (x d k : ℕ) → d ≤ 2 ^ (k + 3) → x < d * 2 ^ 61 → x < 2 ^ (k + 64)
below_near x d k c t = omega (arith, c, t, pow-add 2 k 3, pow-add 2 k 64)

pub near_is : (z : ℤ) (d x : ℕ) → z +ℤ pos (d * 2 ^ 60) ≡ pos x → x < d * 2 ^ 61 → IsNear d z
near_is z d x e h = record { above = omega (arith, ints, e); below = omega (arith, ints, e, h) }

pub rounded_is : (z : ℤ) (d k r x q : ℕ) → IsReciprocal d k r → z +ℤ pos (d * 2 ^ 60) ≡ pos x → x < d * 2 ^ 61 → q ≡ x / d → held (to_z w128 q -ℤ pos (2 ^ 60)) ≡ floor_of z d
rounded_is z d k r x q i e h eq =
    let some : 0 < d = omega (arith, i.low, pow_pos (k + 2)) in
    let small : x / d < 2 ^ 61 = (div-lt_iff_lt-mul {k = d} {x = x} {y = 2 ^ 61} some).1 (omega (arith, h)) in
    omega (arith, ints, floor_lifted z d (2 ^ 60) x some e, small, eq)

pub not_near : (z : ℤ) (d x : ℕ) → d < 2 ^ 63 → neg_ℤ (pos (2 ^ 126)) ≤ℤ z → z ≤ℤ pos (2 ^ 126 + 2 ^ 63)
    → x ≡ of_z w128 (held (held z +ℤ held (to_z w128 d *ℤ pos (2 ^ 60)))) → d * 2 ^ 61 ≤ x → IsNear d z → ⊥
not_near z d x s l h e t n =
    let same : x ≡ of_z w128 (z +ℤ pos (d * 2 ^ 60)) = e ∙ ap (of_z w128) (lift_held z d l h s) in
    omega (arith, ints, same, s, t, n.above, n.below)

-- ---- rounding up is rounding a number down that is d - 1 more
pub up_held : (z : ℤ) (d : ℕ) → neg_ℤ (pos (2 ^ 126)) ≤ℤ z → z ≤ℤ pos (2 ^ 126) → 0 < d → d < 2 ^ 63 → held (held z +ℤ held (to_z w128 d -ℤ pos 1)) ≡ z +ℤ pos (d - 1)
up_held z d l h p s = omega (arith, ints, l, h, p, s)

pub floor_of_more : (z : ℤ) (d : ℕ) → 0 < d → floor_of (z +ℤ pos (d - 1)) d ≡ ceil_of z d
floor_of_more z d p = omega (arith, ints, least, greatest)
  where
    q : ℤ
    q = floor_of (z +ℤ pos (d - 1)) d

    c : ℤ
    c = ceil_of z d

    low : (c *ℤ pos d) ≤ℤ (z +ℤ pos (d - 1))
    low = omega (arith, ints, ceil-low z d p, p)

    least : c ≤ℤ q
    least = floor_greatest c (z +ℤ pos (d - 1)) d p low

    no : c <ℤ q → ⊥
    no l =
        let a : ((c +ℤ pos 1) *ℤ pos d) ≤ℤ (q *ℤ pos d) = times_pos (c +ℤ pos 1) q d (omega (arith, ints, l)) in
        let b : (q *ℤ pos d) ≤ℤ (z +ℤ pos (d - 1)) = floor-low (z +ℤ pos (d - 1)) d p in
        omega (
          arith,
          p,
          le_from ((at c ⊕ nat 1) ⊗ nat d) (at q ⊗ nat d) a,
          le_from (at q ⊗ nat d) (at z ⊕ nat (d - 1)) b,
          le_from (at z) (at c ⊗ nat d) (ceil-high z d p),
        )

    greatest : q ≤ℤ c
    greatest = by_lt_z c q (λ (l : c <ℤ q). absurd (no l)) (λ l. l)
