-- What a quotient rounded down, or up, says of products, and the other way.
use Rattle.std.proofs.Common.{ℕ, ℤ, pos, negsuc, ◌<◌, ◌+ℤ◌, ◌*ℤ◌, neg_ℤ, ◌≤ℤ◌, ◌<ℤ◌, arith}
use Rattle.std.proofs.lemmas.Int.{ints, by_lt_z}
use Rattle.std.proofs.Math.Nat.{mul-le-mul_left, div-add-mod, mod-lt}
use borrow.Author.Differences.{lt_out}
use Rattle.rb_num.proofs.Ring.{at, nat, ◌⊕◌, ◌⊗◌, minus, le_by, le_from}
use Rattle.rb_num.specs.Interval.{grid}
use Rattle.rb_num.specs.Dot.{floor_of, ceil_of}

pub grid_positive : 0 < grid
grid_positive = omega arith

pub cancel_pos : (a b : ℤ) (n : ℕ) → 0 < n → (a *ℤ pos n) ≤ℤ (b *ℤ pos n) → a ≤ℤ b
cancel_pos a b n p h = by_lt_z b a (λ (l : b <ℤ a). absurd (omega (arith, ints, mul-le-mul_left n (lt_out b a l)))) (λ l. l)

pub floor-low : (z : ℤ) (n : ℕ) → 0 < n → (floor_of z n *ℤ pos n) ≤ℤ z
floor-low (pos a) n p = omega (arith, ints, div-add-mod a n)
floor-low (negsuc a) n p = omega (arith, ints, div-add-mod a n, mod-lt a p)

pub floor-high : (z : ℤ) (n : ℕ) → 0 < n → z <ℤ (floor_of z n *ℤ pos n +ℤ pos n)
floor-high (pos a) n p = omega (arith, ints, div-add-mod a n, mod-lt a p)
floor-high (negsuc a) n p = omega (arith, ints, div-add-mod a n)

pub ceil-high : (z : ℤ) (n : ℕ) → 0 < n → z ≤ℤ (ceil_of z n *ℤ pos n)
ceil-high z n p =
    let q : ℤ = floor_of (neg_ℤ z) n in
    let h : (q *ℤ pos n) ≤ℤ neg_ℤ z = floor-low (neg_ℤ z) n p in
    le_by (at z) (minus (at q) ⊗ nat n) (omega (arith, le_from (at q ⊗ nat n) (minus (at z)) h))

pub ceil-low : (z : ℤ) (n : ℕ) → 0 < n → (ceil_of z n *ℤ pos n +ℤ pos 1) ≤ℤ (z +ℤ pos n)
ceil-low z n p =
    let q : ℤ = floor_of (neg_ℤ z) n in
    let h : (neg_ℤ z +ℤ pos 1) ≤ℤ (q *ℤ pos n +ℤ pos n) = omega (arith, ints, floor-high (neg_ℤ z) n p) in
    le_by (minus (at q) ⊗ nat n ⊕ nat 1) (at z ⊕ nat n) (omega (arith, le_from (minus (at z) ⊕ nat 1) (at q ⊗ nat n ⊕ nat n) h))

pub floor-le-ceil : (a b : ℤ) (n : ℕ) → 0 < n → a ≤ℤ b → floor_of a n ≤ℤ ceil_of b n
floor-le-ceil a b n p h =
    cancel_pos (floor_of a n) (ceil_of b n) n p (omega (arith, ints, floor-low a n p, ceil-high b n p))
