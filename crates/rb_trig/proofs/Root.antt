-- The roots of whole numbers, rounded down and up.
use Rattle.std.proofs.Common.{◌≡◌, ℕ, zero, suc, ◌+◌, ◌*◌, ◌^◌, ◌<◌, ◌≤◌, ℤ, pos, negsuc, ◌*ℤ◌, ◌≤ℤ◌, ◌<ℤ◌, Bool, true, false, cond, refl, sym, ◌∙◌, ap, subst, arith}
use Rattle.std.specs.Prelude.{nat_le, unsigned_abs}
use Rattle.std.specs.Int.{IsIsqrt}
use Rattle.std.proofs.lemmas.Int.{ints}
use Rattle.std.proofs.lemmas.Nat.{mul-le}
use Rattle.std.proofs.lemmas.Bool.{le-leb, lt-leb, leb-true, leb-false}
use mir.Syntax.{w128}
use mir.Val.{SFits}
use Rattle.rb_num.proofs.Ends.{read}
use Rattle.rb_num.proofs.Products.{same_product}
use Rattle.rb_trig.specs.Axis.{root, floor_root, ceil_root}
use Rattle.rb_trig.proofs.Read.{held}

-- r is the root of n, rounded down
pub record IsRoot (n r : ℕ) : Type 0 where
  pub low : r * r ≤ n
  pub high : n < (r + 1) * (r + 1)

below_next : (n r : ℕ) → n < (r + 1) * (r + 1) → suc n < (r + 1 + 1) * (r + 1 + 1)
below_next n r h = omega arith

pub root_is : (n : ℕ) → IsRoot n (root n)
unfolding root
root_is zero = record { low = omega arith; high = omega arith }
root_is (suc n) = go (nat_le ((root n + 1) * (root n + 1)) (suc n)) refl (root_is n)
  where
    go : (b : Bool) → nat_le ((root n + 1) * (root n + 1)) (suc n) ≡ b → IsRoot n (root n) → IsRoot (suc n) (cond b (root n + 1) (root n))
    go true e h = record { low = leb-true _ _ e; high = below_next n (root n) h.high }
    go false e h = record { low = omega (arith, h.low); high = leb-false _ _ e }

-- the root grows with the number
pub root_le : (m n r s : ℕ) → m ≤ n → r * r ≤ m → n < (s + 1) * (s + 1) → r ≤ s
root_le m n r s l h k =
    let no : s < r → ⊥ = λ p. omega (arith, mul-le (s + 1) (s + 1) r r (omega arith) (omega arith)) in
    omega (arith, no)

same : (r s : ℕ) → r ≤ s → s ≤ r → r ≡ s
same r s h k = omega arith

pub root_unique : (n r s : ℕ) → IsRoot n r → IsRoot n s → r ≡ s
root_unique n r s h k = same r s (root_le n n r s (omega arith) h.low k.high) (root_le n n s r (omega arith) k.low h.high)

small : (n r : ℕ) → r * r ≤ n → n < 2 ^ 127 → r < 2 ^ 64
small n r h k =
    let no : 2 ^ 64 ≤ r → ⊥ = λ p. omega (arith, mul-le (2 ^ 64) (2 ^ 64) r r p p) in
    omega (arith, no)

-- what `isqrt` answers
pub isqrt_held : (z s r : ℤ) → s ≡ z → pos 0 ≤ℤ z → SFits w128 z → IsIsqrt s r → held r ≡ pos (floor_root z)
unfolding floor_root
isqrt_held (pos a) s r e p f h =
    let n = h.0 in
    let l : n * n ≤ a = subst (λ (t : ℤ). n * n ≤ unsigned_abs t) e h.2 in
    let k : a < (n + 1) * (n + 1) = subst (λ (t : ℤ). unsigned_abs t < (n + 1) * (n + 1)) e h.3 in
    let b : n < 2 ^ 64 = small a n l (omega (arith, ints, f)) in
    read r (omega (arith, ints, h.1)) (h.1 ∙ ap pos (root_unique a n (root a) (record { low = l; high = k }) (root_is a)))
isqrt_held (negsuc a) s r e p f h = absurd (omega (arith, ints, p))

-- ---- of a number that is not negative
pub floor_low : (z : ℤ) → pos 0 ≤ℤ z → pos (floor_root z * floor_root z) ≤ℤ z
unfolding floor_root
floor_low (pos a) h = let l = (root_is a).low in omega (arith, ints, l)
floor_low (negsuc a) h = absurd (omega (arith, ints, h))

pub floor_some : (z : ℤ) → pos 0 <ℤ z → 0 < floor_root z
unfolding floor_root
floor_some (pos a) h = from (root a) (root_is a).high (omega (arith, ints, h))
  where
    from : (r : ℕ) → a < (r + 1) * (r + 1) → 0 < a → 0 < r
    from zero k p = absurd (omega arith)
    from (suc r) k p = omega arith
floor_some (negsuc a) h = absurd (omega (arith, ints, h))

pub ceil_high : (z : ℤ) → pos 0 ≤ℤ z → z ≤ℤ pos (ceil_root z * ceil_root z)
unfolding ceil_root floor_root
ceil_high (pos a) h = go (nat_le a (root a * root a)) refl
  where
    go : (b : Bool) → nat_le a (root a * root a) ≡ b → pos a ≤ℤ pos (cond b (root a) (root a + 1) * cond b (root a) (root a + 1))
    go true e = let l = leb-true _ _ e in omega (arith, ints, l)
    go false e = let l = (root_is a).high in omega (arith, ints, l)
ceil_high (negsuc a) h = absurd (omega (arith, ints, h))

pub floor_le_ceil : (y z : ℤ) → pos 0 ≤ℤ y → y ≤ℤ z → floor_root y ≤ ceil_root z
unfolding ceil_root floor_root
floor_le_ceil (pos a) (pos b) h k = go (nat_le b (root b * root b))
  where
    l : root a ≤ root b
    l = root_le a b (root a) (root b) (omega (arith, ints, k)) (root_is a).low (root_is b).high

    go : (t : Bool) → root a ≤ cond t (root b) (root b + 1)
    go true = l
    go false = omega (arith, l)
floor_le_ceil (negsuc a) z h k = absurd (omega (arith, ints, h))
floor_le_ceil (pos a) (negsuc b) h k = absurd (omega (arith, ints, k))

pub ceil_exact : (z : ℤ) → pos 0 ≤ℤ z → z ≤ℤ pos (floor_root z * floor_root z) → ceil_root z ≡ floor_root z
unfolding ceil_root floor_root
ceil_exact (pos a) h e = ap (λ (b : Bool). cond b (root a) (root a + 1)) (le-leb a (root a * root a) (omega (arith, ints, e)))
ceil_exact (negsuc a) h e = absurd (omega (arith, ints, h))

pub ceil_above : (z : ℤ) → pos 0 ≤ℤ z → pos (floor_root z * floor_root z) <ℤ z → ceil_root z ≡ floor_root z + 1
unfolding ceil_root floor_root
ceil_above (pos a) h e = ap (λ (b : Bool). cond b (root a) (root a + 1)) (lt-leb a (root a * root a) (omega (arith, ints, e)))
ceil_above (negsuc a) h e = absurd (omega (arith, ints, h))

ceil_small : (z : ℤ) → ceil_root z ≤ floor_root z + 1
unfolding ceil_root
ceil_small z = go (nat_le (unsigned_abs z) (floor_root z * floor_root z))
  where
    go : (b : Bool) → cond b (floor_root z) (floor_root z + 1) ≤ floor_root z + 1
    go true = omega arith
    go false = omega arith

-- ---- in the code
pub root_small : (z : ℤ) → pos 0 ≤ℤ z → SFits w128 z → floor_root z < 2 ^ 64
unfolding floor_root
root_small (pos a) h f = small a (root a) (root_is a).low (omega (arith, ints, f))
root_small (negsuc a) h f = absurd (omega (arith, ints, h))

pub root_held : (z r : ℤ) → pos 0 ≤ℤ z → SFits w128 z → r ≡ pos (floor_root z) → held r ≡ pos (floor_root z)
root_held z r h f e = read r (omega (arith, ints, root_small z h f, e)) e

pub square_fits : (z r : ℤ) → pos 0 ≤ℤ z → SFits w128 z → r ≡ pos (floor_root z) → SFits w128 (r *ℤ r)
square_fits z r h f e =
    let l = floor_low z h in
    subst (λ (t : ℤ). SFits w128 t) (sym (same_product e e)) (omega (arith, ints, l, f))

pub square_held : (z r : ℤ) → pos 0 ≤ℤ z → SFits w128 z → r ≡ pos (floor_root z) → held (r *ℤ r) ≡ pos (floor_root z * floor_root z)
square_held z r h f e = read (r *ℤ r) (square_fits z r h f e) (same_product e e)

pub ceil_held : (z r : ℤ) → pos 0 ≤ℤ z → SFits w128 z → r ≡ pos (ceil_root z) → held r ≡ pos (ceil_root z)
ceil_held z r h f e = read r (omega (arith, ints, root_small z h f, ceil_small z, e)) e
