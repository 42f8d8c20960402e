-- What each step from whole intervals to whole intervals encloses.
use Rattle.std.proofs.Common.{◌≡◌, ℕ, ℤ, pos, ◌<◌, ◌-ℤ◌, ◌+ℤ◌, ◌*ℤ◌, neg_ℤ, ◌≤ℤ◌, ◌<ℤ◌, Bool, true, false, cond, [], ◌∷◌, refl, sym, ◌∙◌, ap, subst, arith}
use mathlib.Core.Logic.{◌⊎◌, inl, inr}
use Rattle.std.proofs.lemmas.Int.{ints, clamps, by_lt_z}
use Rattle.std.specs.Int.{int_min, int_max}
use Rattle.rb_frac.proofs.Ring.{Expr, var, enul, plus, times, minus}
use Rattle.rb_frac.proofs.Vec.{nth}
use Rattle.rb_frac.proofs.Rational.{ℚ, ◌+ℚ◌, ◌*ℚ◌, neg_ℚ, 0ℚ, nn_mul, ◌≤ℚ◌}
use Rattle.rb_frac.proofs.Order.{le_trans_ℚ, le_total_ℚ, square_nn, le_refl_ℚ, add_le_ℚ, neg_le_ℚ}
use Rattle.rb_frac.proofs.Interval.{bound}
use Rattle.rb_num.specs.Interval.{Interval, interval, grid, difference_of}
use Rattle.rb_num.specs.Dot.{least_product, greatest_product, floor_of, ceil_of}
use Rattle.rb_num.specs.Quotient.{HasZero}
use Rattle.rb_num.specs.Refusing.{has_zero}
use Rattle.rb_num.proofs.Quotients.{floor-low, ceil-high}
use Rattle.rb_num.proofs.Refused.{decides_zero}
use Rattle.std.specs.Bool.{Decides}
use Rattle.rb_trig.specs.Ends.{outward, products, squares, clamped}
use Rattle.rb_trig.proofs.Numbers.{whole, whole-add, whole-mul, whole-neg, whole-le, le-whole, whole_zero, whole_pos, cancel_ℚ, Holds}

-- ---- products
module _ (m a b c d x y : ℚ) where
  ρ : ℕ → ℚ
  ρ = nth 0ℚ (m ∷ a ∷ b ∷ c ∷ d ∷ x ∷ y ∷ [])

  M : Expr
  M = var 0

  A : Expr
  A = var 1

  B : Expr
  B = var 2

  C : Expr
  C = var 3

  D : Expr
  D = var 4

  X : Expr
  X = var 5

  Y : Expr
  Y = var 6

  infixl 6 ◌⊖◌
  ◌⊖◌ : Expr → Expr → Expr
  e ⊖ f = plus e (minus f)

  -- a number below the four products of ends is below the product
  pub above_corners : m ≤ℚ (a *ℚ c) → m ≤ℚ (a *ℚ d) → m ≤ℚ (b *ℚ c) → m ≤ℚ (b *ℚ d) → a ≤ℚ x → x ≤ℚ b → c ≤ℚ y → y ≤ℚ d → m ≤ℚ (x *ℚ y)
  unfolding ρ M A B C D X Y ◌⊖◌
  above_corners ac ad bc bd p q r s = by_y (le_total_ℚ 0ℚ y)
    where
      by_a : 0ℚ ≤ℚ y → (0ℚ ≤ℚ a) ⊎ (a ≤ℚ 0ℚ) → m ≤ℚ (x *ℚ y)
      by_a u (inl v) = bound ρ M (times X Y) (times (Y ⊖ enul) (X ⊖ A) ∷ times (A ⊖ enul) (Y ⊖ C) ∷ (times A C ⊖ M) ∷ []) [] refl (nn_mul _ _ u.le p.le, (nn_mul _ _ v.le r.le, (ac.le, tt))) tt
      by_a u (inr v) = bound ρ M (times X Y) (times (Y ⊖ enul) (X ⊖ A) ∷ times (enul ⊖ A) (D ⊖ Y) ∷ (times A D ⊖ M) ∷ []) [] refl (nn_mul _ _ u.le p.le, (nn_mul _ _ v.le s.le, (ad.le, tt))) tt

      by_b : y ≤ℚ 0ℚ → (0ℚ ≤ℚ b) ⊎ (b ≤ℚ 0ℚ) → m ≤ℚ (x *ℚ y)
      by_b u (inl v) = bound ρ M (times X Y) (times (enul ⊖ Y) (B ⊖ X) ∷ times (B ⊖ enul) (Y ⊖ C) ∷ (times B C ⊖ M) ∷ []) [] refl (nn_mul _ _ u.le q.le, (nn_mul _ _ v.le r.le, (bc.le, tt))) tt
      by_b u (inr v) = bound ρ M (times X Y) (times (enul ⊖ Y) (B ⊖ X) ∷ times (enul ⊖ B) (D ⊖ Y) ∷ (times B D ⊖ M) ∷ []) [] refl (nn_mul _ _ u.le q.le, (nn_mul _ _ v.le s.le, (bd.le, tt))) tt

      by_y : (0ℚ ≤ℚ y) ⊎ (y ≤ℚ 0ℚ) → m ≤ℚ (x *ℚ y)
      by_y (inl u) = by_a u (le_total_ℚ 0ℚ a)
      by_y (inr u) = by_b u (le_total_ℚ 0ℚ b)

  pub below_corners : (a *ℚ c) ≤ℚ m → (a *ℚ d) ≤ℚ m → (b *ℚ c) ≤ℚ m → (b *ℚ d) ≤ℚ m → a ≤ℚ x → x ≤ℚ b → c ≤ℚ y → y ≤ℚ d → (x *ℚ y) ≤ℚ m
  unfolding ρ M A B C D X Y ◌⊖◌
  below_corners ac ad bc bd p q r s = by_y (le_total_ℚ 0ℚ y)
    where
      by_b : 0ℚ ≤ℚ y → (0ℚ ≤ℚ b) ⊎ (b ≤ℚ 0ℚ) → (x *ℚ y) ≤ℚ m
      by_b u (inl v) = bound ρ (times X Y) M (times (Y ⊖ enul) (B ⊖ X) ∷ times (B ⊖ enul) (D ⊖ Y) ∷ (M ⊖ times B D) ∷ []) [] refl (nn_mul _ _ u.le q.le, (nn_mul _ _ v.le s.le, (bd.le, tt))) tt
      by_b u (inr v) = bound ρ (times X Y) M (times (Y ⊖ enul) (B ⊖ X) ∷ times (enul ⊖ B) (Y ⊖ C) ∷ (M ⊖ times B C) ∷ []) [] refl (nn_mul _ _ u.le q.le, (nn_mul _ _ v.le r.le, (bc.le, tt))) tt

      by_a : y ≤ℚ 0ℚ → (0ℚ ≤ℚ a) ⊎ (a ≤ℚ 0ℚ) → (x *ℚ y) ≤ℚ m
      by_a u (inl v) = bound ρ (times X Y) M (times (enul ⊖ Y) (X ⊖ A) ∷ times (A ⊖ enul) (D ⊖ Y) ∷ (M ⊖ times A D) ∷ []) [] refl (nn_mul _ _ u.le p.le, (nn_mul _ _ v.le s.le, (ad.le, tt))) tt
      by_a u (inr v) = bound ρ (times X Y) M (times (enul ⊖ Y) (X ⊖ A) ∷ times (enul ⊖ A) (Y ⊖ C) ∷ (M ⊖ times A C) ∷ []) [] refl (nn_mul _ _ u.le p.le, (nn_mul _ _ v.le r.le, (ac.le, tt))) tt

      by_y : (0ℚ ≤ℚ y) ⊎ (y ≤ℚ 0ℚ) → (x *ℚ y) ≤ℚ m
      by_y (inl u) = by_b u (le_total_ℚ 0ℚ b)
      by_y (inr u) = by_a u (le_total_ℚ 0ℚ a)

product-le : (m a b : ℤ) → m ≤ℤ (a *ℤ b) → whole m ≤ℚ (whole a *ℚ whole b)
product-le m a b h = subst (λ (q : ℚ). whole m ≤ℚ q) (whole-mul a b) (whole-le m (a *ℤ b) h)

le-product : (m a b : ℤ) → (a *ℤ b) ≤ℤ m → (whole a *ℚ whole b) ≤ℚ whole m
le-product m a b h = subst (λ (q : ℚ). q ≤ℚ whole m) (whole-mul a b) (whole-le (a *ℤ b) m h)

pub products_hold : (a b : Interval) (x y : ℚ) → Holds a x → Holds b y → Holds (products a b) (x *ℚ y)
unfolding products least_product greatest_product
products_hold a b x y h k = record {
  low = above_corners (whole (least_product (a, b))) (whole a.lo) (whole a.hi) (whole b.lo) (whole b.hi) x y
      (product-le _ a.lo b.lo (omega (arith, ints, clamps))) (product-le _ a.lo b.hi (omega (arith, ints, clamps)))
      (product-le _ a.hi b.lo (omega (arith, ints, clamps))) (product-le _ a.hi b.hi (omega (arith, ints, clamps)))
      h.low h.high k.low k.high;
  high = below_corners (whole (greatest_product (a, b))) (whole a.lo) (whole a.hi) (whole b.lo) (whole b.hi) x y
      (le-product _ a.lo b.lo (omega (arith, ints, clamps))) (le-product _ a.lo b.hi (omega (arith, ints, clamps)))
      (le-product _ a.hi b.lo (omega (arith, ints, clamps))) (le-product _ a.hi b.hi (omega (arith, ints, clamps)))
      h.low h.high k.low k.high;
}

-- ---- rounding
pub outward_holds : (v : Interval) (n : ℕ) (q : ℚ) → 0 < n → Holds v (q *ℚ whole (pos n)) → Holds (outward v (pos n)) q
unfolding outward
outward_holds v n q p h = record {
  low = cancel_ℚ (whole (floor_of v.lo n)) q (whole (pos n)) (whole_pos n p)
      (le_trans_ℚ (le-product v.lo (floor_of v.lo n) (pos n) (floor-low v.lo n p)) h.low);
  high = cancel_ℚ q (whole (ceil_of v.hi n)) (whole (pos n)) (whole_pos n p)
      (le_trans_ℚ h.high (product-le v.hi (ceil_of v.hi n) (pos n) (ceil-high v.hi n p)));
}

-- ---- squares
module _ (a x : ℚ) where
  σ : ℕ → ℚ
  σ = nth 0ℚ (a ∷ x ∷ [])

  -- further from zero on the same side, the square is greater
  square_above : 0ℚ ≤ℚ a → a ≤ℚ x → (a *ℚ a) ≤ℚ (x *ℚ x)
  unfolding σ
  square_above h k = bound σ (times (var 0) (var 0)) (times (var 1) (var 1)) (times d d ∷ times e d ∷ times e d ∷ []) [] refl (nn_mul _ _ k.le k.le, (nn_mul _ _ h.le k.le, (nn_mul _ _ h.le k.le, tt))) tt
    where
      d : Expr
      d = plus (var 1) (minus (var 0))

      e : Expr
      e = plus (var 0) (minus enul)

  square_below : a ≤ℚ 0ℚ → x ≤ℚ a → (a *ℚ a) ≤ℚ (x *ℚ x)
  unfolding σ
  square_below h k = bound σ (times (var 0) (var 0)) (times (var 1) (var 1)) (times d d ∷ times e d ∷ times e d ∷ []) [] refl (nn_mul _ _ k.le k.le, (nn_mul _ _ h.le k.le, (nn_mul _ _ h.le k.le, tt))) tt
    where
      d : Expr
      d = plus (var 0) (minus (var 1))

      e : Expr
      e = plus enul (minus (var 0))

nonneg : (z : ℤ) → pos 0 ≤ℤ z → 0ℚ ≤ℚ whole z
nonneg z h = subst (λ (q : ℚ). q ≤ℚ whole z) whole_zero (whole-le (pos 0) z h)

nonpos : (z : ℤ) → z ≤ℤ pos 0 → whole z ≤ℚ 0ℚ
nonpos z h = subst (λ (q : ℚ). whole z ≤ℚ q) whole_zero (whole-le z (pos 0) h)

least_square_holds : (v : Interval) (q : ℚ) → Holds v q → (b : Bool) → Decides b (HasZero v) → whole (cond b (pos 0) (int_min (v.lo *ℤ v.lo) (v.hi *ℤ v.hi))) ≤ℚ (q *ℚ q)
least_square_holds v q h true d = subst (λ (r : ℚ). r ≤ℚ (q *ℚ q)) (sym whole_zero) (square_nn q)
least_square_holds v q h false d = by_lt_z (pos 0) v.lo
    (λ (l : pos 0 <ℤ v.lo). le_trans_ℚ (product-le _ v.lo v.lo (omega (arith, ints, clamps))) (square_above (whole v.lo) q (nonneg v.lo (omega (arith, ints, l))) h.low))
    (λ (l : v.lo ≤ℤ pos 0). le_trans_ℚ (product-le _ v.hi v.hi (omega (arith, ints, clamps))) (square_below (whole v.hi) q (nonpos v.hi (below l)) h.high))
  where
    below : v.lo ≤ℤ pos 0 → v.hi ≤ℤ pos 0
    below l = by_lt_z v.hi (pos 0) (λ (k : v.hi <ℤ pos 0). omega (arith, ints, k)) (λ (k : pos 0 ≤ℤ v.hi). absurd (no (d.1 record { low = l; high = k })))
      where
        no : false ≡ true → ⊥
        no e = cc

pub squares_hold : (v : Interval) (q : ℚ) → Holds v q → Holds (squares v) (q *ℚ q)
unfolding squares
squares_hold v q h = record { low = least_square_holds v q h (has_zero v) (decides_zero v); high = above (le_total_ℚ 0ℚ q) }
  where
    above : (0ℚ ≤ℚ q) ⊎ (q ≤ℚ 0ℚ) → (q *ℚ q) ≤ℚ whole (int_max (v.lo *ℤ v.lo) (v.hi *ℤ v.hi))
    above (inl s) = le_trans_ℚ (square_above q (whole v.hi) s h.high) (le-product _ v.hi v.hi (omega (arith, ints, clamps)))
    above (inr s) = le_trans_ℚ (square_below q (whole v.lo) s h.low) (le-product _ v.lo v.lo (omega (arith, ints, clamps)))

-- ---- a difference from a whole number
pub difference_holds : (n : ℤ) (v : Interval) (q : ℚ) → Holds v q → Holds (difference_of (interval n n) v) (whole n +ℚ neg_ℚ q)
difference_holds n v q h = record {
  low = subst (λ (r : ℚ). r ≤ℚ (whole n +ℚ neg_ℚ q)) (sym (less n v.hi)) (add_le_ℚ (le_refl_ℚ (whole n)) (neg_le_ℚ h.high));
  high = subst (λ (r : ℚ). (whole n +ℚ neg_ℚ q) ≤ℚ r) (sym (less n v.lo)) (add_le_ℚ (le_refl_ℚ (whole n)) (neg_le_ℚ h.low));
}
  where
    as_sum : (a b : ℤ) → a -ℤ b ≡ a +ℤ neg_ℤ b
    as_sum a b = omega (arith, ints)

    less : (a b : ℤ) → whole (a -ℤ b) ≡ whole a +ℚ neg_ℚ (whole b)
    less a b = ap whole (as_sum a b) ∙ whole-add a (neg_ℤ b) ∙ ap (λ (t : ℚ). whole a +ℚ t) (whole-neg b)

-- ---- the clamp
clamp-le : (l g : ℤ) (q : ℚ) → whole l ≤ℚ q → whole (neg_ℤ g) ≤ℚ q → whole (int_max (neg_ℤ g) (int_min l g)) ≤ℚ q
clamp-le l g q h k = by_lt_z (neg_ℤ g) l
    (λ (c : neg_ℤ g <ℤ l). le_trans_ℚ (whole-le _ l (omega (arith, ints, clamps, c))) h)
    (λ (c : l ≤ℤ neg_ℤ g). le_trans_ℚ (whole-le _ (neg_ℤ g) (omega (arith, ints, clamps, c))) k)

le-clamp : (l g : ℤ) (q : ℚ) → q ≤ℚ whole l → q ≤ℚ whole g → q ≤ℚ whole (int_max (neg_ℤ g) (int_min l g))
le-clamp l g q h k = by_lt_z l g
    (λ (c : l <ℤ g). le_trans_ℚ h (whole-le l _ (omega (arith, ints, clamps, c))))
    (λ (c : g ≤ℤ l). le_trans_ℚ k (whole-le g _ (omega (arith, ints, clamps, c))))

pub clamped_holds : (v : Interval) (q : ℚ) → Holds v q → whole (neg_ℤ (pos grid)) ≤ℚ q → q ≤ℚ whole (pos grid) → Holds (clamped v) q
unfolding clamped
clamped_holds v q h a b = record { low = clamp-le v.lo (pos grid) q h.low a; high = le-clamp v.hi (pos grid) q h.high b }

pub clamped_top : (v : Interval) (q : ℚ) → Holds v q → whole (pos grid) ≤ℚ q → Holds (clamped v) (whole (pos grid))
unfolding clamped
clamped_top v q h a =
    let k : pos grid ≤ℤ v.hi = le-whole (pos grid) v.hi (le_trans_ℚ a h.high) in
    record { low = whole-le _ _ (omega (arith, ints, clamps)); high = whole-le _ _ (omega (arith, ints, clamps, k)) }

pub clamped_bottom : (v : Interval) (q : ℚ) → Holds v q → q ≤ℚ whole (neg_ℤ (pos grid)) → Holds (clamped v) (whole (neg_ℤ (pos grid)))
unfolding clamped
clamped_bottom v q h a =
    let k : v.lo ≤ℤ neg_ℤ (pos grid) = le-whole v.lo (neg_ℤ (pos grid)) (le_trans_ℚ h.low a) in
    record { low = whole-le _ _ (omega (arith, ints, clamps, k)); high = whole-le _ _ (omega (arith, ints, clamps)) }
