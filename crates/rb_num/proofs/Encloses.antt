-- What sums of products, sums and negatives of intervals enclose.
use Rattle.std.proofs.Common.{◌≡◌, ℕ, ℤ, pos, ◌*◌, ◌<◌, ◌+ℤ◌, ◌*ℤ◌, ◌≤ℤ◌, List, [], ◌∷◌, arith, subst}
use Rattle.std.proofs.lemmas.Int.{ints, clamps}
use Rattle.std.proofs.Math.Nat.{mul-le-mul_left}
use Rattle.rb_num.specs.Interval.{Interval, grid, negative_of, sum_of}
use Rattle.rb_num.specs.Dot.{least_product, greatest_product, int_sum_by, dot_of, floor_of, ceil_of}
use Rattle.rb_num.proofs.Ring.{at, nat, ◌⊕◌, ◌⊗◌, minus, le_by, le_from, same_by}
use Rattle.rb_num.proofs.Order.{times_pos, above_corners, below_corners}
use Rattle.rb_num.proofs.Quotients.{grid_positive, cancel_pos, floor-low, ceil-high}
use Rattle.rb_frac.specs.Frac as F
use Rattle.rb_frac.specs.Frac.{Frac, fracs}
use Rattle.rb_frac.specs.Pairs.{dot, PairsRelate}
use Rattle.rb_num.specs.Fraction.{LiesIn}

regroup : (a b : ℤ) (m n : ℕ) → (a *ℤ b) *ℤ pos (m * n) ≡ (a *ℤ pos m) *ℤ (b *ℤ pos n)
regroup a b m n = same_by ((at a ⊗ at b) ⊗ nat (m * n)) ((at a ⊗ nat m) ⊗ (at b ⊗ nat n)) (omega arith)

scaled_down : (l a b : ℤ) (m n : ℕ) → l ≤ℤ (a *ℤ b) → (l *ℤ pos (m * n)) ≤ℤ ((a *ℤ pos m) *ℤ (b *ℤ pos n))
scaled_down l a b m n h = subst (λ (t : ℤ). (l *ℤ pos (m * n)) ≤ℤ t) (regroup a b m n) (times_pos l (a *ℤ b) (m * n) h)

scaled_up : (l a b : ℤ) (m n : ℕ) → (a *ℤ b) ≤ℤ l → ((a *ℤ pos m) *ℤ (b *ℤ pos n)) ≤ℤ (l *ℤ pos (m * n))
scaled_up l a b m n h = subst (λ (t : ℤ). t ≤ℤ (l *ℤ pos (m * n))) (regroup a b m n) (times_pos (a *ℤ b) l (m * n) h)

pub pair_above : (f g : Frac) (p : Interval × Interval) → LiesIn f p.0 → LiesIn g p.1
    → (least_product p *ℤ pos (f.den * g.den)) ≤ℤ ((f.num *ℤ pos grid) *ℤ (g.num *ℤ pos grid))
unfolding least_product
pair_above f g p h k =
    above_corners (least_product p *ℤ pos (f.den * g.den)) (p.0.lo *ℤ pos f.den) (p.0.hi *ℤ pos f.den) (p.1.lo *ℤ pos g.den) (p.1.hi *ℤ pos g.den) _ _
    (scaled_down (least_product p) p.0.lo p.1.lo f.den g.den (omega (arith, ints, clamps)))
    (scaled_down (least_product p) p.0.lo p.1.hi f.den g.den (omega (arith, ints, clamps)))
    (scaled_down (least_product p) p.0.hi p.1.lo f.den g.den (omega (arith, ints, clamps)))
    (scaled_down (least_product p) p.0.hi p.1.hi f.den g.den (omega (arith, ints, clamps)))
    h.above h.below k.above k.below

pub pair_below : (f g : Frac) (p : Interval × Interval) → LiesIn f p.0 → LiesIn g p.1
    → ((f.num *ℤ pos grid) *ℤ (g.num *ℤ pos grid)) ≤ℤ (greatest_product p *ℤ pos (f.den * g.den))
unfolding greatest_product
pair_below f g p h k =
    below_corners (greatest_product p *ℤ pos (f.den * g.den)) (p.0.lo *ℤ pos f.den) (p.0.hi *ℤ pos f.den) (p.1.lo *ℤ pos g.den) (p.1.hi *ℤ pos g.den) _ _
    (scaled_up (greatest_product p) p.0.lo p.1.lo f.den g.den (omega (arith, ints, clamps)))
    (scaled_up (greatest_product p) p.0.lo p.1.hi f.den g.den (omega (arith, ints, clamps)))
    (scaled_up (greatest_product p) p.0.hi p.1.lo f.den g.den (omega (arith, ints, clamps)))
    (scaled_up (greatest_product p) p.0.hi p.1.hi f.den g.den (omega (arith, ints, clamps)))
    h.above h.below k.above k.below

-- one more term, where G is the grid
sum_above : (l L nf ng N : ℤ) (d D G : ℕ) → (l *ℤ pos d) ≤ℤ ((nf *ℤ pos G) *ℤ (ng *ℤ pos G)) → (L *ℤ pos D) ≤ℤ ((N *ℤ pos G) *ℤ pos G)
    → ((l +ℤ L) *ℤ pos (d * D)) ≤ℤ ((((nf *ℤ ng) *ℤ pos D +ℤ N *ℤ pos d) *ℤ pos G) *ℤ pos G)
sum_above l L nf ng N d D G h k =
    le_by ((at l ⊕ at L) ⊗ nat (d * D)) (((((at nf ⊗ at ng) ⊗ nat D) ⊕ (at N ⊗ nat d)) ⊗ nat G) ⊗ nat G)
    (omega (
      arith,
      mul-le-mul_left D (le_from (at l ⊗ nat d) ((at nf ⊗ nat G) ⊗ (at ng ⊗ nat G)) h),
      mul-le-mul_left d (le_from (at L ⊗ nat D) ((at N ⊗ nat G) ⊗ nat G) k),
    ))

sum_below : (l L nf ng N : ℤ) (d D G : ℕ) → ((nf *ℤ pos G) *ℤ (ng *ℤ pos G)) ≤ℤ (l *ℤ pos d) → ((N *ℤ pos G) *ℤ pos G) ≤ℤ (L *ℤ pos D)
    → ((((nf *ℤ ng) *ℤ pos D +ℤ N *ℤ pos d) *ℤ pos G) *ℤ pos G) ≤ℤ ((l +ℤ L) *ℤ pos (d * D))
sum_below l L nf ng N d D G h k =
    le_by (((((at nf ⊗ at ng) ⊗ nat D) ⊕ (at N ⊗ nat d)) ⊗ nat G) ⊗ nat G) ((at l ⊕ at L) ⊗ nat (d * D))
    (omega (
      arith,
      mul-le-mul_left D (le_from ((at nf ⊗ nat G) ⊗ (at ng ⊗ nat G)) (at l ⊗ nat d) h),
      mul-le-mul_left d (le_from ((at N ⊗ nat G) ⊗ nat G) (at L ⊗ nat D) k),
    ))

-- the fraction F, scaled twice, lies between l and h
record Between (l h : ℤ) (F : Frac) : Type 0 where
  above : (l *ℤ pos F.den) ≤ℤ ((F.num *ℤ pos grid) *ℤ pos grid)
  below : ((F.num *ℤ pos grid) *ℤ pos grid) ≤ℤ (h *ℤ pos F.den)

sums_between : (ps : List (Interval × Interval)) (fs : List (Frac × Frac)) → PairsRelate LiesIn fs ps
    → Between (int_sum_by least_product ps) (int_sum_by greatest_product ps) (dot fracs fs)
unfolding dot F.add F.mul F.whole
sums_between [] [] h = record { above = omega (arith, ints); below = omega (arith, ints) }
sums_between [] (f ∷ fs) h = absurd h
sums_between (p ∷ ps) [] h = absurd h
sums_between (p ∷ ps) (f ∷ fs) h =
    let rest = sums_between ps fs h.2 in
    record {
      above = sum_above (least_product p) (int_sum_by least_product ps) f.0.num f.1.num (dot fracs fs).num (f.0.den * f.1.den) (dot fracs fs).den grid (pair_above f.0 f.1 p h.0 h.1) rest.above;
      below = sum_below (greatest_product p) (int_sum_by greatest_product ps) f.0.num f.1.num (dot fracs fs).num (f.0.den * f.1.den) (dot fracs fs).den grid (pair_below f.0 f.1 p h.0 h.1) rest.below;
    }

floor_above : (L N : ℤ) (D G : ℕ) → 0 < G → (L *ℤ pos D) ≤ℤ ((N *ℤ pos G) *ℤ pos G) → (floor_of L G *ℤ pos D) ≤ℤ (N *ℤ pos G)
floor_above L N D G p h =
    let q : ℤ = floor_of L G in
    let k : (q *ℤ pos G) ≤ℤ L = floor-low L G p in
    cancel_pos (q *ℤ pos D) (N *ℤ pos G) G p
    (le_by ((at q ⊗ nat D) ⊗ nat G) ((at N ⊗ nat G) ⊗ nat G)
    (omega (arith, le_from (at L ⊗ nat D) ((at N ⊗ nat G) ⊗ nat G) h, mul-le-mul_left D (le_from (at q ⊗ nat G) (at L) k))))

ceil_below : (L N : ℤ) (D G : ℕ) → 0 < G → ((N *ℤ pos G) *ℤ pos G) ≤ℤ (L *ℤ pos D) → (N *ℤ pos G) ≤ℤ (ceil_of L G *ℤ pos D)
ceil_below L N D G p h =
    let q : ℤ = ceil_of L G in
    let k : L ≤ℤ (q *ℤ pos G) = ceil-high L G p in
    cancel_pos (N *ℤ pos G) (q *ℤ pos D) G p
    (le_by ((at N ⊗ nat G) ⊗ nat G) ((at q ⊗ nat D) ⊗ nat G)
    (omega (arith, le_from ((at N ⊗ nat G) ⊗ nat G) (at L ⊗ nat D) h, mul-le-mul_left D (le_from (at L) (at q ⊗ nat G) k))))

pub dot_encloses : (ps : List (Interval × Interval)) (fs : List (Frac × Frac)) → PairsRelate LiesIn fs ps → LiesIn (dot fracs fs) (dot_of ps)
unfolding dot_of
dot_encloses ps fs h =
    let b = sums_between ps fs h in
    record { above = floor_above (int_sum_by least_product ps) (dot fracs fs).num (dot fracs fs).den grid grid_positive b.above; below = ceil_below (int_sum_by greatest_product ps) (dot fracs fs).num (dot fracs fs).den grid grid_positive b.below }

pub negative_encloses : (f : Frac) (v : Interval) → LiesIn f v → LiesIn (F.neg f) (negative_of v)
unfolding F.neg
negative_encloses f v h = record {
  above = le_by (minus (at v.hi) ⊗ nat f.den) (minus (at f.num) ⊗ nat grid) (omega (arith, le_from (at f.num ⊗ nat grid) (at v.hi ⊗ nat f.den) h.below));
  below = le_by (minus (at f.num) ⊗ nat grid) (minus (at v.lo) ⊗ nat f.den) (omega (arith, le_from (at v.lo ⊗ nat f.den) (at f.num ⊗ nat grid) h.above));
}

-- ends of a sum of fractions, one end at a time
module _ (l k n m : ℤ) (d e G : ℕ) where
  sum_end_above : (l *ℤ pos d) ≤ℤ (n *ℤ pos G) → (k *ℤ pos e) ≤ℤ (m *ℤ pos G) → ((l +ℤ k) *ℤ pos (d * e)) ≤ℤ ((n *ℤ pos e +ℤ m *ℤ pos d) *ℤ pos G)
  sum_end_above h i =
      le_by ((at l ⊕ at k) ⊗ nat (d * e)) ((at n ⊗ nat e ⊕ at m ⊗ nat d) ⊗ nat G)
      (omega (arith, mul-le-mul_left e (le_from (at l ⊗ nat d) (at n ⊗ nat G) h), mul-le-mul_left d (le_from (at k ⊗ nat e) (at m ⊗ nat G) i)))

  sum_end_below : (n *ℤ pos G) ≤ℤ (l *ℤ pos d) → (m *ℤ pos G) ≤ℤ (k *ℤ pos e) → ((n *ℤ pos e +ℤ m *ℤ pos d) *ℤ pos G) ≤ℤ ((l +ℤ k) *ℤ pos (d * e))
  sum_end_below h i =
      le_by ((at n ⊗ nat e ⊕ at m ⊗ nat d) ⊗ nat G) ((at l ⊕ at k) ⊗ nat (d * e))
      (omega (arith, mul-le-mul_left e (le_from (at n ⊗ nat G) (at l ⊗ nat d) h), mul-le-mul_left d (le_from (at m ⊗ nat G) (at k ⊗ nat e) i)))

pub sum_encloses : (f g : Frac) (v w : Interval) → LiesIn f v → LiesIn g w → LiesIn (F.add f g) (sum_of v w)
unfolding F.add
sum_encloses f g v w h k = record {
  above = sum_end_above v.lo w.lo f.num g.num f.den g.den grid h.above k.above;
  below = sum_end_below v.hi w.hi f.num g.num f.den g.den grid h.below k.below;
}
