-- The loop of `dot`: its sums are those of the least and the greatest products, they fit 128 bits, and so do the rounded ends.
use Rattle.std.proofs.Common.{◌≡◌, ℕ, ℤ, pos, neg_ℤ, ◌+◌, ◌*◌, ◌<◌, ◌≤◌, ◌+ℤ◌, ◌-ℤ◌, ◌*ℤ◌, ◌≤ℤ◌, ◌<ℤ◌, List, [], ◌∷◌, ◌++◌, take, length, get_or, arith, ap, sym, subst, ◌∙◌, to_z, of_z}
use Rattle.std.proofs.lemmas.Int.{ints, clamps}
use Rattle.std.proofs.lemmas.List.{take_more, take_all}
use Rattle.std.proofs.lemmas.List.Elements.{All-more}
use Rattle.std.specs.List.{All}
use Rattle.std.specs.Int.{int_div_euclid}
use mir.Syntax.{w128}
use mir.Val.{SFits}
use Rattle.rb_num.specs.Interval.{Interval, IsInterval, interval, grid, limit}
use Rattle.rb_num.specs.Dot.{least_product, greatest_product, ProductsFit, DotFits, dot_of, floor_of, ceil_of, int_sum_by}
use Rattle.rb_num.proofs.Ends.{read}
use Rattle.rb_num.proofs.Quotients.{grid_positive, floor-high, ceil-low, floor-le-ceil}

-- what is known of the two ends of a product
pub record EndsAreOrdered (least greatest : ℤ) : Type 0 where
  pub low : neg_ℤ (pos limit) ≤ℤ least
  pub ordered : least ≤ℤ greatest
  pub high : greatest ≤ℤ pos limit

pub products_ordered : (p : Interval × Interval) → ProductsFit p → EndsAreOrdered (least_product p) (greatest_product p)
unfolding least_product greatest_product
products_ordered p h = record {
  low = omega (arith, ints, clamps);
  ordered = omega (arith, ints, clamps);
  high = omega (arith, ints, clamps);
}

pub int_sum_by_push : {X : Type 0} (f : X → ℤ) (xs : List X) (y : X) → int_sum_by f (xs ++ y ∷ []) ≡ int_sum_by f xs +ℤ f y
int_sum_by_push f [] y = omega (arith, ints)
int_sum_by_push f (x ∷ xs) y = let e = int_sum_by_push f xs y in omega (arith, ints)

pub int_sum_by_more : {X : Type 0} (f : X → ℤ) (xs : List X) (i : ℕ) (d : X) → i < length xs
    → int_sum_by f (take (i + 1) xs) ≡ int_sum_by f (take i xs) +ℤ f (get_or xs i d)
int_sum_by_more f xs i d h =
    ap (int_sum_by f) (take_more xs i d h) ∙ int_sum_by_push f (take i xs) (get_or xs i d)

-- the sums over the first i pairs
pub record SumsAre (ps : List (Interval × Interval)) (i : ℕ) (low high : ℤ) : Type 0 where
  pub fit : All ProductsFit (take i ps)
  pub low_is : low ≡ int_sum_by least_product (take i ps)
  pub high_is : high ≡ int_sum_by greatest_product (take i ps)
  pub low_bound : neg_ℤ (pos (i * limit)) ≤ℤ low
  pub ordered : low ≤ℤ high
  pub high_bound : high ≤ℤ pos (i * limit)

pub record BothFit (a b : ℤ) : Type 0 where
  pub low : SFits w128 a
  pub high : SFits w128 b

pub sums_fit : (ps : List (Interval × Interval)) (i : ℕ) (low high : ℤ) → SumsAre ps i low high → i ≤ 64 → BothFit low high
sums_fit ps i low high s h = record { low = omega (arith, ints, s.low_bound, s.ordered, s.high_bound); high = omega (arith, ints, s.low_bound, s.ordered, s.high_bound) }

-- the sums, read from their bits
pub sums_read : (ps : List (Interval × Interval)) (i : ℕ) (low high a b : ℤ) → SumsAre ps i low high → a ≡ low → b ≡ high → SumsAre ps i a b
sums_read ps i low high a b s p q =
    subst (λ (x : ℤ). SumsAre ps i x b) (sym p) (subst (λ (y : ℤ). SumsAre ps i low y) (sym q) s)

sums_step : (ps : List (Interval × Interval)) (i : ℕ) (low high : ℤ) (p : Interval × Interval) → SumsAre ps i low high → i < length ps
    → p ≡ get_or ps i p → ProductsFit p → SumsAre ps (i + 1) (low +ℤ least_product p) (high +ℤ greatest_product p)
sums_step ps i low high p s h e f =
    let o = products_ordered p f in
    let s1 = s.low_bound in let s2 = s.ordered in let s3 = s.high_bound in
    record {
      fit = All-more ProductsFit ps i p h s.fit (subst ProductsFit e f);
      low_is = ap (λ (x : ℤ). x +ℤ least_product p) s.low_is ∙ ap (λ (q : Interval × Interval). int_sum_by least_product (take i ps) +ℤ least_product q) e ∙ sym (int_sum_by_more least_product ps i p h);
      high_is = ap (λ (x : ℤ). x +ℤ greatest_product p) s.high_is ∙ ap (λ (q : Interval × Interval). int_sum_by greatest_product (take i ps) +ℤ greatest_product q) e ∙ sym (int_sum_by_more greatest_product ps i p h);
      low_bound = omega (arith, ints, o.low);
      ordered = omega (arith, ints, o.ordered);
      high_bound = omega (arith, ints, o.high);
    }

-- one pair more, as the loop adds it
pub sums_more : (ps : List (Interval × Interval)) (i : ℕ) (low high l h : ℤ) (p : Interval × Interval) → SumsAre ps i low high → i < length ps
    → p ≡ get_or ps i p → ProductsFit p × ◌≡◌ {A = ℤ × ℤ} (l, h) (least_product p, greatest_product p)
    → SumsAre ps (i + 1) (low +ℤ to_z w128 (of_z w128 l)) (high +ℤ to_z w128 (of_z w128 h))
sums_more ps i low high l h p s lt e x =
    let el : l ≡ least_product p = ap (λ (t : ℤ × ℤ). t.0) x.1 in
    let eh : h ≡ greatest_product p = ap (λ (t : ℤ × ℤ). t.1) x.1 in
    let o = products_ordered p x.0 in
    let o1 = o.low in let o2 = o.ordered in let o3 = o.high in
    sums_read ps (i + 1) _ _ _ _ (sums_step ps i low high p s lt e x.0)
    (ap (λ (t : ℤ). low +ℤ t) (read l (omega (arith, ints)) el)) (ap (λ (t : ℤ). high +ℤ t) (read h (omega (arith, ints)) eh))

pub quotient_above : (low F : ℤ) (i : ℕ) → i ≤ 64 → neg_ℤ (pos (i * limit)) ≤ℤ low → low <ℤ (F *ℤ pos grid +ℤ pos grid) → neg_ℤ (pos limit) ≤ℤ F
quotient_above low F i h a b = omega (arith, ints)

pub quotient_below : (high C : ℤ) (i : ℕ) → i ≤ 64 → high ≤ℤ pos (i * limit) → (C *ℤ pos grid +ℤ pos 1) ≤ℤ (high +ℤ pos grid) → C ≤ℤ pos limit
quotient_below high C i h a b = omega (arith, ints)

pub record DotIs (ps : List (Interval × Interval)) (lo hi : ℤ) : Type 0 where
  pub invariant : IsInterval lo hi
  pub fits : DotFits ps
  pub value : interval lo hi ≡ dot_of ps

dot_at : (ps : List (Interval × Interval)) (i : ℕ) (low high : ℤ) → SumsAre ps i low high → length ps ≤ i → i ≤ 64
    → DotIs ps (floor_of low grid) (ceil_of high grid)
unfolding dot_of
dot_at ps i low high s all few =
    let whole = take_all i ps all in
    record {
      invariant = record {
        ordered = floor-le-ceil low high grid grid_positive s.ordered;
        low = quotient_above low (floor_of low grid) i few s.low_bound (floor-high low grid grid_positive);
        high = quotient_below high (ceil_of high grid) i few s.high_bound (ceil-low high grid grid_positive);
      };
      fits = record { each = subst (λ (xs : List (Interval × Interval)). All ProductsFit xs) whole s.fit };
      value = ap (λ (x : ℤ). interval (floor_of x grid) (ceil_of high grid)) (s.low_is ∙ ap (int_sum_by least_product) whole)
          ∙ ap (λ (y : ℤ). interval (floor_of (int_sum_by least_product ps) grid) (ceil_of y grid)) (s.high_is ∙ ap (int_sum_by greatest_product) whole);
    }

dot_moved : (ps : List (Interval × Interval)) (a b c d : ℤ) → DotIs ps c d → a ≡ c → b ≡ d → DotIs ps a b
dot_moved ps a b c d h p q = subst (λ (x : ℤ). DotIs ps x b) (sym p) (subst (λ (y : ℤ). DotIs ps c y) (sym q) h)

-- the quotients, as the code computes them
pub dot_is : (ps : List (Interval × Interval)) (i : ℕ) (low high q r : ℤ) → SumsAre ps i low high → length ps ≤ i → i ≤ 64
    → q ≡ int_div_euclid low (pos grid) → r ≡ int_div_euclid (to_z w128 (of_z w128 (pos 0 -ℤ high))) (pos grid)
    → DotIs ps (to_z w128 (of_z w128 q)) (to_z w128 (of_z w128 (pos 0 -ℤ to_z w128 (of_z w128 r))))
dot_is ps i low high q r s all few eq er =
    let d = dot_at ps i low high s all few in
    let v = d.invariant in
    let fits = sums_fit ps i low high s few in
    let turned : to_z w128 (of_z w128 (pos 0 -ℤ high)) ≡ neg_ℤ high = read (pos 0 -ℤ high) (omega (arith, ints, fits.high, s.low_bound, s.ordered)) (omega (arith, ints)) in
    let n : ℤ = int_div_euclid (neg_ℤ high) (pos grid) in
    let er' : r ≡ n = er ∙ ap (λ (t : ℤ). int_div_euclid t (pos grid)) turned in
    let v1 : neg_ℤ (pos limit) ≤ℤ floor_of low grid = v.low in
    let v2 : floor_of low grid ≤ℤ neg_ℤ n = v.ordered in
    let v3 : neg_ℤ n ≤ℤ pos limit = v.high in
    let rr : to_z w128 (of_z w128 r) ≡ n = read r (omega (arith, ints)) er' in
    let hh : to_z w128 (of_z w128 (pos 0 -ℤ to_z w128 (of_z w128 r))) ≡ neg_ℤ n = read (pos 0 -ℤ to_z w128 (of_z w128 r)) (omega (arith, ints)) (omega (arith, ints)) in
    dot_moved ps _ _ _ _ d (read q (omega (arith, ints)) eq) hh
