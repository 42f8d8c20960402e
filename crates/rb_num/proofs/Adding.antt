-- Sums of products, pair by pair.
use Rattle.std.proofs.Common.{◌≡◌, ℕ, ℤ, pos, neg_ℤ, ◌+◌, ◌-◌, ◌<◌, ◌+ℤ◌, ◌-ℤ◌, ◌*ℤ◌, ◌≤ℤ◌, ◌^◌, List, ◌∷◌, arith, ap, sym, subst, refl, ◌∙◌, to_z, of_z, Ok}
use Rattle.std.proofs.lemmas.Int.{ints, clamps, to_z-of_z}
use Rattle.std.proofs.lemmas.List.Elements.{All-cons}
use mir.Syntax.{w64, w128}
use mir.Val.{SFits}
use Rattle.rb_frac.proofs.Whole.{neg-mul}
use Rattle.rb_num.specs.Interval.{Interval, IsInterval, IsWithin, interval, grid, negative_of}
use Rattle.rb_num.specs.Dot.{least_product, greatest_product, ProductsFit, floor_of, ceil_of, int_sum_by, iv_dot, dot_of}
use Rattle.rb_num.specs.Narrow.{IsNarrow}
use Rattle.rb_num.specs.Reciprocal.{IsNear}
use Rattle.rb_num.specs.Sums.{Totals, AreBounded, AreSums, AreNear, plus, rounded}
use Rattle.rb_num.proofs.Ends.{read, both}
use Rattle.rb_num.proofs.Quotients.{grid_positive, floor-low, floor-high, ceil-low, ceil-high, floor-le-ceil}
use Rattle.rb_num.proofs.Dots.{products_ordered, quotient_above, quotient_below}
use Rattle.rb_num.proofs.Refused.{ok_is}

abbrev pub totals : ℤ → ℤ → ℕ → Totals
totals low high count = record { low = low; high = high; count = count }

-- sums as the code has them, in 128 bits
pub record Made (low high : ℤ) (count : ℕ) (t : Totals) : Type 0 where
  pub fits_low : SFits w128 low
  pub fits_high : SFits w128 high
  pub bounded : AreBounded (to_z w128 (of_z w128 low)) (to_z w128 (of_z w128 high)) count
  pub same : ◌≡◌ {A = Totals} (record { low = to_z w128 (of_z w128 low); high = to_z w128 (of_z w128 high); count = count }) t

made_of : (a b c d : ℤ) (n : ℕ) (t : Totals) → a ≡ c → b ≡ d → AreBounded c d n → totals c d n ≡ t → Made a b n t
made_of a b c d n t p q h e =
    let h1 = h.below in let h2 = h.ordered in let h3 = h.above in let h4 = h.few in
    let ra : to_z w128 (of_z w128 a) ≡ c = read a (omega (arith, ints)) p in
    let rb : to_z w128 (of_z w128 b) ≡ d = read b (omega (arith, ints)) q in
    record {
      fits_low = omega (arith, ints);
      fits_high = omega (arith, ints);
      bounded = subst (λ (x : ℤ). AreBounded x (to_z w128 (of_z w128 b)) n) (sym ra) (subst (λ (y : ℤ). AreBounded c y n) (sym rb) h);
      same = ap (λ (x : ℤ). totals x (to_z w128 (of_z w128 b)) n) ra ∙ ap (λ (y : ℤ). totals c y n) rb ∙ e;
    }

-- what is known of a pair and of its two products
abbrev pub AreEnds : ℤ → ℤ → Interval × Interval → Type 0
AreEnds l h p = ProductsFit p × ◌≡◌ {A = ℤ × ℤ} (l, h) (least_product p, greatest_product p)

-- one more pair, as it is added
pub with_made : (l h sl sh : ℤ) (n : ℕ) (p : Interval × Interval) (t : Totals) → AreEnds l h p → AreBounded sl sh n → t.count < 64 → totals sl sh n ≡ t
    → Made (to_z w128 (of_z w128 l) +ℤ to_z w128 (of_z w128 sl)) (to_z w128 (of_z w128 h) +ℤ to_z w128 (of_z w128 sh)) (n + 1) (plus p t)
with_made l h sl sh n p t x b few e =
    let many : n ≡ t.count = ap (λ (u : Totals). u.count) e in
    let el : l ≡ least_product p = ap (λ (z : ℤ × ℤ). z.0) x.1 in
    let eh : h ≡ greatest_product p = ap (λ (z : ℤ × ℤ). z.1) x.1 in
    let o = products_ordered p x.0 in
    let o1 = o.low in let o2 = o.ordered in let o3 = o.high in
    let b1 = b.below in let b2 = b.ordered in let b3 = b.above in
    let rl : to_z w128 (of_z w128 l) ≡ least_product p = read l (omega (arith, ints)) el in
    let rh : to_z w128 (of_z w128 h) ≡ greatest_product p = read h (omega (arith, ints)) eh in
    let rsl : to_z w128 (of_z w128 sl) ≡ sl = read sl (omega (arith, ints)) refl in
    let rsh : to_z w128 (of_z w128 sh) ≡ sh = read sh (omega (arith, ints)) refl in
    let bounds : AreBounded (least_product p +ℤ sl) (greatest_product p +ℤ sh) (n + 1) =
    record { below = omega (arith, ints); ordered = omega (arith, ints); above = omega (arith, ints); few = omega arith } in
    made_of _ _ (least_product p +ℤ sl) (greatest_product p +ℤ sh) (n + 1) (plus p t) (both ◌+ℤ◌ rl rsl) (both ◌+ℤ◌ rh rsh) bounds (ap (plus p) e)

-- the products of the negative of a and of b
negative_ends : (a b : Interval) → (least_product (negative_of a, b) ≡ neg_ℤ (greatest_product (a, b))) × (greatest_product (negative_of a, b) ≡ neg_ℤ (least_product (a, b)))
unfolding least_product greatest_product
negative_ends a b =
    let ll = neg-mul a.lo b.lo in let lh = neg-mul a.lo b.hi in let hl = neg-mul a.hi b.lo in let hh = neg-mul a.hi b.hi in
    (omega (arith, ints, clamps), omega (arith, ints, clamps))

pub negative_fits : (a b : Interval) → ProductsFit (a, b) → ProductsFit (negative_of a, b)
negative_fits a b f = record {
  lo_lo = turned a.hi b.lo f.hi_lo;
  lo_hi = turned a.hi b.hi f.hi_hi;
  hi_lo = turned a.lo b.lo f.lo_lo;
  hi_hi = turned a.lo b.hi f.lo_hi;
}
  where
    turned : (x y : ℤ) → IsWithin (x *ℤ y) → IsWithin (neg_ℤ x *ℤ y)
    turned x y w = let e = neg-mul x y in let w1 = w.above in let w2 = w.below in record { above = omega (arith, ints); below = omega (arith, ints) }

-- one more pair, as it is taken off
pub less_made : (l h sl sh : ℤ) (n : ℕ) (a b : Interval) (t : Totals) → AreEnds l h (a, b) → AreBounded sl sh n → t.count < 64 → totals sl sh n ≡ t
    → Made (to_z w128 (of_z w128 sl) -ℤ to_z w128 (of_z w128 h)) (to_z w128 (of_z w128 sh) -ℤ to_z w128 (of_z w128 l)) (n + 1) (plus (negative_of a, b) t)
less_made l h sl sh n a b t x f few e =
    let many : n ≡ t.count = ap (λ (u : Totals). u.count) e in
    let el : l ≡ least_product (a, b) = ap (λ (z : ℤ × ℤ). z.0) x.1 in
    let eh : h ≡ greatest_product (a, b) = ap (λ (z : ℤ × ℤ). z.1) x.1 in
    let o = products_ordered (a, b) x.0 in
    let o1 = o.low in let o2 = o.ordered in let o3 = o.high in
    let b1 = f.below in let b2 = f.ordered in let b3 = f.above in
    let turned = negative_ends a b in
    let tl = turned.0 in let th = turned.1 in
    let rl : to_z w128 (of_z w128 l) ≡ least_product (a, b) = read l (omega (arith, ints)) el in
    let rh : to_z w128 (of_z w128 h) ≡ greatest_product (a, b) = read h (omega (arith, ints)) eh in
    let rsl : to_z w128 (of_z w128 sl) ≡ sl = read sl (omega (arith, ints)) refl in
    let rsh : to_z w128 (of_z w128 sh) ≡ sh = read sh (omega (arith, ints)) refl in
    let p : Interval × Interval = (negative_of a, b) in
    let bounds : AreBounded (least_product p +ℤ sl) (greatest_product p +ℤ sh) (n + 1) =
    record { below = omega (arith, ints); ordered = omega (arith, ints); above = omega (arith, ints); few = omega arith } in
    made_of _ _ (least_product p +ℤ sl) (greatest_product p +ℤ sh) (n + 1) (plus p t) (omega (arith, ints)) (omega (arith, ints)) bounds (ap (plus p) e)

-- what they are the sums of
pub sums_plus : (p : Interval × Interval) (t : Totals) → ProductsFit p → (pairs : List (Interval × Interval)) → AreSums pairs t → AreSums (p ∷ pairs) (plus p t)
sums_plus p t f pairs s =
    let c = s.count in
    record {
      each = All-cons ProductsFit p pairs f s.each;
      low = ap (λ (z : ℤ). least_product p +ℤ z) s.low;
      high = ap (λ (z : ℤ). greatest_product p +ℤ z) s.high;
      count = omega arith;
    }

pub sums_made : (p : Interval × Interval) (t u : Totals) → u ≡ plus p t → ProductsFit p → (pairs : List (Interval × Interval)) → AreSums pairs t → AreSums (p ∷ pairs) u
sums_made p t u e f pairs s = subst (AreSums (p ∷ pairs)) (sym e) (sums_plus p t f pairs s)

-- rounded
pub rounded_ends : (low high : ℤ) (n : ℕ) → AreBounded low high n → IsInterval (floor_of low grid) (ceil_of high grid)
rounded_ends low high n b =
    let few = b.few in
    record {
      ordered = floor-le-ceil low high grid grid_positive b.ordered;
      low = quotient_above low (floor_of low grid) n (omega arith) b.below (floor-high low grid grid_positive);
      high = quotient_below high (ceil_of high grid) n (omega arith) b.above (ceil-low high grid grid_positive);
    }

-- an end that fits 64 bits, as the code finds it and reads it
read_narrow : (z : ℤ) {y : ℤ} → neg_ℤ (pos (2 ^ 60)) ≤ℤ y → y ≤ℤ pos (2 ^ 60) → z ≡ y → to_z w64 (of_z w64 (to_z w128 (of_z w128 z))) ≡ y
read_narrow z {y} low high e =
    let r : to_z w128 (of_z w128 z) ≡ y = read z (omega (arith, ints)) e in
    to_z-of_z w64 (to_z w128 (of_z w128 z)) (omega (arith, ints)) ∙ r

-- near sums round to ends that are not large
near_floor : (z : ℤ) → IsNear grid z → (neg_ℤ (pos (2 ^ 60)) ≤ℤ floor_of z grid) × (floor_of z grid ≤ℤ pos (2 ^ 60))
near_floor z n =
    let n1 = n.above in let n2 = n.below in
    let below = floor-low z grid grid_positive in
    let above = floor-high z grid grid_positive in
    (omega (arith, ints), omega (arith, ints))

near_ceil : (z : ℤ) → IsNear grid (z +ℤ pos (grid - 1)) → (neg_ℤ (pos (2 ^ 60)) ≤ℤ ceil_of z grid) × (ceil_of z grid ≤ℤ pos (2 ^ 60))
near_ceil z n =
    let n1 = n.above in let n2 = n.below in
    let below = ceil-low z grid grid_positive in
    let above = ceil-high z grid grid_positive in
    (omega (arith, ints), omega (arith, ints))

-- rounded, as the code finds them
pub record AreRounded (q r : ℤ) (t : Totals) : Type 0 where
  pub near : AreNear t
  pub narrow : IsNarrow (to_z w64 (of_z w64 (to_z w128 (of_z w128 q)))) (to_z w64 (of_z w64 (to_z w128 (of_z w128 r))))
  pub value : interval (to_z w64 (of_z w64 (to_z w128 (of_z w128 q)))) (to_z w64 (of_z w64 (to_z w128 (of_z w128 r)))) ≡ rounded t

rounded_at : (low high q r : ℤ) (n : ℕ) → AreBounded low high n → IsNear grid low × (q ≡ floor_of low grid) → IsNear grid (high +ℤ pos (grid - 1)) × (r ≡ ceil_of high grid)
    → AreRounded q r (totals low high n)
rounded_at low high q r n b eq er =
    let v = rounded_ends low high n b in
    let v2 : floor_of low grid ≤ℤ ceil_of high grid = v.ordered in
    let fl = near_floor low eq.0 in
    let fh = near_ceil high er.0 in
    let f1 = fl.0 in let f2 = fl.1 in let h1 = fh.0 in let h2 = fh.1 in
    let rq = read_narrow q f1 f2 eq.1 in
    let rr = read_narrow r h1 h2 er.1 in
    record {
      near = record { low = eq.0; high = er.0 };
      narrow = record { ordered = omega (arith, ints); low = omega (arith, ints); high = omega (arith, ints) };
      value = ap (λ (x : ℤ). interval x (to_z w64 (of_z w64 (to_z w128 (of_z w128 r))))) rq ∙ ap (λ (y : ℤ). interval (floor_of low grid) y) rr;
    }

pub rounded_made : (low high q r : ℤ) (n : ℕ) (t : Totals) → AreBounded low high n → totals low high n ≡ t
    → IsNear grid (to_z w128 (of_z w128 low)) × (q ≡ floor_of (to_z w128 (of_z w128 low)) grid)
    → IsNear grid (to_z w128 (of_z w128 high) +ℤ pos (grid - 1)) × (r ≡ ceil_of (to_z w128 (of_z w128 high)) grid)
    → AreRounded q r t
rounded_made low high q r n t b e eq er =
    let b1 = b.below in let b2 = b.ordered in let b3 = b.above in let b4 = b.few in
    let rl : to_z w128 (of_z w128 low) ≡ low = read low (omega (arith, ints)) refl in
    let rh : to_z w128 (of_z w128 high) ≡ high = read high (omega (arith, ints)) refl in
    subst (AreRounded q r) e
    (rounded_at low high q r n b (subst (λ (z : ℤ). IsNear grid z × (q ≡ floor_of z grid)) rl eq) (subst (λ (z : ℤ). IsNear grid (z +ℤ pos (grid - 1)) × (r ≡ ceil_of z grid)) rh er))

pub rounded_sums : (pairs : List (Interval × Interval)) (t : Totals) → AreSums pairs t → iv_dot pairs ≡ Ok (rounded t)
unfolding dot_of
rounded_sums pairs t s =
    sym (ok_is pairs (rounded t) record { each = s.each } (ap (λ (x : ℤ). interval (floor_of x grid) (ceil_of t.high grid)) s.low ∙ ap (λ (y : ℤ). interval (floor_of (int_sum_by least_product pairs) grid) (ceil_of y grid)) s.high))
