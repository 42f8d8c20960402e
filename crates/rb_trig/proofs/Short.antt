-- The nested products in 64 bits: numbers that are not negative, and at most the scale.
use Rattle.std.proofs.Common.{◌≡◌, ℕ, zero, suc, ◌+◌, ◌-◌, ◌*◌, ◌/◌, ◌^◌, ◌<◌, ◌≤◌, ℤ, pos, negsuc, ◌-ℤ◌, ◌*ℤ◌, ◌≤ℤ◌, refl, sym, ◌∙◌, ap, subst, arith, to_z}
use mir.Syntax.{w128}
use lib.IntN.{nat_abs}
use Rattle.std.proofs.lemmas.Int.{ints}
use Rattle.std.proofs.lemmas.Nat.{mul-le}
use Rattle.rb_num.specs.Interval.{Interval, interval, limit}
use Rattle.rb_num.specs.Dot.{floor_of, ceil_of, least_product, greatest_product}
use Rattle.rb_num.proofs.Ends.{read}
use Rattle.rb_num.proofs.Quotients.{floor-le-ceil}
use Rattle.rb_num.proofs.Signs.{positive_least_above, positive_greatest_above}
use Rattle.rb_trig.specs.declared.sine.Series.{Series}
use Rattle.rb_trig.specs.declared.sine.Series.TheVariants.{Sine, Cosine}
use Rattle.rb_trig.specs.Ends.{outward, products}
use Rattle.rb_trig.specs.Short.{ShortNested}
use Rattle.rb_trig.specs.Sine.{scale, divisor, step, nested, IsSquare}
use Rattle.rb_trig.proofs.Nested.{nested_start, nested_more}
use Rattle.rb_trig.proofs.Parts.{short_read}
use Rattle.rb_trig.proofs.Read.{held, Makes}
use Rattle.rb_trig.proofs.Sizes.{some_divisor, nested_within}

-- ---- casts
cast : (r : ℤ) (n : ℕ) → r ≡ pos n → n < 2 ^ 126 → nat_abs (held r) ≡ n
cast r n e h = ap nat_abs (read r (omega (arith, ints, e, h)) e)

end_cast : (r y : ℤ) → r ≡ y → pos 0 ≤ℤ y → y ≤ℤ pos limit → pos (nat_abs (held r)) ≡ y
end_cast r (pos n) e l h = ap pos (cast r n e (omega (arith, ints, h)))
end_cast r (negsuc n) e l h = absurd (omega (arith, ints, l))

few_divisors : (s : Series) (k : ℕ) → k < 2 ^ 10 → divisor s k < 2 ^ 25
unfolding divisor
few_divisors Sine k h = let l : 2 * k * (2 * k + 1) ≤ 2 ^ 11 * 2 ^ 11 = mul-le (2 * k) (2 * k + 1) (2 ^ 11) (2 ^ 11) (omega arith) (omega arith) in omega arith
few_divisors Cosine k h = let l : (2 * k - 1) * (2 * k) ≤ 2 ^ 11 * 2 ^ 11 = mul-le (2 * k - 1) (2 * k) (2 ^ 11) (2 ^ 11) (omega arith) (omega arith) in omega arith

-- ---- what a step divides by
pub divider_low : (s : Series) (k d : ℕ) → 1 ≤ k → 2 ^ 16 * d ≡ scale * divisor s k → 2 ^ 37 ≤ d
divider_low s k d h e = omega (arith, some_divisor s k h, e)

pub divider_high : (s : Series) (k d : ℕ) → k < 2 ^ 10 → 2 ^ 16 * d ≡ scale * divisor s k → d < 2 ^ 63
divider_high s k d h e = omega (arith, few_divisors s k h, e)

-- ---- the loop
pub short_start : (s : Series) (u : Interval) (n : ℕ) → 1 ≤ n → ShortNested s u n n scale scale
short_start s u n h = let p = nested_start s u (interval (pos scale) (pos scale)) n h refl in record { some = p.some; value = p.value; high = omega arith }

pub short_ordered : (s : Series) (u : Interval) (n k lo hi : ℕ) → IsSquare u → ShortNested s u n k lo hi → lo ≤ hi
short_ordered s u n k lo hi h i =
    let o : pos lo ≤ℤ pos hi = subst (λ (v : Interval). v.lo ≤ℤ v.hi) (sym i.value) (nested_within s u (n - k) k h i.some).ordered in
    omega (arith, ints, o)

pub short_ends : (s : Series) (u : Interval) (n k lo hi : ℕ) → IsSquare u → ShortNested s u n k lo hi → Makes (nested s u k (n - k)) (to_z w128 lo) (to_z w128 hi)
short_ends s u n k lo hi h i =
    let o = short_ordered s u n k lo hi h i in
    short_read (nested s u k (n - k)) lo hi
    (record { whole = record { ordered = omega (arith, ints, o); low = omega (arith, ints); high = omega (arith, ints, i.high) }; value = i.value })

short_below : (a b lo hi d x y : ℕ) → a ≤ b → lo ≤ hi → 0 < d → x ≡ a * lo / (scale * d) → pos y ≡ ceil_of (pos (b * hi)) (scale * d) → x ≤ y
short_below a b lo hi d x y h k p ex ey =
    let m : a * lo ≤ b * hi = mul-le a lo b hi h k in
    let f : pos (a * lo / (scale * d)) ≤ℤ ceil_of (pos (b * hi)) (scale * d) = floor-le-ceil (pos (a * lo)) (pos (b * hi)) (scale * d) (omega (arith, p)) (omega (arith, ints, m)) in
    omega (arith, ints, f, ex, ey)

short_step : (u : Interval) (a b d lo hi x y : ℕ) → IsSquare u → pos a ≡ u.lo → pos b ≡ u.hi → lo ≤ hi
    → x ≡ a * lo / (scale * d) → pos y ≡ ceil_of (pos (b * hi)) (scale * d) → interval (pos scale -ℤ pos y) (pos scale -ℤ pos x) ≡ step u (interval (pos lo) (pos hi)) (pos d)
unfolding step outward products
short_step u a b d lo hi x y h ea eb o ex ey =
    ap (λ (z : ℤ). interval (pos scale -ℤ z) (pos scale -ℤ pos x)) high
    ∙ ap (λ (z : ℤ). interval (pos scale -ℤ ceil_of (greatest_product (u, interval (pos lo) (pos hi))) (scale * d)) (pos scale -ℤ z)) low
  where
    low : pos x ≡ floor_of (least_product (u, interval (pos lo) (pos hi))) (scale * d)
    low = ap pos ex ∙ ap (λ (z : ℤ). floor_of z (scale * d)) (ap (λ (z : ℤ). z *ℤ pos lo) ea ∙ positive_least_above u.lo u.hi (pos lo) (pos hi) h.low h.ordered (omega (arith, ints, o)) (omega (arith, ints)))

    high : pos y ≡ ceil_of (greatest_product (u, interval (pos lo) (pos hi))) (scale * d)
    high = ey ∙ ap (λ (z : ℤ). ceil_of z (scale * d)) (ap (λ (z : ℤ). z *ℤ pos hi) eb ∙ positive_greatest_above u.lo u.hi (pos lo) (pos hi) h.low h.ordered (omega (arith, ints, o)) (omega (arith, ints)))

-- the turn to the term k
pub short_less : (s : Series) (u : Interval) (n k a b lo hi x y : ℕ) → IsSquare u → pos a ≡ u.lo → pos b ≡ u.hi → 1 ≤ k → k < n → ShortNested s u n (k + 1) lo hi
    → x ≡ a * lo / (scale * divisor s k) → pos y ≡ ceil_of (pos (b * hi)) (scale * divisor s k) → x ≤ y → y ≤ scale → ShortNested s u n k (scale - y) (scale - x)
short_less s u n k a b lo hi x y h ea eb p l i ex ey o c =
    let f : pos scale -ℤ pos y ≡ pos (scale - y) = omega (arith, ints, c) in
    let g : pos scale -ℤ pos x ≡ pos (scale - x) = omega (arith, ints, o, c) in
    let e : k + 1 ≡ suc k = omega arith in
    let known : interval (pos lo) (pos hi) ≡ nested s u (suc k) (n - suc k) = i.value ∙ ap (λ (m : ℕ). nested s u m (n - m)) e in
    let q = nested_more s u (interval (pos lo) (pos hi)) _ n k (pos (divisor s k)) p l known refl (short_step u a b (divisor s k) lo hi x y h ea eb (short_ordered s u n (k + 1) lo hi h i) ex ey) in
    record {
      some = q.some;
      value = sym (ap (λ (z : ℤ). interval z (pos scale -ℤ pos x)) f ∙ ap (λ (z : ℤ). interval (pos (scale - y)) z) g) ∙ q.value;
      high = omega arith;
    }

-- ---- what the two divisions of a turn give
pub record Turn (s : Series) (u : Interval) (k a b lo hi x y : ℕ) : Type 0 where
  pub first : pos a ≡ u.lo
  pub second : pos b ≡ u.hi
  pub least : x ≡ a * lo / (scale * divisor s k)
  pub greatest : pos y ≡ ceil_of (pos (b * hi)) (scale * divisor s k)
  pub below : x ≤ y

pub turn : (s : Series) (u : Interval) (k lo hi d x y : ℕ) (r q : ℤ) → IsSquare u → r ≡ u.lo → q ≡ u.hi → 1 ≤ k → lo ≤ hi → 2 ^ 16 * d ≡ scale * divisor s k
    → x ≡ nat_abs (held r) * lo / (2 ^ 16 * d) → pos y ≡ ceil_of (pos (nat_abs (held q) * hi)) (2 ^ 16 * d) → Turn s u k (nat_abs (held r)) (nat_abs (held q)) lo hi x y
turn s u k lo hi d x y r q h er eq p i m ex ey =
    let ea = end_cast r u.lo er h.low (omega (arith, ints, h.ordered, h.high)) in
    let eb = end_cast q u.hi eq (omega (arith, ints, h.low, h.ordered)) (omega (arith, ints, h.high)) in
    let fx = ex ∙ ap (λ (w : ℕ). nat_abs (held r) * lo / w) m in
    let fy = ey ∙ ap (λ (w : ℕ). ceil_of (pos (nat_abs (held q) * hi)) w) m in
    record {
      first = ea;
      second = eb;
      least = fx;
      greatest = fy;
      below = short_below (nat_abs (held r)) (nat_abs (held q)) lo hi (divisor s k) x y (omega (arith, ints, ea, eb, h.ordered)) i (some_divisor s k p) fx fy;
    }

-- ---- where the products of n terms and those of one more meet, all further ones do
same_step : (s : Series) (u : Interval) (k m n : ℕ) → nested s u (suc k) m ≡ nested s u (suc k) n → nested s u k (suc m) ≡ nested s u k (suc n)
unfolding nested
same_step s u k m n e = ap (λ (v : Interval). step u v (pos (divisor s k))) e

pub met : (s : Series) (u : Interval) (k m n : ℕ) → nested s u (suc k) m ≡ nested s u (suc k) n → nested s u 1 (m + k) ≡ nested s u 1 (n + k)
met s u zero m n e = ap (nested s u 1) (omega arith) ∙ e ∙ ap (nested s u 1) (omega arith)
met s u (suc k) m n e = ap (nested s u 1) (omega arith) ∙ met s u k (suc m) (suc n) (same_step s u (suc k) m n e) ∙ ap (nested s u 1) (omega arith)

pub meet_first : (s : Series) (u : Interval) (n k lo hi : ℕ) → k ≤ n → ShortNested s u n k lo hi → ShortNested s u (n + 1) k lo hi → nested s u 1 (n - 1) ≡ nested s u 1 n
meet_first s u n zero lo hi h i j = absurd (omega (arith, i.some))
meet_first s u n (suc k) lo hi h i j =
    ap (nested s u 1) (omega (arith, h)) ∙ met s u k (n - suc k) (n + 1 - suc k) (sym i.value ∙ j.value) ∙ ap (nested s u 1) (omega (arith, h))
