-- Numbers of the code, read from their 128 bits, and the intervals that they make.
use Rattle.std.proofs.Common.{◌≡◌, ℕ, ◌+◌, ◌-◌, ◌*◌, ◌^◌, ◌<◌, ◌≤◌, ℤ, pos, negsuc, ◌+ℤ◌, ◌-ℤ◌, ◌*ℤ◌, neg_ℤ, ◌<ℤ◌, Bool, true, false, cond, refl, sym, ◌∙◌, ap, subst, arith, to_z, of_z}
use Rattle.std.proofs.lemmas.Int.{ints, clamps}
use Rattle.std.proofs.lemmas.Nat.{mul-le}
use Rattle.std.specs.Int.{int_min, int_max, int_div_euclid}
use Rattle.std.specs.Bool.{Decides}
use mir.Syntax.{w128}
use mir.Val.{SFits}
use Rattle.rb_num.specs.Interval.{Interval, IsInterval, IsWithin, interval, difference_of, grid, limit}
use Rattle.rb_num.specs.Dot.{ProductsFit, least_product, greatest_product, floor_of}
use Rattle.rb_num.specs.Quotient.{HasZero}
use Rattle.rb_num.specs.Refusing.{has_zero}
use Rattle.rb_num.proofs.Ends.{read, both}
use Rattle.rb_num.proofs.Products.{same_product, within_at, within_fits}
use Rattle.rb_num.proofs.Quotient.{negative_read, quotient_within}
use Rattle.rb_num.proofs.Quotients.{floor-le-ceil}
use Rattle.rb_trig.specs.Ends.{outward, products, squares, clamped, SquaresFit}
use Rattle.rb_trig.specs.Sine.{scale, step}
use Rattle.rb_num.proofs.Refused.{decides_zero}
use Rattle.rb_trig.proofs.Sizes.{Within, is_interval, fitting_products, square_nonneg, step_is_interval}

-- z as the code holds it
abbrev pub held : ℤ → ℤ
held z = to_z w128 (of_z w128 z)

-- the ends a and b make v
pub record Makes (v : Interval) (a b : ℤ) : Type 0 where
  pub whole : IsInterval a b
  pub value : interval a b ≡ v

pub makes : (v : Interval) (a b : ℤ) → IsInterval v.lo v.hi → a ≡ v.lo → b ≡ v.hi → Makes v a b
makes v a b h p q = record {
  whole = subst (λ (x : ℤ). IsInterval x b) (sym p) (subst (λ (y : ℤ). IsInterval v.lo y) (sym q) h);
  value = ap (λ (x : ℤ). interval x b) p ∙ ap (λ (y : ℤ). interval v.lo y) q;
}

pub lo_held : (r : ℤ) (v : Interval) → r ≡ v.lo → IsInterval v.lo v.hi → held r ≡ v.lo
lo_held r v e h = read r (omega (arith, ints, h.ordered, h.low, h.high)) e

pub hi_held : (r : ℤ) (v : Interval) → r ≡ v.hi → IsInterval v.lo v.hi → held r ≡ v.hi
hi_held r v e h = read r (omega (arith, ints, h.ordered, h.low, h.high)) e

pub product_held : (x y a b : ℤ) → x ≡ a → y ≡ b → IsWithin (a *ℤ b) → held (x *ℤ y) ≡ a *ℤ b
product_held x y a b p q h = let e = same_product p q in read (x *ℤ y) (within_fits (within_at (sym e) h)) e

pub min_held : (m p q a b : ℤ) → m ≡ int_min p q → p ≡ a → q ≡ b → IsWithin a → IsWithin b → held m ≡ int_min a b
min_held m p q a b e i j h k = read m (omega (arith, ints, clamps, h, k)) (e ∙ both int_min i j)

pub max_held : (m p q a b : ℤ) → m ≡ int_max p q → p ≡ a → q ≡ b → IsWithin a → IsWithin b → held m ≡ int_max a b
max_held m p q a b e i j h k = read m (omega (arith, ints, clamps, h, k)) (e ∙ both int_max i j)

-- ---- products
min_within : (a b : ℤ) → IsWithin a → IsWithin b → IsWithin (int_min a b)
min_within a b h k = record { above = omega (arith, ints, clamps, h, k); below = omega (arith, ints, clamps, h, k) }

max_within : (a b : ℤ) → IsWithin a → IsWithin b → IsWithin (int_max a b)
max_within a b h k = record { above = omega (arith, ints, clamps, h, k); below = omega (arith, ints, clamps, h, k) }

pub products_make : (a b : Interval) (ll lh hl hh m1 m2 m3 n1 n2 n3 : ℤ) → ProductsFit (a, b)
    → ll ≡ a.lo *ℤ b.lo → lh ≡ a.lo *ℤ b.hi → hl ≡ a.hi *ℤ b.lo → hh ≡ a.hi *ℤ b.hi
    → m1 ≡ int_min ll lh → m2 ≡ int_min hl hh → m3 ≡ int_min (held m1) (held m2)
    → n1 ≡ int_max ll lh → n2 ≡ int_max hl hh → n3 ≡ int_max (held n1) (held n2)
    → Makes (products a b) (held m3) (held n3)
unfolding products least_product greatest_product
products_make a b ll lh hl hh m1 m2 m3 n1 n2 n3 f e1 e2 e3 e4 p1 p2 p3 q1 q2 q3 =
    makes (products a b) _ _ (is_interval _ (fitting_products a b f))
    (min_held m3 _ _ _ _ p3 (min_held m1 _ _ _ _ p1 e1 e2 f.lo_lo f.lo_hi) (min_held m2 _ _ _ _ p2 e3 e4 f.hi_lo f.hi_hi) (min_within _ _ f.lo_lo f.lo_hi) (min_within _ _ f.hi_lo f.hi_hi))
    (max_held n3 _ _ _ _ q3 (max_held n1 _ _ _ _ q1 e1 e2 f.lo_lo f.lo_hi) (max_held n2 _ _ _ _ q2 e3 e4 f.hi_lo f.hi_hi) (max_within _ _ f.lo_lo f.lo_hi) (max_within _ _ f.hi_lo f.hi_hi))

-- ---- rounding
at_divisor : (v : Interval) (d r q x y : ℤ) (n : ℕ) → d ≡ pos n → IsInterval v.lo v.hi → 0 < n
    → r ≡ int_div_euclid x d → x ≡ v.lo → q ≡ int_div_euclid y d → y ≡ neg_ℤ v.hi → Makes (outward v (pos n)) (held r) (held (pos 0 -ℤ held q))
unfolding outward
at_divisor v d r q x y n e h p er ex eq ey =
    let low : IsWithin v.lo = record { above = h.low; below = omega (arith, ints, h.ordered, h.high) } in
    let high : IsWithin v.hi = record { above = omega (arith, ints, h.low, h.ordered); below = h.high } in
    let some : ¬ (pos n ≡ pos 0) = λ k. absurd (omega (arith, ints, k)) in
    let wl = quotient_within v.lo (pos n) low some in
    let wh = quotient_within v.hi (pos n) high some in
    let o = floor-le-ceil v.lo v.hi n p h.ordered in
    let f : ℤ = int_div_euclid (neg_ℤ v.hi) (pos n) in
    let fr : r ≡ floor_of v.lo n = er ∙ both int_div_euclid ex e in
    let fq : q ≡ f = eq ∙ both int_div_euclid ey e in
    makes (outward v (pos n)) _ _ (record { ordered = o; low = wl.low; high = wh.high })
    (read r (omega (arith, ints, wl.low, wl.ordered, wl.high)) fr)
    (negative_read q f (record { above = omega (arith, ints, wh.high); below = omega (arith, ints, wh.low, wh.ordered) }) fq)

pub outward_makes : (v : Interval) (d b r q x y : ℤ) → IsInterval v.lo v.hi → pos 0 <ℤ d → b ≡ d
    → r ≡ int_div_euclid x b → x ≡ v.lo → q ≡ int_div_euclid y b → y ≡ neg_ℤ v.hi → Makes (outward v d) (held r) (held (pos 0 -ℤ held q))
outward_makes v (pos n) b r q x y h p e er ex eq ey = at_divisor v b r q x y n e h (omega (arith, ints, p)) er ex eq ey
outward_makes v (negsuc n) b r q x y h p e er ex eq ey = absurd (omega (arith, ints, p))

-- ---- squares
squares_within : (v : Interval) → SquaresFit v → (b : Bool) → IsInterval (cond b (pos 0) (int_min (v.lo *ℤ v.lo) (v.hi *ℤ v.hi))) (int_max (v.lo *ℤ v.lo) (v.hi *ℤ v.hi))
squares_within v f true =
    let l = square_nonneg v.lo in
    record { ordered = omega (arith, ints, clamps, l); low = omega (arith, ints); high = omega (arith, ints, clamps, f.low, f.high) }
squares_within v f false = record { ordered = omega (arith, ints, clamps); low = omega (arith, ints, clamps, f.low, f.high); high = omega (arith, ints, clamps, f.low, f.high) }

pub squares_interval : (v : Interval) → SquaresFit v → IsInterval (squares v).lo (squares v).hi
unfolding squares
squares_interval v f = squares_within v f (has_zero v)

-- the least square, with and without zero between the ends
with_zero : (v : Interval) → HasZero v → (squares v).lo ≡ pos 0
unfolding squares
with_zero v h = ap (λ (b : Bool). cond b (pos 0) (int_min (v.lo *ℤ v.lo) (v.hi *ℤ v.hi))) ((decides_zero v).1 h)

without_zero : (v : Interval) → ¬ HasZero v → (squares v).lo ≡ int_min (v.lo *ℤ v.lo) (v.hi *ℤ v.hi)
unfolding squares
without_zero v n = go (has_zero v) (decides_zero v)
  where
    go : (b : Bool) → Decides b (HasZero v) → cond b (pos 0) (int_min (v.lo *ℤ v.lo) (v.hi *ℤ v.hi)) ≡ int_min (v.lo *ℤ v.lo) (v.hi *ℤ v.hi)
    go true d = absurd (n (d.0 refl))
    go false d = refl

greatest : (v : Interval) → (squares v).hi ≡ int_max (v.lo *ℤ v.lo) (v.hi *ℤ v.hi)
unfolding squares
greatest v = refl

pub squares_make_zero : (v : Interval) (l h n : ℤ) → SquaresFit v → HasZero v → n ≡ int_max l h → l ≡ v.lo *ℤ v.lo → h ≡ v.hi *ℤ v.hi → Makes (squares v) (pos 0) (held n)
squares_make_zero v l h n f z e i j = makes (squares v) _ _ (squares_interval v f) (sym (with_zero v z)) (max_held n l h _ _ e i j f.low f.high ∙ sym (greatest v))

pub squares_make : (v : Interval) (l h m n : ℤ) → SquaresFit v → ¬ HasZero v → m ≡ int_min l h → n ≡ int_max l h → l ≡ v.lo *ℤ v.lo → h ≡ v.hi *ℤ v.hi → Makes (squares v) (held m) (held n)
squares_make v l h m n f z d e i j = makes (squares v) _ _ (squares_interval v f) (min_held m l h _ _ d i j f.low f.high ∙ sym (without_zero v z)) (max_held n l h _ _ e i j f.low f.high ∙ sym (greatest v))

-- ---- the clamp
pub clamp_makes : (v : Interval) (r q x y : ℤ) → IsInterval v.lo v.hi → x ≡ v.lo → y ≡ v.hi
    → r ≡ int_max (neg_ℤ (pos grid)) (int_min x (pos grid)) → q ≡ int_max (neg_ℤ (pos grid)) (int_min y (pos grid)) → Makes (clamped v) (held r) (held q)
unfolding clamped
clamp_makes v r q x y h ex ey er eq =
    makes (clamped v) _ _ (record { ordered = omega (arith, ints, clamps, h.ordered); low = omega (arith, ints, clamps); high = omega (arith, ints, clamps) })
    (read r (omega (arith, ints, clamps)) (er ∙ ap (λ (z : ℤ). int_max (neg_ℤ (pos grid)) (int_min z (pos grid))) ex))
    (read q (omega (arith, ints, clamps)) (eq ∙ ap (λ (z : ℤ). int_max (neg_ℤ (pos grid)) (int_min z (pos grid))) ey))

-- ---- a step
from_scale : (a e : ℤ) → a ≡ e → IsWithin e → IsWithin (pos scale -ℤ e) → held (pos scale -ℤ a) ≡ pos scale -ℤ e
from_scale a e p h k = read (pos scale -ℤ a) (omega (arith, ints, p, h.above, h.below)) (ap (λ (z : ℤ). pos scale -ℤ z) p)

step_at : (u h part p : Interval) (x y : ℤ) (n : ℕ) → 0 < n → ProductsFit (u, h) → p ≡ products u h → part ≡ outward p (pos (scale * n))
    → IsInterval part.lo part.hi → x ≡ part.hi → y ≡ part.lo → Makes (step u h (pos n)) (held (pos scale -ℤ x)) (held (pos scale -ℤ y))
unfolding step
step_at u h part p x y n some f ep eo i ex ey =
    let w = step_is_interval u h n some f in
    let e : part ≡ outward (products u h) (pos (scale * n)) = eo ∙ ap (λ (v : Interval). outward v (pos (scale * n))) ep in
    let v : Interval = difference_of (interval (pos scale) (pos scale)) part in
    let back : v ≡ step u h (pos n) = ap (λ (t : Interval). difference_of (interval (pos scale) (pos scale)) t) e in
    let wv : Within limit v = subst (λ (t : Interval). Within limit t) (sym back) w in
    subst (λ (t : Interval). Makes t (held (pos scale -ℤ x)) (held (pos scale -ℤ y))) back
    (makes v _ _ (is_interval v wv)
    (from_scale x part.hi ex (record { above = omega (arith, ints, i.low, i.ordered); below = i.high }) (record { above = wv.low; below = omega (arith, ints, wv.ordered, wv.high) }))
    (from_scale y part.lo ey (record { above = i.low; below = omega (arith, ints, i.ordered, i.high) }) (record { above = omega (arith, ints, wv.low, wv.ordered); below = wv.high })))

pub step_makes : (u h part p : Interval) (d x y : ℤ) → pos 0 <ℤ d → ProductsFit (u, h) → p ≡ products u h → part ≡ outward p (pos scale *ℤ d)
    → IsInterval part.lo part.hi → x ≡ part.hi → y ≡ part.lo → Makes (step u h d) (held (pos scale -ℤ x)) (held (pos scale -ℤ y))
step_makes u h part p (pos n) x y some f ep eo i ex ey = step_at u h part p x y n (omega (arith, ints, some)) f ep eo i ex ey
step_makes u h part p (negsuc n) x y some f ep eo i ex ey = absurd (omega (arith, ints, some))

-- ---- the divisor
twice_held : (r : ℤ) (k : ℕ) → r ≡ pos k → k < 2 ^ 30 → held (pos 2 *ℤ held r) ≡ pos (2 * k)
twice_held r k e h =
    let f : SFits w128 r = omega (arith, ints, e) in
    let g : held r ≡ pos k = read r f e in
    read (pos 2 *ℤ held r) (omega (arith, ints)) (ap (λ (z : ℤ). pos 2 *ℤ z) g)

naturals_held : (x y : ℤ) (a b : ℕ) → x ≡ pos a → y ≡ pos b → a ≤ 2 ^ 31 → b ≤ 2 ^ 31 → held (x *ℤ y) ≡ pos (a * b)
naturals_held x y a b p q h k =
    let l : a * b ≤ 2 ^ 31 * 2 ^ 31 = mul-le a b (2 ^ 31) (2 ^ 31) h k in
    product_held x y (pos a) (pos b) p q (record { above = omega (arith, ints); below = omega (arith, ints, l) })

pub sine_divisor_held : (r : ℤ) (k : ℕ) → r ≡ pos k → k < 2 ^ 30 → held (held (pos 2 *ℤ held r) *ℤ held (held (pos 2 *ℤ held r) +ℤ pos 1)) ≡ pos (2 * k * (2 * k + 1))
sine_divisor_held r k e h =
    let t = twice_held r k e h in
    let s : held (held (pos 2 *ℤ held r) +ℤ pos 1) ≡ pos (2 * k + 1) = read (held (pos 2 *ℤ held r) +ℤ pos 1) (omega (arith, ints, t)) (ap (λ (z : ℤ). z +ℤ pos 1) t) in
    naturals_held _ _ (2 * k) (2 * k + 1) t s (omega arith) (omega arith)

pub cosine_divisor_held : (r : ℤ) (k : ℕ) → r ≡ pos k → 1 ≤ k → k < 2 ^ 30 → held (held (held (pos 2 *ℤ held r) -ℤ pos 1) *ℤ held (pos 2 *ℤ held r)) ≡ pos ((2 * k - 1) * (2 * k))
cosine_divisor_held r k e p h =
    let t = twice_held r k e h in
    let s : held (held (pos 2 *ℤ held r) -ℤ pos 1) ≡ pos (2 * k - 1) = read (held (pos 2 *ℤ held r) -ℤ pos 1) (omega (arith, ints, t)) (ap (λ (z : ℤ). z -ℤ pos 1) t ∙ one_less k p) in
    naturals_held _ _ (2 * k - 1) (2 * k) s t (omega arith) (omega arith)
  where
    one_less : (k : ℕ) → 1 ≤ k → pos (2 * k) -ℤ pos 1 ≡ pos (2 * k - 1)
    one_less k p = omega (arith, ints)
