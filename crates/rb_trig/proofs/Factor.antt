-- The factor of an axis: its bounds, what `unit_scale` answers, and that it makes the axis one unit long.
use Rattle.std.proofs.Common.{◌≡◌, ℕ, ◌*◌, ◌<◌, ◌≤◌, ℤ, pos, negsuc, ◌+ℤ◌, ◌-ℤ◌, ◌*ℤ◌, neg_ℤ, ◌≤ℤ◌, ◌<ℤ◌, ◌↔◌, Bool, true, false, cond, Result, Ok, Err, [], ◌∷◌, refl, sym, ◌∙◌, ap, subst, arith}
use Rattle.std.proofs.lemmas.Int.{ints}
use Rattle.std.proofs.Math.Nat.{mul-le-mul_left}
use Rattle.std.specs.Prelude.{◌&&◌}
use Rattle.std.specs.Int.{int_div_euclid, IsNonZero}
use mir.Syntax.{w128}
use mir.Val.{SFits}
use Rattle.std.specs.Bool.{Decides}
use Rattle.std.proofs.lemmas.Bool.Decides.{Decides-and, Decides-like}
use mathlib.Core.Path.{ap₂}
use Rattle.rb_frac.specs.Frac as F
use Rattle.rb_frac.specs.Frac.{Frac, Le}
use Rattle.rb_frac.proofs.Ring.{Expr, var, enul, plus, times, minus, ring}
use Rattle.rb_frac.proofs.Vec.{nth}
use Rattle.rb_frac.proofs.Rational.{ℚ, ◌+ℚ◌, ◌*ℚ◌, 0ℚ, cls, cls-le, rats, nn_mul, ◌≤ℚ◌}
use Rattle.rb_frac.proofs.Hom.{cls_of_add, cls_of_mul}
use Rattle.rb_frac.proofs.Order.{le_trans_ℚ, add_le_ℚ, square_nn}
use Rattle.rb_frac.proofs.Interval.{bound}
use Rattle.rb_num.specs.Interval.{Interval, IsInterval, IsWithin, interval, grid, limit}
use Rattle.rb_num.specs.Dot.{floor_of, ceil_of}
use Rattle.rb_num.specs.Quotient.{HasZero}
use Rattle.rb_num.specs.Refusing.{has_zero}
use Rattle.rb_num.specs.Fraction.{LiesIn}
use Rattle.rb_num.proofs.Least.{floor_greatest, ceil_least}
use Rattle.rb_num.proofs.Ends.{read, both}
use Rattle.rb_num.proofs.Quotient.{negative_read}
use Rattle.rb_num.proofs.Quotients.{floor-le-ceil, floor-low, ceil-high}
use Rattle.rb_num.proofs.Refused.{decides_within, decides_zero}
use Rattle.rb_trig.specs.declared.axis.AxisFault.{AxisFault}
use Rattle.rb_trig.specs.declared.axis.AxisFault.TheVariants.{Size, ZeroAxis}
use Rattle.rb_trig.specs.Ends.{squares, SquaresFit}
use Rattle.rb_trig.specs.Axis.{floor_root, ceil_root, squared_length, factor, IsLength, AxisFits, squares_fit, unit_scale_of, square_sum, MakesUnit}
use Rattle.rb_trig.proofs.Numbers.{whole, whole-add, whole-mul, whole-le, whole_pos, nonneg_whole, cancel_ℚ, Holds, from_lies}
use Rattle.rb_trig.proofs.Steps.{squares_hold}
use Rattle.rb_trig.proofs.Sizes.{least_square_nonneg}
use Rattle.rb_trig.proofs.Read.{held, lo_held, hi_held, Makes, makes, squares_interval}
use Rattle.rb_trig.proofs.Root.{floor_low, floor_some, ceil_high, floor_le_ceil}

-- ---- the squared length
pub record LengthIs (q : Interval) : Type 0 where
  pub low : pos 0 ≤ℤ q.lo
  pub ordered : q.lo ≤ℤ q.hi
  pub high : q.hi ≤ℤ pos (3 * limit)

pub length_is : (x y z : Interval) → AxisFits x y z → LengthIs (squared_length x y z)
unfolding squared_length
length_is x y z f =
    let a = least_square_nonneg x in
    let b = least_square_nonneg y in
    let c = least_square_nonneg z in
    let i = squares_interval x f.first in
    let j = squares_interval y f.second in
    let k = squares_interval z f.third in
    record { low = omega (arith, ints, a, b, c); ordered = omega (arith, ints, i.ordered, j.ordered, k.ordered); high = omega (arith, ints, i.high, j.high, k.high) }

-- ---- the factor
record Quotients (n c f : ℕ) : Type 0 where
  low : pos 0 ≤ℤ floor_of (pos n) c
  ordered : floor_of (pos n) c ≤ℤ ceil_of (pos n) f
  high : ceil_of (pos n) f ≤ℤ pos n

less_often : (w : ℤ) (n c f : ℕ) → f ≤ c → pos 0 ≤ℤ w → (w *ℤ pos c) ≤ℤ pos n → (w *ℤ pos f) ≤ℤ pos n
less_often (pos w) n c f l h k = let m = mul-le-mul_left w l in omega (arith, ints, m, k)
less_often (negsuc w) n c f l h k = absurd (omega (arith, ints, h))

quotients : (n c f : ℕ) → 0 < f → f ≤ c → Quotients n c f
quotients n c f p l =
    let low : pos 0 ≤ℤ floor_of (pos n) c = floor_greatest (pos 0) (pos n) c (omega arith) (omega (arith, ints)) in
    let often : floor_of (pos n) c ≤ℤ floor_of (pos n) f = floor_greatest (floor_of (pos n) c) (pos n) f p (less_often (floor_of (pos n) c) n c f l low (floor-low (pos n) c (omega arith))) in
    let outer : floor_of (pos n) f ≤ℤ ceil_of (pos n) f = floor-le-ceil (pos n) (pos n) f p (omega (arith, ints)) in
    record {
      low = low;
      ordered = omega (arith, ints, often, outer);
      high = ceil_least (pos n) (pos n) f p (let m = mul-le-mul_left n p in omega (arith, ints, m));
    }

pub roots_ordered : (q : Interval) → IsLength q → floor_root q.lo ≤ ceil_root q.hi
roots_ordered q h = floor_le_ceil q.lo q.hi (omega (arith, ints, h.some)) h.ordered

pub factor_makes : (q : Interval) (r s x b y c : ℤ) → IsLength q → r ≡ int_div_euclid x b → x ≡ pos (grid * grid) → b ≡ pos (ceil_root q.hi)
    → s ≡ int_div_euclid y c → y ≡ neg_ℤ (pos (grid * grid)) → c ≡ pos (floor_root q.lo) → Makes (factor q) (held r) (held (pos 0 -ℤ held s))
unfolding factor
factor_makes q r s x b y c h er ex eb es ey ec =
    let k = quotients (grid * grid) (ceil_root q.hi) (floor_root q.lo) (floor_some q.lo h.some) (roots_ordered q h) in
    let k1 = k.low in let k2 = k.ordered in let k3 = k.high in
    makes (factor q) _ _ (record { ordered = k2; low = omega (arith, ints); high = omega (arith, ints) })
    (read r (omega (arith, ints, er ∙ both int_div_euclid ex eb)) (er ∙ both int_div_euclid ex eb))
    (negative_read s _ (record { above = omega (arith, ints, es ∙ both int_div_euclid ey ec); below = omega (arith, ints, es ∙ both int_div_euclid ey ec) }) (es ∙ both int_div_euclid ey ec))

-- ---- what `unit_scale` answers
decides_squares : (v : Interval) → Decides (squares_fit v) (SquaresFit v)
decides_squares v = Decides-like _ (λ p. record { low = p.0; high = p.1 }) (λ s. (s.low, s.high)) (Decides-and _ _ (decides_within _) (decides_within _))

abbrev axis_fits : Interval → Interval → Interval → Bool
axis_fits x y z = squares_fit x && squares_fit y && squares_fit z

decides_axis : (x y z : Interval) → Decides (axis_fits x y z) (AxisFits x y z)
decides_axis x y z = Decides-like _ (λ p. record { first = p.0.0; second = p.0.1; third = p.1 }) (λ a. ((a.first, a.second), a.third))
    (Decides-and _ _ (Decides-and _ _ (decides_squares x) (decides_squares y)) (decides_squares z))

abbrev Answer : Type 0
Answer = Result Interval AxisFault

abbrev chosen : Interval → Bool → Bool → Answer
chosen q b t = cond b (cond t (Err ZeroAxis) (Ok (factor q))) (Err Size)

no : false ≡ true → ⊥
no e = cc

pub too_large : (x y z : Interval) → ¬ AxisFits x y z → ◌≡◌ {A = Answer} (Err Size) (unit_scale_of x y z)
unfolding unit_scale_of
too_large x y z n = go (axis_fits x y z) (decides_axis x y z)
  where
    go : (b : Bool) → Decides b (AxisFits x y z) → ◌≡◌ {A = Answer} (Err Size) (chosen (squared_length x y z) b (has_zero (squared_length x y z)))
    go true d = absurd (n (d.0 refl))
    go false d = refl

fitting : (x y z : Interval) → AxisFits x y z → unit_scale_of x y z ≡ chosen (squared_length x y z) true (has_zero (squared_length x y z))
unfolding unit_scale_of
fitting x y z f = ap (λ (b : Bool). chosen (squared_length x y z) b (has_zero (squared_length x y z))) ((decides_axis x y z).1 f)

pub may_be_zero : (x y z : Interval) → AxisFits x y z → HasZero (squared_length x y z) → ◌≡◌ {A = Answer} (Err ZeroAxis) (unit_scale_of x y z)
may_be_zero x y z f h = sym (fitting x y z f ∙ ap (λ (t : Bool). chosen (squared_length x y z) true t) ((decides_zero (squared_length x y z)).1 h))

pub has_factor : (x y z v : Interval) → AxisFits x y z → ¬ HasZero (squared_length x y z) → v ≡ factor (squared_length x y z) → ◌≡◌ {A = Answer} (Ok v) (unit_scale_of x y z)
has_factor x y z v f n e = ap Ok e ∙ go (has_zero (squared_length x y z)) (decides_zero (squared_length x y z)) ∙ sym (fitting x y z f)
  where
    go : (t : Bool) → Decides t (HasZero (squared_length x y z)) → ◌≡◌ {A = Answer} (Ok (factor (squared_length x y z))) (chosen (squared_length x y z) true t)
    go true d = absurd (n (d.0 refl))
    go false d = refl

-- ---- one unit long
module _ (k c h q n : ℚ) where
  ρ : ℕ → ℚ
  ρ = nth 0ℚ (k ∷ c ∷ h ∷ q ∷ n ∷ [])

  K : Expr
  K = var 0

  C : Expr
  C = var 1

  H : Expr
  H = var 2

  Q : Expr
  Q = var 3

  N : Expr
  N = var 4

  infixl 6 ◌⊖◌
  ◌⊖◌ : Expr → Expr → Expr
  e ⊖ f = plus e (minus f)

  -- k c ≤ n, and the root of h is at most c
  short : 0ℚ ≤ℚ n → 0ℚ ≤ℚ (k *ℚ c) → (k *ℚ c) ≤ℚ n → h ≤ℚ (c *ℚ c) → (q *ℚ n) ≤ℚ h → (((k *ℚ k) *ℚ q) *ℚ n) ≤ℚ (n *ℚ n)
  unfolding ρ K C H Q N ◌⊖◌
  short p r s t u =
      bound ρ (times (times (times K K) Q) N) (times N N)
      (times (times K K ⊖ enul) (times C C ⊖ H) ∷ times (times K K ⊖ enul) (H ⊖ times Q N) ∷ times (N ⊖ times K C) (N ⊖ enul) ∷ times (N ⊖ times K C) (times K C ⊖ enul) ∷ []) [] refl
      (nn_mul _ _ (square_nn k).le t.le, (nn_mul _ _ (square_nn k).le u.le, (nn_mul _ _ s.le p.le, (nn_mul _ _ s.le r.le, tt)))) tt

  long : 0ℚ ≤ℚ n → n ≤ℚ (k *ℚ c) → (c *ℚ c) ≤ℚ h → h ≤ℚ (q *ℚ n) → (n *ℚ n) ≤ℚ (((k *ℚ k) *ℚ q) *ℚ n)
  unfolding ρ K C H Q N ◌⊖◌
  long p s t u =
      bound ρ (times N N) (times (times (times K K) Q) N)
      (times (times K K ⊖ enul) (H ⊖ times C C) ∷ times (times K K ⊖ enul) (times Q N ⊖ H) ∷ times (times K C ⊖ N) (N ⊖ enul) ∷ times (times K C ⊖ N) (times K C ⊖ enul) ∷ []) [] refl
      (nn_mul _ _ (square_nn k).le t.le, (nn_mul _ _ (square_nn k).le u.le, (nn_mul _ _ s.le p.le, (nn_mul _ _ s.le (le_trans_ℚ p s).le, tt)))) tt

sum_equal : (a b c g : ℚ) → ((a *ℚ g) *ℚ (a *ℚ g) +ℚ (b *ℚ g) *ℚ (b *ℚ g)) +ℚ (c *ℚ g) *ℚ (c *ℚ g) ≡ ((a *ℚ a +ℚ b *ℚ b) +ℚ c *ℚ c) *ℚ (g *ℚ g)
sum_equal a b c g = ring rats (nth 0ℚ (a ∷ b ∷ c ∷ g ∷ []))
    (plus (plus (times (times (var 0) (var 3)) (times (var 0) (var 3))) (times (times (var 1) (var 3)) (times (var 1) (var 3)))) (times (times (var 2) (var 3)) (times (var 2) (var 3))))
    (times (plus (plus (times (var 0) (var 0)) (times (var 1) (var 1))) (times (var 2) (var 2))) (times (var 3) (var 3))) refl

cls-square_sum : (a b c : Frac) → cls (square_sum a b c) ≡ (cls a *ℚ cls a +ℚ cls b *ℚ cls b) +ℚ cls c *ℚ cls c
cls-square_sum a b c = cls_of_add _ _ ∙ ap₂ ◌+ℚ◌ (cls_of_add _ _ ∙ ap₂ ◌+ℚ◌ (cls_of_mul a a) (cls_of_mul b b)) (cls_of_mul c c)

sum_holds : (x y z : Interval) (p q r : ℚ) → Holds x p → Holds y q → Holds z r → Holds (interval (x.lo +ℤ y.lo +ℤ z.lo) (x.hi +ℤ y.hi +ℤ z.hi)) ((p +ℚ q) +ℚ r)
sum_holds x y z p q r h i j = record {
  low = subst (λ (t : ℚ). t ≤ℚ ((p +ℚ q) +ℚ r)) (sym (three x.lo y.lo z.lo)) (add_le_ℚ (add_le_ℚ h.low i.low) j.low);
  high = subst (λ (t : ℚ). ((p +ℚ q) +ℚ r) ≤ℚ t) (sym (three x.hi y.hi z.hi)) (add_le_ℚ (add_le_ℚ h.high i.high) j.high);
}
  where
    three : (a b c : ℤ) → whole (a +ℤ b +ℤ c) ≡ (whole a +ℚ whole b) +ℚ whole c
    three a b c = whole-add (a +ℤ b) c ∙ ap (λ (t : ℚ). t +ℚ whole c) (whole-add a b)

-- the squared length of each axis, in parts of one in grid²
length_holds : (x y z : Interval) (a b c : Frac) → LiesIn a x → LiesIn b y → LiesIn c z → Holds (squared_length x y z) (cls (square_sum a b c) *ℚ whole (pos (grid * grid)))
unfolding squared_length
length_holds x y z a b c h i j =
    subst (λ (t : ℚ). Holds (interval ((squares x).lo +ℤ (squares y).lo +ℤ (squares z).lo) ((squares x).hi +ℤ (squares y).hi +ℤ (squares z).hi)) t)
    (sum_equal (cls a) (cls b) (cls c) (whole (pos grid)) ∙ ap₂ ◌*ℚ◌ (sym (cls-square_sum a b c)) (sym (whole-mul (pos grid) (pos grid))))
    (sum_holds (squares x) (squares y) (squares z) _ _ _ (squares_hold x _ (from_lies a x h)) (squares_hold y _ (from_lies b y i)) (squares_hold z _ (from_lies c z j)))

abbrev grid_square : ℕ
grid_square = grid * grid

nonneg_product : (w : ℤ) (c : ℕ) → pos 0 ≤ℤ w → 0ℚ ≤ℚ (whole w *ℚ whole (pos c))
nonneg_product (pos w) c h = subst (λ (t : ℚ). 0ℚ ≤ℚ t) (whole-mul (pos w) (pos c)) (nonneg_whole (w * c))
nonneg_product (negsuc w) c h = absurd (omega (arith, ints, h))

scaled : (w : ℤ) (s : Frac) → cls (F.mul (F.whole (w *ℤ w)) s) ≡ (whole w *ℚ whole w) *ℚ cls s
unfolding whole
scaled w s = cls_of_mul (F.whole (w *ℤ w)) s ∙ ap (λ (t : ℚ). t *ℚ cls s) (whole-mul w w)

low_factor : (q : Interval) (s : Frac) → IsLength q → Holds q (cls s *ℚ whole (pos grid_square)) → Le (F.mul (F.whole ((factor q).lo *ℤ (factor q).lo)) s) (F.whole (pos grid_square))
unfolding factor whole
low_factor q s l h =
    let c = ceil_root q.hi in
    let w = floor_of (pos grid_square) c in
    let k = quotients grid_square c (floor_root q.lo) (floor_some q.lo l.some) (roots_ordered q l) in
    let p : 0 < c = omega (arith, floor_some q.lo l.some, roots_ordered q l) in
    let root : whole q.hi ≤ℚ (whole (pos c) *ℚ whole (pos c)) = subst (λ (t : ℚ). whole q.hi ≤ℚ t) (whole-mul (pos c) (pos c)) (whole-le q.hi (pos (c * c)) (ceil_high q.hi (omega (arith, ints, l.some, l.ordered)))) in
    let quotient : (whole w *ℚ whole (pos c)) ≤ℚ whole (pos grid_square) = subst (λ (t : ℚ). t ≤ℚ whole (pos grid_square)) (whole-mul w (pos c)) (whole-le (w *ℤ pos c) (pos grid_square) (floor-low (pos grid_square) c p)) in
    (cls-le (F.mul (F.whole (w *ℤ w)) s) (F.whole (pos grid_square))).1
    (subst (λ (t : ℚ). t ≤ℚ whole (pos grid_square)) (sym (scaled w s))
    (cancel_ℚ ((whole w *ℚ whole w) *ℚ cls s) (whole (pos grid_square)) (whole (pos grid_square)) (whole_pos grid_square (omega arith))
    (short (whole w) (whole (pos c)) (whole q.hi) (cls s) (whole (pos grid_square)) (nonneg_whole grid_square) (nonneg_product w c k.low) quotient root h.high)))

high_factor : (q : Interval) (s : Frac) → IsLength q → Holds q (cls s *ℚ whole (pos grid_square)) → Le (F.whole (pos grid_square)) (F.mul (F.whole ((factor q).hi *ℤ (factor q).hi)) s)
unfolding factor whole
high_factor q s l h =
    let f = floor_root q.lo in
    let w = ceil_of (pos grid_square) f in
    let root : (whole (pos f) *ℚ whole (pos f)) ≤ℚ whole q.lo = subst (λ (t : ℚ). t ≤ℚ whole q.lo) (whole-mul (pos f) (pos f)) (whole-le (pos (f * f)) q.lo (floor_low q.lo (omega (arith, ints, l.some)))) in
    let quotient : whole (pos grid_square) ≤ℚ (whole w *ℚ whole (pos f)) = subst (λ (t : ℚ). whole (pos grid_square) ≤ℚ t) (whole-mul w (pos f)) (whole-le (pos grid_square) (w *ℤ pos f) (ceil-high (pos grid_square) f (floor_some q.lo l.some))) in
    (cls-le (F.whole (pos grid_square)) (F.mul (F.whole (w *ℤ w)) s)).1
    (subst (λ (t : ℚ). whole (pos grid_square) ≤ℚ t) (sym (scaled w s))
    (cancel_ℚ (whole (pos grid_square)) ((whole w *ℚ whole w) *ℚ cls s) (whole (pos grid_square)) (whole_pos grid_square (omega arith))
    (long (whole w) (whole (pos f)) (whole q.lo) (cls s) (whole (pos grid_square)) (nonneg_whole grid_square) quotient root h.low)))

pub makes_unit : (x y z v : Interval) → IsLength (squared_length x y z) → v ≡ factor (squared_length x y z) → MakesUnit x y z v
makes_unit x y z v l e = subst (λ (t : Interval). MakesUnit x y z t) (sym e) (record {
  low = λ a b c h i j. low_factor (squared_length x y z) (square_sum a b c) l (length_holds x y z a b c h i j);
  high = λ a b c h i j. high_factor (squared_length x y z) (square_sum a b c) l (length_holds x y z a b c h i j);
})

-- ---- the clauses
pub sizes : (x y z : Interval) (r : Answer) → r ≡ unit_scale_of x y z → (r ≡ Err Size) ↔ (¬ AxisFits x y z)
sizes x y z r e = (λ h f. go (has_zero (squared_length x y z)) (sym h ∙ e ∙ fitting x y z f), λ n. e ∙ sym (too_large x y z n))
  where
    go : (t : Bool) → ◌≡◌ {A = Answer} (Err Size) (chosen (squared_length x y z) true t) → ⊥
    go true i = cc
    go false i = cc

pub zeros : (x y z : Interval) (r : Answer) → r ≡ unit_scale_of x y z → (r ≡ Err ZeroAxis) ↔ (AxisFits x y z × HasZero (squared_length x y z))
unfolding unit_scale_of
zeros x y z r e = (
  λ h. go (axis_fits x y z) (has_zero (squared_length x y z)) (decides_axis x y z) (decides_zero (squared_length x y z)) (sym h ∙ e),
  λ h. e ∙ sym (may_be_zero x y z h.0 h.1),
)
  where
    go : (b t : Bool) → Decides b (AxisFits x y z) → Decides t (HasZero (squared_length x y z)) → ◌≡◌ {A = Answer} (Err ZeroAxis) (chosen (squared_length x y z) b t)
        → AxisFits x y z × HasZero (squared_length x y z)
    go true true c d i = (c.0 refl, d.0 refl)
    go true false c d i = absurd (cc)
    go false t c d i = absurd (cc)

-- ---- in the code
pub low_is : (r : ℤ) (v u : Interval) → r ≡ v.lo → IsInterval v.lo v.hi → v ≡ u → held r ≡ u.lo
low_is r v u e h p = lo_held r v e h ∙ ap (λ (t : Interval). t.lo) p

pub high_is : (r : ℤ) (v u : Interval) → r ≡ v.hi → IsInterval v.lo v.hi → v ≡ u → held r ≡ u.hi
high_is r v u e h p = hi_held r v e h ∙ ap (λ (t : Interval). t.hi) p

three_fit : (a b c : ℤ) → IsWithin a → IsWithin b → IsWithin c → SFits w128 (a +ℤ b +ℤ c)
three_fit a b c i j k = omega (arith, ints, i.above, i.below, j.above, j.below, k.above, k.below)

two_fit : (a b : ℤ) → IsWithin a → IsWithin b → SFits w128 (a +ℤ b)
two_fit a b i j = omega (arith, ints, i.above, i.below, j.above, j.below)

two_held : (x y a b : ℤ) → x ≡ a → y ≡ b → IsWithin a → IsWithin b → held (x +ℤ y) ≡ a +ℤ b
two_held x y a b p q i j = let e = both ◌+ℤ◌ p q in read (x +ℤ y) (subst (SFits w128) (sym e) (two_fit a b i j)) e

pub three_fits : (x y z a b c : ℤ) → x ≡ a → y ≡ b → z ≡ c → IsWithin a → IsWithin b → IsWithin c → SFits w128 (held (x +ℤ y) +ℤ z)
three_fits x y z a b c p q r i j k = subst (SFits w128) (sym (both ◌+ℤ◌ (two_held x y a b p q i j) r)) (three_fit a b c i j k)

pub three_held : (x y z a b c : ℤ) → x ≡ a → y ≡ b → z ≡ c → IsWithin a → IsWithin b → IsWithin c → held (held (x +ℤ y) +ℤ z) ≡ a +ℤ b +ℤ c
three_held x y z a b c p q r i j k = read _ (three_fits x y z a b c p q r i j k) (both ◌+ℤ◌ (two_held x y a b p q i j) r)

pub lo_within : (v : Interval) → SquaresFit v → IsWithin (squares v).lo
lo_within v f = let i = squares_interval v f in record { above = i.low; below = omega (arith, ints, i.ordered, i.high) }

pub hi_within : (v : Interval) → SquaresFit v → IsWithin (squares v).hi
hi_within v f = let i = squares_interval v f in record { above = omega (arith, ints, i.low, i.ordered); below = i.high }

-- the ends a and b of the squared length
pub record LengthsAre (x y z : Interval) (a b : ℤ) : Type 0 where
  pub value : interval a b ≡ squared_length x y z
  pub low : pos 0 ≤ℤ a
  pub ordered : a ≤ℤ b
  pub high : b ≤ℤ pos (3 * limit)

pub lengths_are : (x y z : Interval) (a b : ℤ) → AxisFits x y z → a ≡ (squares x).lo +ℤ (squares y).lo +ℤ (squares z).lo → b ≡ (squares x).hi +ℤ (squares y).hi +ℤ (squares z).hi → LengthsAre x y z a b
unfolding squared_length
lengths_are x y z a b f p q =
    let l = length_is x y z f in
    let l1 = l.low in let l2 = l.ordered in let l3 = l.high in
    record { value = ap₂ interval p q; low = omega (arith, ints, p, l1); ordered = omega (arith, ints, p, q, l2); high = omega (arith, ints, q, l3) }

-- the same, read from their bits
pub lengths_held : (q : Interval) (a b : ℤ) → interval a b ≡ q → pos 0 ≤ℤ a → a ≤ℤ b → b ≤ℤ pos (3 * limit) → interval (held a) (held b) ≡ q
lengths_held q a b e l o h = ap₂ interval (read a (omega (arith, ints, l, o, h)) refl) (read b (omega (arith, ints, l, o, h)) refl) ∙ e

pub is_length : (q : Interval) (a b : ℤ) → interval a b ≡ q → pos 0 <ℤ a → a ≤ℤ b → b ≤ℤ pos (3 * limit) → IsLength q
is_length q a b e l o h = subst IsLength e (record { some = l; ordered = o; high = h })

pub zero_length : (q : Interval) (a b : ℤ) → interval a b ≡ q → a ≡ pos 0 → a ≤ℤ b → HasZero q
zero_length q a b e z o = subst HasZero e (record { low = omega (arith, ints, z); high = omega (arith, ints, z, o) })

pub no_zero : (q : Interval) → IsLength q → ¬ HasZero q
no_zero q l h = omega (arith, ints, l.some, h.low)

pub nonzero_held : (r : ℤ) (n : ℕ) → r ≡ pos n → 0 < n → IsNonZero w128 r
nonzero_held r n e p = subst (λ (z : ℤ). IsNonZero w128 z) (sym e) p
