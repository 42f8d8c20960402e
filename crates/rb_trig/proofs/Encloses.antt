-- What the sine and the cosine of an interval enclose: each pair that goes with an angle in it.
use Rattle.std.proofs.Common.{◌≡◌, ℕ, zero, suc, ◌+◌, ◌-◌, ◌*◌, ◌<◌, ◌≤◌, pos, neg_ℤ, true, false, cond, [], ◌∷◌, refl, sym, ◌∙◌, ap, subst, arith}
use mathlib.Core.Logic.{◌⊎◌, inl, inr}
use Rattle.rb_frac.specs.Frac.{Frac, Le}
use Rattle.rb_frac.specs.Laws.{one}
use Rattle.rb_frac.proofs.Ring.{var, eone, plus, times, minus, ring}
use Rattle.rb_frac.proofs.Vec.{nth}
use Rattle.rb_frac.proofs.Combine.{combine}
use Rattle.rb_frac.proofs.FracLaws.{total_le}
use Rattle.rb_frac.proofs.Reduce.{same_sym}
use Rattle.rb_frac.proofs.Rational.{ℚ, ◌+ℚ◌, ◌*ℚ◌, neg_ℚ, 0ℚ, 1ℚ, inv, rats, cls, cls-le, cls-one, mul_inv, ◌≤ℚ◌}
use Rattle.rb_frac.proofs.Order.{mul_le_ℚ, le_refl_ℚ, le_trans_ℚ}
use Rattle.rb_num.specs.Interval.{Interval, interval, grid}
use Rattle.rb_num.specs.Fraction.{LiesIn}
use Rattle.rb_num.specs.Hull.{hull_of}
use Rattle.rb_num.specs.Sine.{minus_one, lesser, greater, is_le, cut, sine_sum, cosine_sum, terms, IsBetween}
use Rattle.rb_num.proofs.Hull.{hull_encloses}
use Rattle.rb_num.proofs.Same.{lies_in_same}
use Rattle.rb_num.proofs.Series.{nest, factor, cls-minus_one}
use Rattle.rb_num.proofs.Sine.{is_cut}
use Rattle.rb_trig.specs.declared.sine.Series.{Series}
use Rattle.rb_trig.specs.declared.sine.Series.TheVariants.{Sine, Cosine}
use Rattle.rb_trig.specs.Ends.{outward, products, squares, clamped}
use Rattle.rb_trig.specs.Sine.{scale, square_of, divisor, step, nested, sines, cosines, sine_of, cosine_of, Encloses}
use Rattle.rb_trig.proofs.Numbers.{whole, whole-mul, whole-neg, whole_pos, nonneg_whole, Holds, from_lies, to_lies}
use Rattle.rb_trig.proofs.Steps.{products_hold, outward_holds, squares_hold, difference_holds, clamped_holds, clamped_top, clamped_bottom}
use Rattle.rb_trig.proofs.Sizes.{some_divisor}
use Rattle.rb_trig.proofs.Series.{over, cosine_factor, sine_factor, cosine_sum_is, sine_sum_is}

-- ---- nested products
-- one step, where e is one by the divisor
step_equal : (u q t d e : ℚ) → d *ℚ e ≡ 1ℚ → (u *ℚ t) *ℚ (q *ℚ t) ≡ (((u *ℚ e) *ℚ q) *ℚ t) *ℚ (t *ℚ d)
step_equal u q t d e h = combine rats (nth 0ℚ (u ∷ q ∷ t ∷ d ∷ e ∷ [])) (times (times (var 0) (var 2)) (times (var 1) (var 2)))
    (times (times (times (times (var 0) (var 4)) (var 1)) (var 2)) (times (var 2) (var 3)))
    (record { by = minus (times (times (var 0) (var 1)) (times (var 2) (var 2))); left = times (var 3) (var 4); right = eone } ∷ []) refl (h, tt)

rest_equal : (p t : ℚ) → t +ℚ neg_ℚ (p *ℚ t) ≡ (1ℚ +ℚ neg_ℚ p) *ℚ t
rest_equal p t = ring rats (nth 0ℚ (p ∷ t ∷ [])) (plus (var 1) (minus (times (var 0) (var 1)))) (times (plus eone (minus (var 0))) (var 1)) refl

step_at : (u h : Interval) (n d : ℕ) (a q : ℚ) → 0 < n → 0 < d → 0 < n * d → Holds u (a *ℚ whole (pos n)) → Holds h (q *ℚ whole (pos n))
    → Holds (outward (products u h) (pos (n * d))) (((a *ℚ inv (whole (pos d))) *ℚ q) *ℚ whole (pos n))
step_at u h n d a q pn pd p i j =
    outward_holds (products u h) (n * d) _ p
    (subst (λ (r : ℚ). Holds (products u h) r)
    (step_equal a q (whole (pos n)) (whole (pos d)) (inv (whole (pos d))) (mul_inv _ (whole_pos d pd).not_zero) ∙ ap (λ (r : ℚ). (((a *ℚ inv (whole (pos d))) *ℚ q) *ℚ whole (pos n)) *ℚ r) (sym (whole-mul (pos n) (pos d))))
    (products_hold u h _ _ i j))

some_scaled : (d : ℕ) → 0 < d → 0 < scale * d
some_scaled d h = omega arith

step_holds : (u h : Interval) (d : ℕ) (a q : ℚ) → 0 < d → Holds u (a *ℚ whole (pos scale)) → Holds h (q *ℚ whole (pos scale))
    → Holds (step u h (pos d)) ((1ℚ +ℚ neg_ℚ ((a *ℚ inv (whole (pos d))) *ℚ q)) *ℚ whole (pos scale))
unfolding step
step_holds u h d a q p i j =
    subst (λ (r : ℚ). Holds (step u h (pos d)) r) (rest_equal ((a *ℚ inv (whole (pos d))) *ℚ q) (whole (pos scale)))
    (difference_holds (pos scale) (outward (products u h) (pos (scale * d))) _ (step_at u h scale d a q (omega arith) p (some_scaled d p) i j))

-- a step, where r is less the square over the divisor
step_rewritten : (a e r q t : ℚ) → r ≡ neg_ℚ (a *ℚ e) → (1ℚ +ℚ neg_ℚ ((a *ℚ e) *ℚ q)) *ℚ t ≡ (1ℚ +ℚ r *ℚ q) *ℚ t
step_rewritten a e r q t h = combine rats (nth 0ℚ (a ∷ e ∷ r ∷ q ∷ t ∷ [])) (times (plus eone (minus (times (times (var 0) (var 1)) (var 3)))) (var 4)) (times (plus eone (times (var 2) (var 3))) (var 4))
    (record { by = minus (times (var 3) (var 4)); left = var 2; right = minus (times (var 0) (var 1)) } ∷ []) refl (h, tt)

pub nested_holds : (s : Series) (u : Interval) (a : ℚ) (r : ℕ → ℚ) (m k : ℕ) → ((i : ℕ) → r i ≡ neg_ℚ (a *ℚ over s (k + i))) → 1 ≤ k → Holds u (a *ℚ whole (pos scale)) → Holds (nested s u k m) (nest rats r m *ℚ whole (pos scale))
unfolding nested nest over
nested_holds s u a r zero k e p h =
    subst (λ (q : ℚ). Holds (interval (pos scale) (pos scale)) q) (ring rats (nth 0ℚ (whole (pos scale) ∷ [])) (var 0) (times eone (var 0)) refl)
    record { low = le_refl_ℚ _; high = le_refl_ℚ _ }
nested_holds s u a r (suc m) k e p h =
    subst (λ (q : ℚ). Holds (step u (nested s u (suc k) m) (pos (divisor s k))) q)
    (step_rewritten a (over s k) (r 0) (nest rats (λ i. r (suc i)) m) (whole (pos scale)) (e 0 ∙ ap (λ (j : ℕ). neg_ℚ (a *ℚ over s j)) (first k)))
    (step_holds u (nested s u (suc k) m) (divisor s k) a (nest rats (λ i. r (suc i)) m) (some_divisor s k p) h
    (nested_holds s u a (λ i. r (suc i)) m (suc k) (λ i. e (suc i) ∙ ap (λ (j : ℕ). neg_ℚ (a *ℚ over s j)) (later k i)) (omega arith) h))
  where
    first : (k : ℕ) → k + 0 ≡ k
    first k = omega arith

    later : (k i : ℕ) → k + suc i ≡ suc k + i
    later k i = omega arith

-- ---- the square of an angle
square_equal : (x g f t : ℚ) → f *ℚ t ≡ g *ℚ g → (x *ℚ g) *ℚ (x *ℚ g) ≡ ((x *ℚ x) *ℚ t) *ℚ f
square_equal x g f t h = combine rats (nth 0ℚ (x ∷ g ∷ f ∷ t ∷ [])) (times (times (var 0) (var 1)) (times (var 0) (var 1))) (times (times (times (var 0) (var 0)) (var 3)) (var 2))
    (record { by = minus (times (var 0) (var 0)); left = times (var 2) (var 3); right = times (var 1) (var 1) } ∷ []) refl (h, tt)

scales : whole (pos 100000000) *ℚ whole (pos scale) ≡ whole (pos grid) *ℚ whole (pos grid)
scales = sym (whole-mul (pos 100000000) (pos scale)) ∙ whole-mul (pos grid) (pos grid)

pub square_holds : (t : Interval) (x : Frac) → LiesIn x t → Holds (square_of t) ((cls x *ℚ cls x) *ℚ whole (pos scale))
unfolding square_of
square_holds t x h =
    outward_holds (squares t) 100000000 _ (omega arith)
    (subst (λ (r : ℚ). Holds (squares t) r) (square_equal (cls x) (whole (pos grid)) (whole (pos 100000000)) (whole (pos scale)) scales) (squares_hold t _ (from_lies x t h)))

-- ---- the sums
less_one : (m : ℕ) → suc m - 1 ≡ m
less_one m = omega arith

coarse : (q t g f : ℚ) → g *ℚ f ≡ t → q *ℚ t ≡ (q *ℚ g) *ℚ f
coarse q t g f h = combine rats (nth 0ℚ (q ∷ t ∷ g ∷ f ∷ [])) (times (var 0) (var 1)) (times (times (var 0) (var 2)) (var 3))
    (record { by = minus (var 0); left = times (var 2) (var 3); right = var 1 } ∷ []) refl (h, tt)

pub cosines_lie : (t : Interval) (x : Frac) (m : ℕ) → LiesIn x t → LiesIn (cosine_sum x (suc m)) (cosines (square_of t) (suc m))
unfolding cosines
cosines_lie t x m h =
    to_lies _ _
    (subst (λ (j : ℕ). Holds (outward (nested Cosine (square_of t) 1 j) (pos 10000)) (cls (cosine_sum x (suc m)) *ℚ whole (pos grid))) (sym (less_one m))
    (outward_holds (nested Cosine (square_of t) 1 m) 10000 _ (omega arith)
    (subst (λ (r : ℚ). Holds (nested Cosine (square_of t) 1 m) r)
    (coarse _ _ (whole (pos grid)) (whole (pos 10000)) (sym (whole-mul (pos grid) (pos 10000))) ∙ ap (λ (r : ℚ). (r *ℚ whole (pos grid)) *ℚ whole (pos 10000)) (sym (cosine_sum_is x m)))
    (nested_holds Cosine (square_of t) (cls x *ℚ cls x) (λ k. factor (cls x) (2 * k)) m 1 (cosine_factor (cls x)) (omega arith) (square_holds t x h)))))

along : (x g q t : ℚ) → (x *ℚ g) *ℚ (q *ℚ t) ≡ ((x *ℚ q) *ℚ g) *ℚ t
along x g q t = ring rats (nth 0ℚ (x ∷ g ∷ q ∷ t ∷ [])) (times (times (var 0) (var 1)) (times (var 2) (var 3))) (times (times (times (var 0) (var 2)) (var 1)) (var 3)) refl

pub sines_lie : (t : Interval) (x : Frac) (m : ℕ) → LiesIn x t → LiesIn (sine_sum x (suc m)) (sines t (square_of t) (suc m))
unfolding sines
sines_lie t x m h =
    to_lies _ _
    (subst (λ (j : ℕ). Holds (outward (products t (nested Sine (square_of t) 1 j)) (pos scale)) (cls (sine_sum x (suc m)) *ℚ whole (pos grid))) (sym (less_one m))
    (outward_holds (products t (nested Sine (square_of t) 1 m)) scale _ (omega arith)
    (subst (λ (r : ℚ). Holds (products t (nested Sine (square_of t) 1 m)) r)
    (along _ _ _ _ ∙ ap (λ (r : ℚ). (r *ℚ whole (pos grid)) *ℚ whole (pos scale)) (sym (sine_sum_is x m)))
    (products_hold t (nested Sine (square_of t) 1 m) _ _ (from_lies x t h)
    (nested_holds Sine (square_of t) (cls x *ℚ cls x) (λ k. factor (cls x) (2 * k + 1)) m 1 (sine_factor (cls x)) (omega arith) (square_holds t x h))))))

-- ---- the cut and the clamp
one_times : (g : ℚ) → 1ℚ *ℚ g ≡ g
one_times g = ring rats (nth 0ℚ (g ∷ [])) (times eone (var 0)) (var 0) refl

from_one : (g q : ℚ) → 0ℚ ≤ℚ g → 1ℚ ≤ℚ q → g ≤ℚ (q *ℚ g)
from_one g q h k = subst (λ (r : ℚ). r ≤ℚ (q *ℚ g)) (ring rats (nth 0ℚ (g ∷ [])) (times (var 0) eone) (var 0) refl)
    (subst (λ (r : ℚ). (g *ℚ 1ℚ) ≤ℚ r) (ring rats (nth 0ℚ (g ∷ q ∷ [])) (times (var 0) (var 1)) (times (var 1) (var 0)) refl) (mul_le_ℚ g h k))

to_one : (g q : ℚ) → 0ℚ ≤ℚ g → q ≤ℚ 1ℚ → (q *ℚ g) ≤ℚ g
to_one g q h k = subst (λ (r : ℚ). (q *ℚ g) ≤ℚ r) (ring rats (nth 0ℚ (g ∷ [])) (times (var 0) eone) (var 0) refl)
    (subst (λ (r : ℚ). r ≤ℚ (g *ℚ 1ℚ)) (ring rats (nth 0ℚ (g ∷ q ∷ [])) (times (var 0) (var 1)) (times (var 1) (var 0)) refl) (mul_le_ℚ g h k))

minus_times : (g : ℚ) → g *ℚ neg_ℚ 1ℚ ≡ neg_ℚ g
minus_times g = ring rats (nth 0ℚ (g ∷ [])) (times (var 0) (minus eone)) (minus (var 0)) refl

to_minus : (g q : ℚ) → 0ℚ ≤ℚ g → q ≤ℚ neg_ℚ 1ℚ → (q *ℚ g) ≤ℚ neg_ℚ g
to_minus g q h k = subst (λ (r : ℚ). (q *ℚ g) ≤ℚ r) (minus_times g)
    (subst (λ (r : ℚ). r ≤ℚ (g *ℚ neg_ℚ 1ℚ)) (ring rats (nth 0ℚ (g ∷ q ∷ [])) (times (var 0) (var 1)) (times (var 1) (var 0)) refl) (mul_le_ℚ g h k))

from_minus : (g q : ℚ) → 0ℚ ≤ℚ g → neg_ℚ 1ℚ ≤ℚ q → neg_ℚ g ≤ℚ (q *ℚ g)
from_minus g q h k = subst (λ (r : ℚ). r ≤ℚ (q *ℚ g)) (minus_times g)
    (subst (λ (r : ℚ). (g *ℚ neg_ℚ 1ℚ) ≤ℚ r) (ring rats (nth 0ℚ (g ∷ q ∷ [])) (times (var 0) (var 1)) (times (var 1) (var 0)) refl) (mul_le_ℚ g h k))

abbrev G : ℚ
G = whole (pos grid)

le-one : (x : Frac) → Le x one → (cls x *ℚ G) ≤ℚ G
le-one x h = to_one G (cls x) (nonneg_whole grid) (subst (λ (r : ℚ). cls x ≤ℚ r) cls-one ((cls-le x one).0 h))

one-le : (x : Frac) → Le one x → G ≤ℚ (cls x *ℚ G)
one-le x h = from_one G (cls x) (nonneg_whole grid) (subst (λ (r : ℚ). r ≤ℚ cls x) cls-one ((cls-le one x).0 h))

le-minus : (x : Frac) → Le x minus_one → (cls x *ℚ G) ≤ℚ whole (neg_ℤ (pos grid))
le-minus x h = subst (λ (r : ℚ). (cls x *ℚ G) ≤ℚ r) (sym (whole-neg (pos grid))) (to_minus G (cls x) (nonneg_whole grid) (subst (λ (r : ℚ). cls x ≤ℚ r) cls-minus_one ((cls-le x minus_one).0 h)))

minus-le : (x : Frac) → Le minus_one x → whole (neg_ℤ (pos grid)) ≤ℚ (cls x *ℚ G)
minus-le x h = subst (λ (r : ℚ). r ≤ℚ (cls x *ℚ G)) (sym (whole-neg (pos grid))) (from_minus G (cls x) (nonneg_whole grid) (subst (λ (r : ℚ). r ≤ℚ cls x) cls-minus_one ((cls-le minus_one x).0 h)))

pub cut_lies : (x : Frac) (v : Interval) → LiesIn x v → LiesIn (cut x) (clamped v)
cut_lies x v h = by_one (total_le one x)
  where
    k : Holds v (cls x *ℚ G)
    k = from_lies x v h

    by_minus : Le x one → Le minus_one x ⊎ Le x minus_one → LiesIn (cut x) (clamped v)
    by_minus a (inl b) = lies_in_same x (cut x) (clamped v) (same_sym (cut x) x (is_cut.inside x b a)) (to_lies x (clamped v) (clamped_holds v _ k (minus-le x b) (le-one x a)))
    by_minus a (inr b) = lies_in_same minus_one (cut x) (clamped v) (same_sym (cut x) minus_one (is_cut.below x b))
        (to_lies minus_one (clamped v) (subst (λ (r : ℚ). Holds (clamped v) r) (whole-neg (pos grid) ∙ neg_times G ∙ ap (λ (r : ℚ). r *ℚ G) (sym cls-minus_one)) (clamped_bottom v _ k (le-minus x b))))
      where
        neg_times : (g : ℚ) → neg_ℚ g ≡ neg_ℚ 1ℚ *ℚ g
        neg_times g = ring rats (nth 0ℚ (g ∷ [])) (minus (var 0)) (times (minus eone) (var 0)) refl

    by_one : Le one x ⊎ Le x one → LiesIn (cut x) (clamped v)
    by_one (inl a) = lies_in_same one (cut x) (clamped v) (same_sym (cut x) one (is_cut.above x a))
        (to_lies one (clamped v) (subst (λ (r : ℚ). Holds (clamped v) r) (sym (one_times G) ∙ ap (λ (r : ℚ). r *ℚ G) (sym cls-one)) (clamped_top v _ k (one-le x a))))
    by_one (inr a) = by_minus a (total_le minus_one x)

-- ---- between two
lesser_has : (P : Frac → Type 0) (x y : Frac) → P x → P y → P (lesser x y)
unfolding lesser
lesser_has P x y h k = elim (is_le x y) as (λ b. P (cond b x y)) [ true ↦ h | false ↦ k ]

greater_has : (P : Frac → Type 0) (x y : Frac) → P x → P y → P (greater x y)
unfolding greater
greater_has P x y h k = elim (is_le x y) as (λ b. P (cond b y x)) [ true ↦ k | false ↦ h ]

holds_between : (v : Interval) (x y z : ℚ) → Holds v x → Holds v y → x ≤ℚ z → z ≤ℚ y → Holds v z
holds_between v x y z h k i j = record { low = le_trans_ℚ h.low i; high = le_trans_ℚ j k.high }

between_lies : (v : Interval) (x y z : Frac) → LiesIn x v → LiesIn y v → IsBetween x y z → LiesIn z v
between_lies v x y z h k b =
    to_lies z v (holds_between v _ _ _ (from_lies _ v (lesser_has (λ (t : Frac). LiesIn t v) x y h k)) (from_lies _ v (greater_has (λ (t : Frac). LiesIn t v) x y h k))
    (scaled ((cls-le (lesser x y) z).0 b.above)) (scaled ((cls-le z (greater x y)).0 b.below)))
  where
    scaled : {p q : ℚ} → p ≤ℚ q → (p *ℚ G) ≤ℚ (q *ℚ G)
    scaled {p} {q} l = subst (λ (r : ℚ). r ≤ℚ (q *ℚ G)) (ring rats (nth 0ℚ (G ∷ p ∷ [])) (times (var 0) (var 1)) (times (var 1) (var 0)) refl)
        (subst (λ (r : ℚ). (G *ℚ p) ≤ℚ r) (ring rats (nth 0ℚ (G ∷ q ∷ [])) (times (var 0) (var 1)) (times (var 1) (var 0)) refl) (mul_le_ℚ G (nonneg_whole grid) l))

both_lie : (a b : Interval) (x y z : Frac) → LiesIn x a → LiesIn y b → IsBetween (cut x) (cut y) z → LiesIn z (clamped (hull_of a b))
both_lie a b x y z h k i =
    let e = hull_encloses a b (hull_of a b) refl in
    between_lies (clamped (hull_of a b)) (cut x) (cut y) z (cut_lies x _ (e.left x h)) (cut_lies y _ (e.right y k)) i

pub encloses : (t : Interval) → Encloses t (sine_of t, cosine_of t)
unfolding sine_of cosine_of
encloses t = record {
  at = λ x s c h g. (
    both_lie _ _ (sine_sum x terms) (sine_sum x (terms + 1)) s (sines_lie t x (terms - 1) h) (sines_lie t x terms h) g.sine,
    both_lie _ _ (cosine_sum x terms) (cosine_sum x (terms + 1)) c (cosines_lie t x (terms - 1) h) (cosines_lie t x terms h) g.cosine,
  );
}
