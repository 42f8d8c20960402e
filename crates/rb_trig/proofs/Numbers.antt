-- Whole numbers among the rational numbers, and numbers between the ends of an interval, in whatever its ends count.
use Rattle.std.proofs.Common.{◌≡◌, ℕ, ℤ, pos, ◌<◌, ◌*◌, ◌+ℤ◌, ◌*ℤ◌, neg_ℤ, ◌≤ℤ◌, [], ◌∷◌, refl, sym, ◌∙◌, subst, arith}
use Rattle.std.proofs.lemmas.Int.{ints}
use Rattle.rb_frac.specs.Frac as F
use Rattle.rb_frac.specs.Frac.{Frac}
use Rattle.rb_frac.proofs.Ring.{var, eone, plus, times, minus, ring}
use Rattle.rb_frac.proofs.Vec.{nth}
use Rattle.rb_frac.proofs.Whole.{whole as whole_ring}
use Rattle.rb_frac.proofs.Rational.{ℚ, ◌+ℚ◌, ◌*ℚ◌, neg_ℚ, 0ℚ, inv, cls, cls-le, cls-zero, null-cls, sound, nn-cls, nn_mul, mul_inv, ◌≤ℚ◌}
use Rattle.rb_frac.proofs.Hom.{cls_of_add, cls_of_mul, cls_of_neg}
use Rattle.rb_frac.proofs.Interval.{bound, IsPos, inv_pos}
use Rattle.rb_num.specs.Interval.{Interval, grid}
use Rattle.rb_num.specs.Fraction.{LiesIn}
use Rattle.rb_num.proofs.Order.{times_pos}
use Rattle.rb_num.proofs.Quotients.{cancel_pos}
use Rattle.rb_num.proofs.Ring.{at, nat, ◌⊗◌, le_by, le_from}

unfoldable pub whole : ℤ → ℚ
whole z = cls (F.whole z)

pub whole-add : (a b : ℤ) → whole (a +ℤ b) ≡ whole a +ℚ whole b
unfolding whole F.whole F.add
whole-add a b = sound _ _ (ring whole_ring (nth (pos 0) (a ∷ b ∷ [])) (times (plus (var 0) (var 1)) eone) (times (plus (times (var 0) eone) (times (var 1) eone)) eone) refl) ∙ cls_of_add (F.whole a) (F.whole b)

pub whole-mul : (a b : ℤ) → whole (a *ℤ b) ≡ whole a *ℚ whole b
unfolding whole F.whole F.mul
whole-mul a b = sound (F.whole (a *ℤ b)) (F.mul (F.whole a) (F.whole b)) refl ∙ cls_of_mul (F.whole a) (F.whole b)

pub whole-neg : (a : ℤ) → whole (neg_ℤ a) ≡ neg_ℚ (whole a)
unfolding whole F.whole F.neg
whole-neg a = cls_of_neg (F.whole a)

pub whole-le : (a b : ℤ) → a ≤ℤ b → whole a ≤ℚ whole b
unfolding whole F.whole
whole-le a b h = (cls-le (F.whole a) (F.whole b)).0 (times_pos a b 1 h)

pub le-whole : (a b : ℤ) → whole a ≤ℚ whole b → a ≤ℤ b
unfolding whole F.whole
le-whole a b h = cancel_pos a b 1 (omega arith) ((cls-le (F.whole a) (F.whole b)).1 h)

pub whole_zero : whole (pos 0) ≡ 0ℚ
unfolding whole
whole_zero = cls-zero

pub whole_pos : (n : ℕ) → 0 < n → IsPos (whole (pos n))
unfolding whole F.whole
whole_pos n h = record {
  not_neg = nn-cls (F.whole (pos n)) tt;
  not_zero = λ e. no (null-cls (F.whole (pos n)) e);
}
  where
    no : pos n ≡ pos 0 → ⊥
    no e = absurd (omega (arith, ints, e))

pub nonneg_whole : (n : ℕ) → 0ℚ ≤ℚ whole (pos n)
nonneg_whole n = subst (λ (q : ℚ). q ≤ℚ whole (pos n)) whole_zero (whole-le (pos 0) (pos n) (omega (arith, ints)))

-- a positive factor cancels
pub cancel_ℚ : (a b c : ℚ) → IsPos c → (a *ℚ c) ≤ℚ (b *ℚ c) → a ≤ℚ b
cancel_ℚ a b c p h =
    bound (nth 0ℚ (a ∷ b ∷ c ∷ inv c ∷ [])) (var 0) (var 1)
    (times (var 3) (plus (times (var 1) (var 2)) (minus (times (var 0) (var 2)))) ∷ [])
    (record { by = minus (plus (var 1) (minus (var 0))); left = times (var 2) (var 3); right = eone } ∷ []) refl
    (nn_mul _ _ (inv_pos c p).not_neg h.le, tt) (mul_inv c p.not_zero, tt)

-- ---- between the ends
pub record Holds (v : Interval) (q : ℚ) : Type 0 where
  pub low : whole v.lo ≤ℚ q
  pub high : q ≤ℚ whole v.hi

low_end : (l n : ℤ) (d G : ℕ) → (l *ℤ pos d) ≤ℤ (n *ℤ pos G) → (l *ℤ pos (d * 1)) ≤ℤ ((n *ℤ pos G) *ℤ pos 1)
low_end l n d G h = le_by (at l ⊗ nat (d * 1)) ((at n ⊗ nat G) ⊗ nat 1) (omega (arith, le_from (at l ⊗ nat d) (at n ⊗ nat G) h))

low_back : (l n : ℤ) (d G : ℕ) → (l *ℤ pos (d * 1)) ≤ℤ ((n *ℤ pos G) *ℤ pos 1) → (l *ℤ pos d) ≤ℤ (n *ℤ pos G)
low_back l n d G h = le_by (at l ⊗ nat d) (at n ⊗ nat G) (omega (arith, le_from (at l ⊗ nat (d * 1)) ((at n ⊗ nat G) ⊗ nat 1) h))

high_end : (l n : ℤ) (d G : ℕ) → (n *ℤ pos G) ≤ℤ (l *ℤ pos d) → ((n *ℤ pos G) *ℤ pos 1) ≤ℤ (l *ℤ pos (d * 1))
high_end l n d G h = le_by ((at n ⊗ nat G) ⊗ nat 1) (at l ⊗ nat (d * 1)) (omega (arith, le_from (at n ⊗ nat G) (at l ⊗ nat d) h))

high_back : (l n : ℤ) (d G : ℕ) → ((n *ℤ pos G) *ℤ pos 1) ≤ℤ (l *ℤ pos (d * 1)) → (n *ℤ pos G) ≤ℤ (l *ℤ pos d)
high_back l n d G h = le_by (at n ⊗ nat G) (at l ⊗ nat d) (omega (arith, le_from ((at n ⊗ nat G) ⊗ nat 1) (at l ⊗ nat (d * 1)) h))

pub from_lies : (x : Frac) (v : Interval) → LiesIn x v → Holds v (cls x *ℚ whole (pos grid))
unfolding whole F.whole F.mul
from_lies x v h =
    subst (λ (q : ℚ). Holds v q) (cls_of_mul x (F.whole (pos grid))) record {
      low = (cls-le (F.whole v.lo) (F.mul x (F.whole (pos grid)))).0 (low_end v.lo x.num x.den grid h.above);
      high = (cls-le (F.mul x (F.whole (pos grid))) (F.whole v.hi)).0 (high_end v.hi x.num x.den grid h.below);
    }

pub to_lies : (x : Frac) (v : Interval) → Holds v (cls x *ℚ whole (pos grid)) → LiesIn x v
unfolding whole F.whole F.mul
to_lies x v h =
    let k = subst (λ (q : ℚ). Holds v q) (sym (cls_of_mul x (F.whole (pos grid)))) h in
    record {
      above = low_back v.lo x.num x.den grid ((cls-le (F.whole v.lo) (F.mul x (F.whole (pos grid)))).1 k.low);
      below = high_back v.hi x.num x.den grid ((cls-le (F.mul x (F.whole (pos grid))) (F.whole v.hi)).1 k.high);
    }
