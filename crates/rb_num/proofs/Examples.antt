-- Four lemmas, each proved in one of the ways that docs/proofs.md explains.
use Rattle.std.proofs.Common.{◌≡◌, pos, Ok, [], ◌∷◌, refl, sym, ◌∙◌}
use Rattle.rb_frac.specs.Frac as F
use Rattle.rb_frac.specs.Frac.{Frac, Same, Le}
use Rattle.rb_frac.proofs.Ring.{var, enul, eone, plus, times, minus}
use Rattle.rb_frac.proofs.Vec.{nth}
use Rattle.rb_frac.proofs.Quote.{with2, quote, finish}
use Rattle.rb_frac.proofs.Combine.{combine}
use Rattle.rb_frac.proofs.Interval.{bound}
use Rattle.rb_frac.proofs.Order.{square_nn}
use Rattle.rb_frac.proofs.Hom.{inside}
use Rattle.rb_frac.proofs.Rational.{ℚ, ◌+ℚ◌, ◌*ℚ◌, neg_ℚ, 0ℚ, 1ℚ, inv, rats, ◌≤ℚ◌, cls, sound, exact, cls-le, null-cls, cls_of_quot, mul_inv}
use Rattle.rb_num.specs.Interval.{Interval}
use Rattle.rb_num.specs.Fraction.{LiesIn}
use Rattle.rb_num.specs.Arith.{Arith, intervals, fractions}
use Rattle.rb_num.proofs.Relates.{Relates, Met, dot_met}
use Rattle.rb_num.proofs.Bridges.{to_intervals, ok_met}

-- ---- an identity without quotients
squares_ℚ : (p q : ℚ) → (p +ℚ q) *ℚ (p +ℚ neg_ℚ q) ≡ p *ℚ p +ℚ neg_ℚ (q *ℚ q)
squares_ℚ p q = with2 p q λ ρ a b. simp (a, b, quote) (finish ρ _ _ refl)

pub squares : (x y : Frac) → Same (F.mul (F.add x y) (F.sub x y)) (F.sub (F.mul x x) (F.mul y y))
squares x y = exact (F.mul (F.add x y) (F.sub x y)) (F.sub (F.mul x x) (F.mul y y)) (simp inside (squares_ℚ (cls x) (cls y)))

-- ---- a quotient: its inverse is a variable with an equation
solved_ℚ : (a x b e : ℚ) → a *ℚ e ≡ 1ℚ → a *ℚ x ≡ b → x ≡ b *ℚ e
solved_ℚ a x b e h k = combine rats (nth 0ℚ (a ∷ x ∷ b ∷ e ∷ [])) (var 1) (times (var 2) (var 3)) (
    record { by = minus (var 1); left = times (var 0) (var 3); right = eone } ∷
    record { by = var 3; left = times (var 0) (var 1); right = var 2 } ∷ []
    ) refl (h, (k, tt))

pub only_quotient : (a x b : Frac) → ¬ (a.num ≡ pos 0) → Same (F.mul a x) b → Same x (F.quot b a)
only_quotient a x b n h =
    exact x (F.quot b a) (solved_ℚ (cls a) (cls x) (cls b) (inv (cls a)) (mul_inv (cls a) (λ e. n (null-cls a e))) (simp inside at (sound (F.mul a x) b h)) ∙ sym (cls_of_quot b a))

-- ---- an inequality: the difference of its sides is a square
twice_ℚ : (p q : ℚ) → (p *ℚ q +ℚ p *ℚ q) ≤ℚ (p *ℚ p +ℚ q *ℚ q)
twice_ℚ p q = bound (nth 0ℚ (p ∷ q ∷ []))
    (plus (times (var 0) (var 1)) (times (var 0) (var 1)))
    (plus (times (var 0) (var 0)) (times (var 1) (var 1)))
    (plus (times (plus (var 0) (minus (var 1))) (plus (var 0) (minus (var 1)))) (minus enul) ∷ []) [] refl ((square_nn (p +ℚ neg_ℚ q)).le, tt) tt

pub twice_product : (x y : Frac) → Le (F.add (F.mul x y) (F.mul x y)) (F.add (F.mul x x) (F.mul y y))
twice_product x y = (cls-le (F.add (F.mul x y) (F.mul x y)) (F.add (F.mul x x) (F.mul y y))).1 (simp inside (twice_ℚ (cls x) (cls y)))

-- ---- a rule over any arithmetic, and that it keeps every relation
module _ (R : Arith) where
  -- x² + y²
  unfoldable pub square_length : R.N → R.N → R.M R.N
  square_length x y = R.dot ((x, x) ∷ (y, y) ∷ [])

module _ {R Q : Arith} (K : Relates R Q) where
  pub square_length_met : {x y : R.N} {p q : Q.N} → K.rel x p → K.rel y q → Met K K.rel (square_length R x y) (square_length Q p q)
  unfolding square_length
  square_length_met h k = dot_met K _ _ (h, h, (k, k, tt))

-- over intervals it encloses what it is over fractions
pub square_length_encloses : (x y : Frac) (a b v : Interval) → LiesIn x a → LiesIn y b → square_length intervals a b ≡ Ok v → LiesIn (square_length fractions x y) v
square_length_encloses x y a b v h k e = ok_met e (square_length_met to_intervals h k)
