-- Records over fractions as equations of rational numbers.
use Rattle.std.proofs.Common.{◌≡◌, ℕ, zero, suc, ◌<◌, ◌≤◌, sym, ◌∙◌, ap, ap₂, arith}
use Rattle.rb_frac.specs.Frac as F
use Rattle.rb_frac.specs.Frac.{Frac, Same, fracs}
use Rattle.rb_frac.proofs.Sums.{sum, sum_ext}
use Rattle.rb_frac.proofs.Rational.{ℚ, ◌+ℚ◌, ◌*ℚ◌, neg_ℚ, inv, qo, cls, sound, cls_of_quot}
use Rattle.rb_frac.proofs.Hom.{inside, cls_of_add, cls_of_mul, cls_of_neg}
use Rattle.rb_frac.proofs.Transfer.{cls-sum}
use Rattle.rb_elimination.specs.Paths.{IsColumn}
use Rattle.rb_elimination.proofs.Numbers.{row, rows}

pub number : (n c : ℕ) → c < n → IsColumn n (suc c)
number n c l = record { from = omega arith; to = omega arith }

pub less_of : (a l b r : Frac) → Same r (F.sub a (F.mul l b)) → cls r ≡ cls a +ℚ neg_ℚ (cls l *ℚ cls b)
less_of a l b r h = simp inside at (sound r (F.sub a (F.mul l b)) h)

pub quotient_of : (a b q : Frac) → Same q (F.quot a b) → cls q ≡ cls a *ℚ inv (cls b)
quotient_of a b q h = sound q (F.quot a b) h ∙ cls_of_quot a b

pub cls_of_products : (n : ℕ) (a b : ℕ → Frac) → cls (sum fracs n (λ c. F.mul (a c) (b c))) ≡ sum qo n (λ c. cls (a c) *ℚ cls (b c))
cls_of_products n a b =
    cls-sum n (λ c. F.mul (a c) (b c))
    ∙ sum_ext qo n (λ c. cls (F.mul (a c) (b c))) (λ c. cls (a c) *ℚ cls (b c)) (λ c l. cls_of_mul (a c) (b c))

pub products_of : (n : ℕ) (a b : ℕ → Frac) (t : Frac) → Same t (sum fracs n (λ c. F.mul (a (suc c)) (b (suc c)))) → cls t ≡ sum qo n (λ c. cls (a (suc c)) *ℚ cls (b (suc c)))
products_of n a b t h = sound t (sum fracs n (λ c. F.mul (a (suc c)) (b (suc c)))) h ∙ cls_of_products n (λ c. a (suc c)) (λ c. b (suc c))

pub sum_of : (a b t : Frac) → Same t (F.add a b) → cls t ≡ cls a +ℚ cls b
sum_of a b t h = sound t (F.add a b) h ∙ cls_of_add a b

pub negative_of : (a t : Frac) → Same t (F.neg a) → cls t ≡ neg_ℚ (cls a)
negative_of a t h = sound t (F.neg a) h ∙ cls_of_neg a
