-- From rational numbers back to fractions.
use mathlib.Core.Path.{◌≡◌, sym, ◌∙◌, ap, subst, fun_ext}
use Prim.Native.Nat.{ℕ, zero, suc, ◌<◌}
use lib.IntN.{pos}
use Rattle.rb_frac.proofs.Sums.{sum, sum_ext}
use Rattle.rb_frac.proofs.Rational.{ℚ, ◌+ℚ◌, ◌*ℚ◌, neg_ℚ, 0ℚ, 1ℚ, inv, rats, qo, cls, sound, exact, cls-rep, cls-add, cls-mul, cls-neg, cls-quot, null-cls}
use Rattle.rb_frac.proofs.Rational as Q
use Rattle.rb_frac.proofs.Hom.{cls_of_sub}
use Rattle.rb_frac.proofs.Eliminate as E
use Rattle.rb_frac.specs.Frac as F
use Rattle.rb_frac.specs.Frac.{Frac, Same}
use Rattle.rb_frac.specs.System.{Solves, eliminated, HasPivots, HasOneSolution, Solvable}

pub cls-sum : (n : ℕ) (f : ℕ → Frac) → cls (sum F.fracs n f) ≡ sum qo n (λ i. cls (f i))
unfolding sum
cls-sum zero f = Q.cls-zero
cls-sum (suc n) f = sym (cls-add (sum F.fracs n f) (f n)) ∙ ap (λ t. t +ℚ cls (f n)) (cls-sum n f)

table : (ℕ → ℕ → Frac) → ℕ → ℕ → ℚ
table m i d = cls (m i d)

cls-eliminated : (n : ℕ) (m : ℕ → ℕ → Frac) → ¬ ((m n n).num ≡ pos 0) → table (eliminated n m) ≡ E.schur n (table m)
unfolding table eliminated
cls-eliminated n m p = fun_ext λ i. fun_ext λ d. cls_of_sub (m i d) (F.mul (F.quot (m i n) (m n n)) (m n d))
    ∙ ap (λ t. cls (m i d) +ℚ neg_ℚ t) (sym (cls-mul (F.quot (m i n) (m n n)) (m n d)) ∙ ap (λ t. t *ℚ cls (m n d)) (cls-quot (m i n) (m n n) p)) ∙ sym (E.schur_is n (λ i d. cls (m i d)) i d)

pivots : (n : ℕ) (m : ℕ → ℕ → Frac) → HasPivots n m → E.Pivots n (table m)
unfolding HasPivots E.Pivots table
pivots zero m h = tt
pivots (suc n) m h = (λ e. h.0 (null-cls (m n n) e), subst (λ t. E.Pivots n t) (cls-eliminated n m h.0) (pivots n (eliminated n m) h.1))

solves : (n : ℕ) (m : ℕ → ℕ → Frac) (w x : ℕ → Frac) → Solves n m w x → E.Solves n (table m) (λ i. cls (w i)) (λ i. cls (x i))
unfolding table
solves n m w x h i l = sum_ext qo n (λ d. cls (m i d) *ℚ cls (x d)) (λ d. cls (F.mul (m i d) (x d))) (λ d k. cls-mul (m i d) (x d)) ∙ sym (cls-sum n (λ d. F.mul (m i d) (x d))) ∙ sound (sum F.fracs n (λ d. F.mul (m i d) (x d))) (w i) (h i l)

solves_back : (n : ℕ) (m : ℕ → ℕ → Frac) (w : ℕ → Frac) (x : ℕ → ℚ) → E.Solves n (table m) (λ i. cls (w i)) x → Solves n m w (λ i. (x i).rep)
unfolding table
solves_back n m w x h i l = exact (sum F.fracs n (λ d. F.mul (m i d) (x d).rep)) (w i) (cls-sum n (λ d. F.mul (m i d) (x d).rep)
    ∙ sum_ext qo n (λ d. cls (F.mul (m i d) (x d).rep)) (λ d. cls (m i d) *ℚ x d) (λ d k. sym (cls-mul (m i d) (x d).rep) ∙ ap (λ t. cls (m i d) *ℚ t) (cls-rep (x d))) ∙ h i l)

pub solvable : Solvable
solvable n m w p = go (E.one_solution n (table m) (λ i. cls (w i)) (pivots n m p))
  where
    go : (x : ℕ → ℚ) × E.Solves n (table m) (λ i. cls (w i)) x × ((y : ℕ → ℚ) → E.Solves n (table m) (λ i. cls (w i)) y → (i : ℕ) → i < n → y i ≡ x i) → HasOneSolution n m w
    go r = (λ i. (r.0 i).rep, solves_back n m w r.0 r.1, λ y h i l. exact (y i) (r.0 i).rep (r.2 (λ j. cls (y j)) (solves n m w y h) i l ∙ sym (cls-rep (r.0 i))))
