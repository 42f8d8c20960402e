-- A number on the diagonal of a table.
use Rattle.std.proofs.Common.{◌≡◌, ℕ, zero, suc, ◌<◌, ◌≤◌, [], ◌∷◌, refl, sym, ◌∙◌, ap, ap₂, subst, arith}
use native.Mathlib.Decide.{ℕ_discrete}
use Rattle.rb_frac.proofs.Ring.{var, enul, plus, times, ring}
use Rattle.rb_frac.proofs.Vec.{nth}
use Rattle.rb_frac.proofs.Sums.{sum, sum-suc}
use Rattle.rb_frac.proofs.Rational.{ℚ, ◌+ℚ◌, ◌*ℚ◌, 0ℚ, qo, rats}
use Rattle.rb_elimination.proofs.Sums.{sum_gap, sum_none}

owned : {P : Type 0} → Dec P → ℚ → ℚ
owned (yes p) x = x
owned (no m) x = 0ℚ

owned_yes : {P : Type 0} (d : Dec P) (x : ℚ) → P → owned d x ≡ x
unfolding owned
owned_yes (yes p) x q = refl
owned_yes (no m) x q = absurd (m q)

owned_no : {P : Type 0} (d : Dec P) (x : ℚ) → ¬ P → owned d x ≡ 0ℚ
unfolding owned
owned_no (yes p) x o = absurd (o p)
owned_no (no m) x o = refl

-- x where q is t, and else 0
pub own : ℕ → ℕ → ℚ → ℚ
own q t x = owned (ℕ_discrete q t) x

pub own_same : (q : ℕ) (x : ℚ) → own q q x ≡ x
unfolding own
own_same q x = owned_yes (ℕ_discrete q q) x refl

pub own_other : (q t : ℕ) (x : ℚ) → ¬ (q ≡ t) → own q t x ≡ 0ℚ
unfolding own
own_other q t x o = owned_no (ℕ_discrete q t) x o

pub own_symmetric : (mu : ℕ → ℚ) (q t : ℕ) → own q t (mu q) ≡ own t q (mu t)
own_symmetric mu q t =
    elim (ℕ_discrete q t) [
      | yes e ↦ subst (λ j. own q j (mu q) ≡ own j q (mu j)) e refl
      | no m ↦ own_other q t (mu q) m ∙ sym (own_other t q (mu t) (λ e. m (sym e)))
    ]

null_times : (w : ℚ) → 0ℚ *ℚ w ≡ 0ℚ
null_times w = ring rats (nth 0ℚ (w ∷ [])) (times enul (var 0)) enul refl

none_and : (w : ℚ) → 0ℚ +ℚ w ≡ w
none_and w = ring rats (nth 0ℚ (w ∷ [])) (plus enul (var 0)) (var 0) refl

pub sum_own : (R q : ℕ) (x : ℚ) (v : ℕ → ℚ) → q < R → sum qo R (λ t. own (suc q) (suc t) x *ℚ v (suc t)) ≡ x *ℚ v (suc q)
sum_own R q x v l =
    let f : ℕ → ℚ = λ t. own (suc q) (suc t) x *ℚ v (suc t) in
    sum_gap (suc q) R f (omega arith) (λ t p b. ap (λ a. a *ℚ v (suc t)) (own_other (suc q) (suc t) x (λ e. absurd (omega (arith, e)))) ∙ null_times (v (suc t)))
    ∙ sum-suc qo q f
    ∙ ap₂ ◌+ℚ◌
    (sum_none q f (λ t b. ap (λ a. a *ℚ v (suc t)) (own_other (suc q) (suc t) x (λ e. absurd (omega (arith, e)))) ∙ null_times (v (suc t))))
    (ap (λ a. a *ℚ v (suc q)) (own_same (suc q) x))
    ∙ none_and (x *ℚ v (suc q))
