-- The elimination of the whole table leaves on the paths what that on the paths leaves, and zeros elsewhere.
use Rattle.std.proofs.Common.{◌≡◌, ◌↔◌, inl, inr, ℕ, zero, suc, ◌+◌, ◌<◌, ◌≤◌, [], ◌∷◌, refl, sym, ◌∙◌, ap, ap₂, subst, arith}
use native.Mathlib.Decide.{ℕ_discrete}
use Rattle.rb_frac.specs.Frac as F
use Rattle.rb_frac.specs.Frac.{Frac, Same, fracs}
use Rattle.rb_frac.specs.System.{eliminated, HasPivots}
use Rattle.rb_frac.proofs.Ring.{var, enul, plus, times, minus, ring}
use Rattle.rb_frac.proofs.Vec.{nth}
use Rattle.rb_frac.proofs.Rational.{ℚ, ◌+ℚ◌, ◌*ℚ◌, neg_ℚ, 0ℚ, inv, rats, cls, sound, exact, cls-zero, cls-null, null-cls, cls_of_quot}
use Rattle.rb_frac.proofs.Transfer.{solvable}
use Rattle.rb_frac.proofs.Hom.{cls_of_sub, cls_of_mul}
use Rattle.rb_elimination.specs.Paths.{IsColumn, IsRegular, IsAncestor, IsOn}
use Rattle.rb_elimination.specs.Factors.{AreFactors}
use Rattle.rb_elimination.specs.Product.{rows_of}
use Rattle.rb_elimination.specs.Laws.{ArePivots, IsFactored, left_of, AgreesOnPaths, StepsEliminate, PivotsEliminate, PivotsSolve}
use Rattle.rb_elimination.proofs.Paths.{is_ancestor, ancestor_on, on_meets, not_on}
use Rattle.rb_elimination.proofs.Numbers.{rational_steps, row, rows, factors_of}

-- ---- numbers
less_none_left : (a i b : ℚ) → a +ℚ neg_ℚ ((0ℚ *ℚ i) *ℚ b) ≡ a
less_none_left a i b = ring rats (nth 0ℚ (a ∷ i ∷ b ∷ [])) (plus (var 0) (minus (times (times enul (var 1)) (var 2)))) (var 0) refl

less_none_right : (a x i : ℚ) → a +ℚ neg_ℚ ((x *ℚ i) *ℚ 0ℚ) ≡ a
less_none_right a x i = ring rats (nth 0ℚ (a ∷ x ∷ i ∷ [])) (plus (var 0) (minus (times (times (var 1) (var 2)) enul))) (var 0) refl

swapped : (a x i y : ℚ) → a +ℚ neg_ℚ ((x *ℚ i) *ℚ y) ≡ a +ℚ neg_ℚ ((y *ℚ i) *ℚ x)
swapped a x i y = ring rats (nth 0ℚ (a ∷ x ∷ i ∷ y ∷ [])) (plus (var 0) (minus (times (times (var 1) (var 2)) (var 3)))) (plus (var 0) (minus (times (times (var 3) (var 2)) (var 1)))) refl

-- what is left of an entry, by the numbers of the four that it is made of
abbrev left_ℚ : ℚ → ℚ → ℚ → ℚ → ℚ
left_ℚ a x p y = a +ℚ neg_ℚ ((x *ℚ inv p) *ℚ y)

cls_of_eliminated : (c : ℕ) (m : ℕ → ℕ → Frac) (d e : ℕ) → cls (eliminated c m d e) ≡ left_ℚ (cls (m d e)) (cls (m d c)) (cls (m c c)) (cls (m c e))
unfolding eliminated
cls_of_eliminated c m d e =
    cls_of_sub (m d e) (F.mul (F.quot (m d c) (m c c)) (m c e))
    ∙ ap (λ t. cls (m d e) +ℚ neg_ℚ t) (cls_of_mul (F.quot (m d c) (m c c)) (m c e) ∙ ap (λ t. t *ℚ cls (m c e)) (cls_of_quot (m d c) (m c c)))

module _ (n : ℕ) (up : ℕ → ℕ) (regular : IsRegular n up) (given : ℕ → ℕ → ℚ) (table : ℕ → ℕ → ℕ → Frac) (L : ℕ → ℕ → ℚ) (D : ℕ → ℚ)
    (h : AreFactors rational_steps n up given (λ c. rows (table c)) L D) where
  module _ (c : ℕ) (l : c < n) (m : ℕ → ℕ → Frac) (g : AgreesOnPaths (suc c) up m (table (suc c))) where
    last : IsColumn n (suc c)
    last = record { from = omega arith; to = omega arith }

    column : (d : ℕ) → d < c → IsColumn n (suc d)
    column d k = record { from = omega arith; to = omega arith }

    -- the last column and row
    pivot_is : cls (m c c) ≡ D (suc c)
    pivot_is = sound (m c c) (table (suc c) (suc c) (suc c)) (g.on c c (omega arith) (inl refl)) ∙ sym (h.pivots c l)

    row_is : (e : ℕ) → IsAncestor up (suc c) (suc e) → cls (m c e) ≡ cls (table (suc c) (suc c) (suc e))
    row_is e a = sound (m c e) (table (suc c) (suc c) (suc e)) (g.on c e (omega arith) (inr a))

    column_is : (d : ℕ) → d < c → cls (m d c) ≡ cls (m c d)
    column_is d k = sound (m d c) (m c d) (g.symmetric d c (omega arith) (omega arith))

    row_none : (e : ℕ) → e < c → ¬ IsAncestor up (suc c) (suc e) → cls (m c e) ≡ 0ℚ
    row_none e k o =
        sound (m c e) fracs.nul (g.off c e (omega arith) (omega arith)
        (λ p. elim p [ inl q ↦ absurd (omega (arith, q)) | inr a ↦ o a ])
        (not_on n up regular (suc e) (suc c) (column e k) (omega arith)))
        ∙ cls-zero

    kept : (d e : ℕ) → d < c → ¬ IsAncestor up (suc c) (suc d) → cls (eliminated c m d e) ≡ cls (m d e)
    kept d e k o =
        cls_of_eliminated c m d e
        ∙ ap (λ t. left_ℚ (cls (m d e)) t (cls (m c c)) (cls (m c e))) (column_is d k ∙ row_none d k o)
        ∙ less_none_left (cls (m d e)) (inv (cls (m c c))) (cls (m c e))

    -- on the paths
    changed_on : (d e : ℕ) → d < c → IsOn up (suc d) (suc e) → IsAncestor up (suc c) (suc d) → cls (eliminated c m d e) ≡ cls (table c (suc d) (suc e))
    changed_on d e k o a =
        cls_of_eliminated c m d e
        ∙ ap₂ (λ s t. (s +ℚ neg_ℚ ((t *ℚ inv (cls (m c c))) *ℚ cls (m c e)))) (sound (m d e) (table (suc c) (suc d) (suc e)) (g.on d e (omega arith) o)) (column_is d k ∙ row_is d a)
        ∙ ap₂ (λ s t. cls (table (suc c) (suc d) (suc e)) +ℚ neg_ℚ ((cls (table (suc c) (suc c) (suc d)) *ℚ inv s) *ℚ t)) pivot_is (row_is e (ancestor_on up (suc c) (suc d) (suc e) a o))
        ∙ ap (λ t. cls (table (suc c) (suc d) (suc e)) +ℚ neg_ℚ (t *ℚ cls (table (suc c) (suc c) (suc e)))) (sym (h.quotients c (suc d) l a))
        ∙ sym (h.updates c (suc d) (suc e) l a o)

    kept_on : (d e : ℕ) → d < c → IsOn up (suc d) (suc e) → ¬ IsAncestor up (suc c) (suc d) → cls (eliminated c m d e) ≡ cls (table c (suc d) (suc e))
    kept_on d e k o b =
        kept d e k b ∙ sound (m d e) (table (suc c) (suc d) (suc e)) (g.on d e (omega arith) o)
        ∙ sym (h.others c (suc d) (suc e) l (record { from = omega arith; to = omega arith }) b o)

    next_on : (d e : ℕ) → d < c → IsOn up (suc d) (suc e) → Same (eliminated c m d e) (table c (suc d) (suc e))
    next_on d e k o =
        exact (eliminated c m d e) (table c (suc d) (suc e))
        (elim (is_ancestor n up regular (suc c) (suc d) last) [ yes a ↦ changed_on d e k o a | no b ↦ kept_on d e k o b ])

    -- symmetric
    next_symmetric : (d e : ℕ) → d < c → e < c → Same (eliminated c m d e) (eliminated c m e d)
    next_symmetric d e k j =
        exact (eliminated c m d e) (eliminated c m e d)
        (cls_of_eliminated c m d e
        ∙ ap₂ (λ s t. s +ℚ neg_ℚ ((t *ℚ inv (cls (m c c))) *ℚ cls (m c e))) (sound (m d e) (m e d) (g.symmetric d e (omega arith) (omega arith))) (column_is d k)
        ∙ swapped (cls (m e d)) (cls (m c d)) (inv (cls (m c c))) (cls (m c e))
        ∙ ap (λ t. left_ℚ (cls (m e d)) t (cls (m c c)) (cls (m c d))) (sym (column_is e j))
        ∙ sym (cls_of_eliminated c m e d))

    -- off the paths
    kept_off : (d e : ℕ) → d < c → e < c → cls (m d e) ≡ 0ℚ → ¬ IsOn up (suc d) (suc e) → ¬ IsOn up (suc e) (suc d)
        → Dec (IsAncestor up (suc c) (suc d)) → Dec (IsAncestor up (suc c) (suc e)) → cls (eliminated c m d e) ≡ 0ℚ
    kept_off d e k j z o p (no b) r = kept d e k b ∙ z
    kept_off d e k j z o p (yes a) (no b) =
        cls_of_eliminated c m d e ∙ ap (λ t. left_ℚ (cls (m d e)) (cls (m d c)) (cls (m c c)) t) (row_none e j b)
        ∙ less_none_right (cls (m d e)) (cls (m d c)) (inv (cls (m c c))) ∙ z
    kept_off d e k j z o p (yes a) (yes b) = elim (on_meets up (suc c) (suc d) (suc e) (inr a) (inr b)) [ inl q ↦ absurd (o q) | inr q ↦ absurd (p q) ]

    next_off : (d e : ℕ) → d < c → e < c → ¬ IsOn up (suc d) (suc e) → ¬ IsOn up (suc e) (suc d) → Same (eliminated c m d e) fracs.nul
    next_off d e k j o p =
        let z : cls (m d e) ≡ 0ℚ = sound (m d e) fracs.nul (g.off d e (omega arith) (omega arith) o p) ∙ cls-zero in
        exact (eliminated c m d e) fracs.nul
        (kept_off d e k j z o p (is_ancestor n up regular (suc c) (suc d) last) (is_ancestor n up regular (suc c) (suc e) last) ∙ sym cls-zero)

    pub next_agrees : AgreesOnPaths c up (eliminated c m) (table c)
    next_agrees = record { on = next_on; symmetric = next_symmetric; off = next_off }

  -- ---- all steps
  agrees_left : (c k : ℕ) (m : ℕ → ℕ → Frac) → c + k ≤ n → AgreesOnPaths (c + k) up m (table (c + k)) → AgreesOnPaths c up (left_of c k m) (table c)
  unfolding left_of
  agrees_left c zero m l g = subst (λ j. AgreesOnPaths j up m (table j)) (omega arith) g
  agrees_left c (suc k) m l g =
      let e : c + suc k ≡ suc (c + k) = omega arith in
      agrees_left c k (eliminated (c + k) m) (omega arith) (next_agrees (c + k) (omega arith) m (subst (λ j. AgreesOnPaths j up m (table j)) e g))

  -- ---- pivots
  pivots_there : (c : ℕ) (m : ℕ → ℕ → Frac) → c ≤ n → AgreesOnPaths c up m (table c) → ((d : ℕ) → d < c → ¬ (D (suc d) ≡ 0ℚ)) → HasPivots c m
  unfolding HasPivots
  pivots_there zero m l g p = tt
  pivots_there (suc c) m l g p = (
    λ e. p c (omega arith) (sym (pivot_is c l m g) ∙ cls-null (m c c) e),
    pivots_there c (eliminated c m) (omega arith) (next_agrees c l m g) (λ d k. p d (omega arith)),
  )

  pivots_back : (c : ℕ) (m : ℕ → ℕ → Frac) → c ≤ n → AgreesOnPaths c up m (table c) → HasPivots c m → (d : ℕ) → d < c → ¬ (D (suc d) ≡ 0ℚ)
  unfolding HasPivots
  pivots_back zero m l g p d k = absurd (omega arith)
  pivots_back (suc c) m l g p d k =
      let own : ¬ (D (suc c) ≡ 0ℚ) = λ e. p.0 (null-cls (m c c) (pivot_is c l m g ∙ e)) in
      elim (ℕ_discrete d c) [
        | yes e ↦ subst (λ t. ¬ (D (suc t) ≡ 0ℚ)) (sym e) own
        | no b ↦ pivots_back c (eliminated c m) (omega arith) (next_agrees c l m g) p.1 d (omega (arith, b))
      ]

-- ---- the given table
module _ (n : ℕ) (up : ℕ → ℕ) (given : ℕ → ℕ → Frac) (table : ℕ → ℕ → ℕ → Frac) (L : ℕ → ℕ → Frac) (D : ℕ → Frac) (h : IsFactored n up given table L D) where
  column_within : (d : ℕ) → d < n → IsColumn n (suc d)
  column_within d l = record { from = omega arith; to = omega arith }

  abbrev numbers : AreFactors rational_steps n up (rows given) (λ c. rows (table c)) (rows L) (row D)
  numbers = factors_of n up given table L D h.factors

  given_agrees : AgreesOnPaths n up (rows_of given) (table n)
  given_agrees = record {
    on = λ d e l o. exact (given (suc d) (suc e)) (table n (suc d) (suc e)) (sym (numbers.first (suc d) (suc e) (column_within d l) o));
    symmetric = λ d e l k. h.symmetric (suc d) (suc e) (column_within d l) (column_within e k);
    off = λ d e l k o p. h.sparse (suc d) (suc e) (column_within d l) (column_within e k) o p;
  }

  steps : (c k : ℕ) → c + k ≡ n → AgreesOnPaths c up (left_of c k (rows_of given)) (table c)
  steps c k e =
      agrees_left n up h.regular (rows given) table (rows L) (row D) numbers c k (rows_of given) (omega (arith, e))
      (subst (λ j. AgreesOnPaths j up (rows_of given) (table j)) (sym e) given_agrees)

  not_null : ArePivots n D → (c : ℕ) → c < n → ¬ (row D (suc c) ≡ 0ℚ)
  not_null p c l e = p (suc c) (column_within c l) (null-cls (D (suc c)) e)

  are_pivots : ((c : ℕ) → c < n → ¬ (row D (suc c) ≡ 0ℚ)) → ArePivots n D
  are_pivots p zero k e = absurd (omega (arith, k.from))
  are_pivots p (suc c) k e = p c (omega (arith, k.to)) (cls-null (D (suc c)) e)

  pivots : ArePivots n D ↔ HasPivots n (rows_of given)
  pivots = (
    λ p. pivots_there n up h.regular (rows given) table (rows L) (row D) numbers n (rows_of given) (omega arith) given_agrees (not_null p),
    λ p. are_pivots (pivots_back n up h.regular (rows given) table (rows L) (row D) numbers n (rows_of given) (omega arith) given_agrees p),
  )

pub steps_eliminate : StepsEliminate
steps_eliminate = steps

pub pivots_eliminate : PivotsEliminate
pivots_eliminate = pivots

pub pivots_solve : PivotsSolve
pivots_solve n up given table L D h p right = solvable n (rows_of given) right ((pivots n up given table L D h).0 p)
