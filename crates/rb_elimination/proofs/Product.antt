-- The table that has given factors: its equations are solved by the factors alone, and the factors of a table multiply out to it.
use mathlib.Core.Path.{◌≡◌, refl, sym, ◌∙◌, ap, ap₂, subst}
use mathlib.Core.Logic.{inl, inr}
use mathlib.Core.List.{[], ◌∷◌}
use Prim.Native.Nat.{ℕ, zero, suc, ◌<◌, ◌≤◌}
use native.Mathlib.Omega.{arith}
use native.Mathlib.Decide.{ℕ_discrete}
use Rattle.rb_frac.proofs.Ring.{var, enul, eone, plus, times, minus, ring}
use Rattle.rb_frac.proofs.Vec.{nth}
use Rattle.rb_frac.proofs.Combine.{combine}
use Rattle.rb_frac.proofs.Sums.{sum, sum-suc, sum_ext, sum-mul, sum_swap}
use Rattle.rb_frac.proofs.Rational.{ℚ, ◌+ℚ◌, ◌*ℚ◌, neg_ℚ, 0ℚ, 1ℚ, inv, qo, rats, mul_inv, mul_comm_ℚ}
use Rattle.rb_elimination.specs.Paths.{IsColumn, IsRegular, IsAncestor, IsOn}
use Rattle.rb_elimination.specs.Factors.{AreFactors}
use Rattle.rb_elimination.proofs.Paths.{is_ancestor, is_on, ancestor_on, on_meets}
use Rattle.rb_elimination.proofs.Numbers.{rational_steps}
use Rattle.rb_elimination.proofs.Sums.{sum_none}
use Rattle.rb_elimination.proofs.Triangle.{IsTriangle, taken, along, columns_tell, rows_tell, zero_right, zero_apart}

-- ---- numbers
turned : (a d b x : ℚ) → x *ℚ ((a *ℚ d) *ℚ b) ≡ (a *ℚ d) *ℚ (b *ℚ x)
turned a d b x = ring rats (nth 0ℚ (a ∷ d ∷ b ∷ x ∷ [])) (times (var 3) (times (times (var 0) (var 1)) (var 2))) (times (times (var 0) (var 1)) (times (var 2) (var 3))) refl

apart : (a d r : ℚ) → (a *ℚ d) *ℚ r ≡ a *ℚ (d *ℚ r)
apart a d r = ring rats (nth 0ℚ (a ∷ d ∷ r ∷ [])) (times (times (var 0) (var 1)) (var 2)) (times (var 0) (times (var 1) (var 2))) refl

swapped : (a d b : ℚ) → (a *ℚ d) *ℚ b ≡ (b *ℚ d) *ℚ a
swapped a d b = ring rats (nth 0ℚ (a ∷ d ∷ b ∷ [])) (times (times (var 0) (var 1)) (var 2)) (times (times (var 2) (var 1)) (var 0)) refl

none_left : (d b : ℚ) → (0ℚ *ℚ d) *ℚ b ≡ 0ℚ
none_left d b = ring rats (nth 0ℚ (d ∷ b ∷ [])) (times (times enul (var 0)) (var 1)) enul refl

none_right : (a d : ℚ) → (a *ℚ d) *ℚ 0ℚ ≡ 0ℚ
none_right a d = ring rats (nth 0ℚ (a ∷ d ∷ [])) (times (times (var 0) (var 1)) enul) enul refl

and_none : (s d b : ℚ) → s +ℚ (0ℚ *ℚ d) *ℚ b ≡ s
and_none s d b = ring rats (nth 0ℚ (s ∷ d ∷ b ∷ [])) (plus (var 0) (times (times enul (var 1)) (var 2))) (var 0) refl

pivot_alone : (d : ℚ) → 0ℚ +ℚ (1ℚ *ℚ d) *ℚ 1ℚ ≡ d
pivot_alone d = ring rats (nth 0ℚ (d ∷ [])) (plus enul (times (times eone (var 0)) eone)) (var 0) refl

module _ (d i : ℚ) (unit : d *ℚ i ≡ 1ℚ) where
  -- a number by the pivot, times the pivot
  whole_again : (w : ℚ) → d *ℚ (w *ℚ i) ≡ w
  whole_again w = combine rats (nth 0ℚ (d ∷ i ∷ w ∷ [])) (times (var 0) (times (var 2) (var 1))) (var 2) (record { by = var 2; left = times (var 0) (var 1); right = eone } ∷ []) refl (unit, tt)

  by_pivot : (r w : ℚ) → d *ℚ r ≡ w → r ≡ w *ℚ i
  by_pivot r w e = combine rats (nth 0ℚ (d ∷ i ∷ r ∷ w ∷ [])) (var 2) (times (var 3) (var 1)) (
      record { by = var 1; left = times (var 0) (var 2); right = var 3 } ∷
      record { by = minus (var 2); left = times (var 0) (var 1); right = eone } ∷ []
      ) refl (e, (unit, tt))

  pivot_row : (t : ℚ) → 0ℚ +ℚ (1ℚ *ℚ d) *ℚ (t *ℚ i) ≡ t
  pivot_row t = combine rats (nth 0ℚ (d ∷ i ∷ t ∷ [])) (plus enul (times (times eone (var 0)) (times (var 2) (var 1)))) (var 2) (record { by = var 2; left = times (var 0) (var 1); right = eone } ∷ []) refl (unit, tt)

  given_back : (s l t : ℚ) → (s +ℚ neg_ℚ (l *ℚ t)) +ℚ (l *ℚ d) *ℚ (t *ℚ i) ≡ s
  given_back s l t =
      combine rats (nth 0ℚ (d ∷ i ∷ s ∷ l ∷ t ∷ [])) (plus (plus (var 2) (minus (times (var 3) (var 4)))) (times (times (var 3) (var 0)) (times (var 4) (var 1)))) (var 2)
      (record { by = times (var 3) (var 4); left = times (var 0) (var 1); right = eone } ∷ []) refl (unit, tt)

module _ (n : ℕ) (up : ℕ → ℕ) (regular : IsRegular n up) (L lower : ℕ → ℕ → ℚ) (is : IsTriangle n up L lower) (D : ℕ → ℚ) where
  column : (c : ℕ) → c < n → IsColumn n (suc c)
  column c l = record { from = omega arith; to = omega arith }

  -- what row k + 1 gives the entry of c and d, and the entry
  abbrev pub term : ℕ → ℕ → ℕ → ℚ
  term c d k = (lower (suc k) c *ℚ D (suc k)) *ℚ lower (suc k) d

  abbrev pub entry : ℕ → ℕ → ℚ
  entry c d = sum qo n (term c d)

  -- what the table gives in row c at the numbers x
  abbrev pub given_by : (ℕ → ℚ) → ℕ → ℚ
  given_by x c = sum qo n (λ d. entry c (suc d) *ℚ x (suc d))

  abbrev col : (ℕ → ℚ) → ℕ → ℚ
  col w c = taken n up regular L lower is w n c

  abbrev row : (ℕ → ℚ) → ℕ → ℚ
  row x c = along n up regular L lower is x c n

  -- the three tables in turn
  in_turn : (x : ℕ → ℚ) (c : ℕ) → given_by x c ≡ col (λ k. D k *ℚ row x k) c
  in_turn x c =
      sum_ext qo n (λ d. entry c (suc d) *ℚ x (suc d)) (λ d. sum qo n (λ k. x (suc d) *ℚ term c (suc d) k))
      (λ d l. mul_comm_ℚ (entry c (suc d)) (x (suc d)) ∙ sym (sum-mul rats n (x (suc d)) (term c (suc d))))
      ∙ sum_swap rats n n (λ d k. x (suc d) *ℚ term c (suc d) k)
      ∙ sum_ext qo n (λ k. sum qo n (λ d. x (suc d) *ℚ term c (suc d) k)) (λ k. lower (suc k) c *ℚ (D (suc k) *ℚ row x (suc k))) (λ k l. each k)
    where
      each : (k : ℕ) → sum qo n (λ d. x (suc d) *ℚ term c (suc d) k) ≡ lower (suc k) c *ℚ (D (suc k) *ℚ row x (suc k))
      each k =
          sum_ext qo n (λ d. x (suc d) *ℚ term c (suc d) k) (λ d. (lower (suc k) c *ℚ D (suc k)) *ℚ (lower (suc k) (suc d) *ℚ x (suc d)))
          (λ d l. turned (lower (suc k) c) (D (suc k)) (lower (suc k) (suc d)) (x (suc d)))
          ∙ sum-mul rats n (lower (suc k) c *ℚ D (suc k)) (λ d. lower (suc k) (suc d) *ℚ x (suc d))
          ∙ apart (lower (suc k) c) (D (suc k)) (row x (suc k))

  module _ (pivots : (c : ℕ) → c < n → ¬ (D (suc c) ≡ 0ℚ)) where
    unit : (c : ℕ) → c < n → D (suc c) *ℚ inv (D (suc c)) ≡ 1ℚ
    unit c l = mul_inv (D (suc c)) (pivots c l)

    -- ---- the solution
    module _ (right w z x : ℕ → ℚ) (gives_right : (c : ℕ) → IsColumn n c → col w c ≡ right c) (divided : (c : ℕ) → IsColumn n c → z c ≡ w c *ℚ inv (D c))
        (gives_z : (c : ℕ) → c < n → row x (suc c) ≡ z (suc c)) where
      row_is : (c : ℕ) → c < n → row x (suc c) ≡ w (suc c) *ℚ inv (D (suc c))
      row_is c l = gives_z c l ∙ divided (suc c) (column c l)

      pub solves : (c : ℕ) → c < n → given_by x (suc c) ≡ right (suc c)
      solves c l =
          in_turn x (suc c)
          ∙ sum_ext qo n (λ k. lower (suc k) (suc c) *ℚ (D (suc k) *ℚ row x (suc k))) (λ k. lower (suc k) (suc c) *ℚ w (suc k))
          (λ k q. ap (λ t. lower (suc k) (suc c) *ℚ t) (ap (λ t. D (suc k) *ℚ t) (row_is k q) ∙ whole_again (D (suc k)) (inv (D (suc k))) (unit k q) (w (suc k))))
          ∙ gives_right (suc c) (column c l)

      module _ (y : ℕ → ℚ) (h : (c : ℕ) → c < n → given_by y (suc c) ≡ right (suc c)) where
        same_column : (c : ℕ) → IsColumn n c → col (λ k. D k *ℚ row y k) c ≡ col w c
        same_column zero k = absurd (omega (arith, k.from))
        same_column (suc c) k = sym (in_turn y (suc c)) ∙ h c (omega (arith, k.to)) ∙ sym (gives_right (suc c) k)

        same_row : (c : ℕ) → c < n → row y (suc c) ≡ row x (suc c)
        same_row c l =
            by_pivot (D (suc c)) (inv (D (suc c))) (unit c l) (row y (suc c)) (w (suc c))
            (columns_tell n up regular L lower is (λ k. D k *ℚ row y k) w n (omega arith) same_column c l)
            ∙ sym (row_is c l)

        pub only : (c : ℕ) → c < n → y (suc c) ≡ x (suc c)
        only c l = rows_tell n up regular L lower is y x same_row c l

    -- ---- the table of the factors
    module _ (given : ℕ → ℕ → ℚ) (table : ℕ → ℕ → ℕ → ℚ) (h : AreFactors rational_steps n up given table L D) where
      abbrev so_far : ℕ → ℕ → ℕ → ℚ
      so_far c d e = sum qo c (term d e)

      -- an earlier row has nothing in column c + 1
      none_before : (c e : ℕ) → c < n → so_far c (suc c) e ≡ 0ℚ
      none_before c e l =
          sum_none c (term (suc c) e)
          (λ k q. ap (λ t. (t *ℚ D (suc k)) *ℚ lower (suc k) e) (zero_right n up regular L lower is (suc k) (suc c) (column k (omega arith)) (column c l) (omega arith)) ∙ none_left (D (suc k)) (lower (suc k) e))

      own_row : (c e : ℕ) → c < n → IsOn up (suc c) e → so_far (suc c) (suc c) e ≡ table (suc c) (suc c) e
      own_row c e l (inl q) =
          subst (λ t. so_far (suc c) (suc c) t ≡ table (suc c) (suc c) t) q
          (sum-suc qo c (term (suc c) (suc c)) ∙ ap₂ (λ s t. s +ℚ (t *ℚ D (suc c)) *ℚ t) (none_before c (suc c) l) (is.diagonal (suc c) (column c l)) ∙ pivot_alone (D (suc c)) ∙ h.pivots c l)
      own_row c e l (inr a) =
          sum-suc qo c (term (suc c) e)
          ∙ ap₂ (λ s t. s +ℚ (t *ℚ D (suc c)) *ℚ lower (suc c) e) (none_before c e l) (is.diagonal (suc c) (column c l))
          ∙ ap (λ t. 0ℚ +ℚ (1ℚ *ℚ D (suc c)) *ℚ t) (is.ancestors (suc c) e (column c l) a ∙ h.quotients c e l a)
          ∙ pivot_row (D (suc c)) (inv (D (suc c))) (unit c l) (table (suc c) (suc c) e)

      other_row : (c d e : ℕ) → c < n → IsColumn c d → IsOn up d e → so_far c d e ≡ table c d e → Dec (IsAncestor up (suc c) d) → so_far (suc c) d e ≡ table (suc c) d e
      other_row c d e l k o below (yes a) =
          let b : IsAncestor up (suc c) e = ancestor_on up (suc c) d e a o in
          sum-suc qo c (term d e)
          ∙ ap₂ (λ s t. s +ℚ (t *ℚ D (suc c)) *ℚ lower (suc c) e) (below ∙ h.updates c d e l a o) (is.ancestors (suc c) d (column c l) a)
          ∙ ap (λ t. (table (suc c) d e +ℚ neg_ℚ (L (suc c) d *ℚ table (suc c) (suc c) e)) +ℚ (L (suc c) d *ℚ D (suc c)) *ℚ t) (is.ancestors (suc c) e (column c l) b ∙ h.quotients c e l b)
          ∙ given_back (D (suc c)) (inv (D (suc c))) (unit c l) (table (suc c) d e) (L (suc c) d) (table (suc c) (suc c) e)
      other_row c d e l k o below (no m) =
          let t : d ≤ c = k.to in
          let there : IsColumn n d = record { from = k.from; to = omega arith } in
          sum-suc qo c (term d e)
          ∙ ap₂ (λ s t. s +ℚ (t *ℚ D (suc c)) *ℚ lower (suc c) e) (below ∙ h.others c d e l k m o) (zero_apart n up regular L lower is (suc c) d (column c l) there (omega arith) m)
          ∙ and_none (table (suc c) d e) (D (suc c)) (lower (suc c) e)

      row_step : (c d e : ℕ) → c < n → IsColumn (suc c) d → IsOn up d e → (IsColumn c d → so_far c d e ≡ table c d e) → Dec (suc c ≡ d) → so_far (suc c) d e ≡ table (suc c) d e
      row_step c d e l k o below (yes q) = subst (λ t. IsOn up t e → so_far (suc c) t e ≡ table (suc c) t e) q (own_row c e l) o
      row_step c d e l k o below (no m) =
          let t : d ≤ suc c = k.to in
          let there : IsColumn c d = record { from = k.from; to = omega (arith, m) } in
          other_row c d e l there o (below there) (is_ancestor n up regular (suc c) d (column c l))

      so_far_is : (c d e : ℕ) → c ≤ n → IsColumn c d → IsOn up d e → so_far c d e ≡ table c d e
      so_far_is zero d e l k o = absurd (omega (arith, k.from, k.to))
      so_far_is (suc c) d e l k o = row_step c d e l k o (λ there. so_far_is c d e (omega arith) there o) (ℕ_discrete (suc c) d)

      pub entry_on : (c d : ℕ) → IsColumn n c → IsOn up c d → entry c d ≡ given c d
      entry_on c d k o = so_far_is n c d (omega arith) k o ∙ h.first c d k o

  pub entry_symmetric : (c d : ℕ) → entry c d ≡ entry d c
  entry_symmetric c d = sum_ext qo n (term c d) (term d c) (λ k l. swapped (lower (suc k) c) (D (suc k)) (lower (suc k) d))

  -- ---- off the paths
  term_off : (c d k : ℕ) → IsColumn n c → IsColumn n d → ¬ IsOn up c d → ¬ IsOn up d c → k < n → Dec (IsOn up (suc k) c) → Dec (IsOn up (suc k) d) → term c d k ≡ 0ℚ
  term_off c d k h g m o l (no a) r = ap (λ t. (t *ℚ D (suc k)) *ℚ lower (suc k) d) (is.others (suc k) c (column k l) h a) ∙ none_left (D (suc k)) (lower (suc k) d)
  term_off c d k h g m o l (yes a) (no b) = ap (λ t. (lower (suc k) c *ℚ D (suc k)) *ℚ t) (is.others (suc k) d (column k l) g b) ∙ none_right (lower (suc k) c) (D (suc k))
  term_off c d k h g m o l (yes a) (yes b) = elim (on_meets up (suc k) c d a b) [ inl q ↦ absurd (m q) | inr q ↦ absurd (o q) ]

  pub entry_off : (c d : ℕ) → IsColumn n c → IsColumn n d → ¬ IsOn up c d → ¬ IsOn up d c → entry c d ≡ 0ℚ
  entry_off c d h g m o = sum_none n (term c d) (λ k l. term_off c d k h g m o l (is_on n up regular (suc k) c (column k l)) (is_on n up regular (suc k) d (column k l)))
