-- The bordered equations in numbers: the columns say what the rows of the lower triangular table have at x, and with this the rows say that the coupling
-- times the forces is their right side.
use Rattle.std.proofs.Common.{◌≡◌, ℕ, zero, suc, ◌<◌, ◌≤◌, [], ◌∷◌, refl, sym, ◌∙◌, ap, ap₂, subst, arith}
use Rattle.rb_frac.proofs.Ring.{var, enul, eone, plus, times, minus, ring}
use Rattle.rb_frac.proofs.Vec.{nth}
use Rattle.rb_frac.proofs.Combine.{combine}
use Rattle.rb_frac.proofs.Sums.{sum, sum_ext, sum-add, sum-mul, sum_swap}
use Rattle.rb_frac.proofs.Rational.{ℚ, ◌+ℚ◌, ◌*ℚ◌, neg_ℚ, 0ℚ, 1ℚ, inv, qo, rats, mul_inv, mul_comm_ℚ}
use Rattle.rb_elimination.specs.Paths.{IsColumn, IsRegular}
use Rattle.rb_elimination.proofs.Triangle.{IsTriangle, taken, along, columns_tell}
use Rattle.rb_elimination.proofs.Product.{given_by, entry}
use Rattle.rb_bordered.proofs.Own.{own, own_symmetric, sum_own}

-- ---- numbers
first_last : (x l a : ℚ) → x *ℚ (l *ℚ a) ≡ a *ℚ (l *ℚ x)
first_last x l a = ring rats (nth 0ℚ (x ∷ l ∷ a ∷ [])) (times (var 0) (times (var 1) (var 2))) (times (var 2) (times (var 1) (var 0))) refl

entry_turned : (a d b : ℚ) → (a *ℚ d) *ℚ b ≡ b *ℚ (a *ℚ d)
entry_turned a d b = ring rats (nth 0ℚ (a ∷ d ∷ b ∷ [])) (times (times (var 0) (var 1)) (var 2)) (times (var 2) (times (var 0) (var 1))) refl

apart : (a d r : ℚ) → (a *ℚ d) *ℚ r ≡ a *ℚ (d *ℚ r)
apart a d r = ring rats (nth 0ℚ (a ∷ d ∷ r ∷ [])) (times (times (var 0) (var 1)) (var 2)) (times (var 0) (times (var 1) (var 2))) refl

spread : (l w s : ℚ) → l *ℚ (w +ℚ s) ≡ l *ℚ w +ℚ l *ℚ s
spread l w s = ring rats (nth 0ℚ (l ∷ w ∷ s ∷ [])) (times (var 0) (plus (var 1) (var 2))) (plus (times (var 0) (var 1)) (times (var 0) (var 2))) refl

turned : (l y v : ℚ) → l *ℚ (y *ℚ v) ≡ v *ℚ (l *ℚ y)
turned l y v = ring rats (nth 0ℚ (l ∷ y ∷ v ∷ [])) (times (var 0) (times (var 1) (var 2))) (times (var 2) (times (var 0) (var 1))) refl

both : (y w s i : ℚ) → y *ℚ ((w +ℚ s) *ℚ i) ≡ y *ℚ (w *ℚ i) +ℚ (y *ℚ i) *ℚ s
both y w s i = ring rats (nth 0ℚ (y ∷ w ∷ s ∷ i ∷ [])) (times (var 0) (times (plus (var 1) (var 2)) (var 3))) (plus (times (var 0) (times (var 1) (var 3))) (times (times (var 0) (var 3)) (var 2))) refl

paired : (y i z v : ℚ) → (y *ℚ i) *ℚ (z *ℚ v) ≡ v *ℚ ((y *ℚ z) *ℚ i)
paired y i z v = ring rats (nth 0ℚ (y ∷ i ∷ z ∷ v ∷ [])) (times (times (var 0) (var 1)) (times (var 2) (var 3))) (times (var 3) (times (times (var 0) (var 2)) (var 1))) refl

swapped : (y z i : ℚ) → (y *ℚ z) *ℚ i ≡ (z *ℚ y) *ℚ i
swapped y z i = ring rats (nth 0ℚ (y ∷ z ∷ i ∷ [])) (times (times (var 0) (var 1)) (var 2)) (times (times (var 1) (var 0)) (var 2)) refl

with_own : (a o v : ℚ) → (a +ℚ o) *ℚ v ≡ a *ℚ v +ℚ o *ℚ v
with_own a o v = ring rats (nth 0ℚ (a ∷ o ∷ v ∷ [])) (times (plus (var 0) (var 1)) (var 2)) (plus (times (var 0) (var 2)) (times (var 1) (var 2))) refl

row_none : (u s g c : ℚ) → s +ℚ c ≡ neg_ℚ (g +ℚ u) → ((u +ℚ s) +ℚ g) +ℚ c ≡ 0ℚ
row_none u s g c e = combine rats (nth 0ℚ (u ∷ s ∷ g ∷ c ∷ [])) (plus (plus (plus (var 0) (var 1)) (var 2)) (var 3)) enul (
    record { by = eone; left = plus (var 1) (var 3); right = minus (plus (var 2) (var 0)) } ∷ []
    ) refl (e, tt)

row_side : (u s g c : ℚ) → ((u +ℚ s) +ℚ g) +ℚ c ≡ 0ℚ → s +ℚ c ≡ neg_ℚ (g +ℚ u)
row_side u s g c e = combine rats (nth 0ℚ (u ∷ s ∷ g ∷ c ∷ [])) (plus (var 1) (var 3)) (minus (plus (var 2) (var 0))) (
    record { by = eone; left = plus (plus (plus (var 0) (var 1)) (var 2)) (var 3); right = enul } ∷ []
    ) refl (e, tt)

by_pivot : (d i r w : ℚ) → d *ℚ i ≡ 1ℚ → d *ℚ r ≡ w → r ≡ w *ℚ i
by_pivot d i r w unit e = combine rats (nth 0ℚ (d ∷ i ∷ r ∷ w ∷ [])) (var 2) (times (var 3) (var 1)) (
    record { by = var 1; left = times (var 0) (var 2); right = var 3 } ∷
    record { by = minus (var 2); left = times (var 0) (var 1); right = eone } ∷ []
    ) refl (e, (unit, tt))

whole_again : (d i w : ℚ) → d *ℚ i ≡ 1ℚ → d *ℚ (w *ℚ i) ≡ w
whole_again d i w unit = combine rats (nth 0ℚ (d ∷ i ∷ w ∷ [])) (times (var 0) (times (var 2) (var 1))) (var 2) (record { by = var 2; left = times (var 0) (var 1); right = eone } ∷ []) refl (unit, tt)

-- ---- the table
module _ (n : ℕ) (up : ℕ → ℕ) (regular : IsRegular n up) (L lower : ℕ → ℕ → ℚ) (is : IsTriangle n up L lower) where
  column : (c : ℕ) → c < n → IsColumn n (suc c)
  column c l = record { from = omega arith; to = omega arith }

  abbrev pub col : (ℕ → ℚ) → ℕ → ℚ
  col w c = taken n up regular L lower is w n c

  abbrev pub row : (ℕ → ℚ) → ℕ → ℚ
  row x c = along n up regular L lower is x c n

  -- the columns of a, times x, are a times the rows of x
  pub transposed : (a x : ℕ → ℚ) → sum qo n (λ c. col a (suc c) *ℚ x (suc c)) ≡ sum qo n (λ k. a (suc k) *ℚ row x (suc k))
  transposed a x =
      sum_ext qo n (λ c. col a (suc c) *ℚ x (suc c)) (λ c. sum qo n (λ k. x (suc c) *ℚ (lower (suc k) (suc c) *ℚ a (suc k))))
      (λ c l. mul_comm_ℚ (col a (suc c)) (x (suc c)) ∙ sym (sum-mul rats n (x (suc c)) (λ k. lower (suc k) (suc c) *ℚ a (suc k))))
      ∙ sum_swap rats n n (λ c k. x (suc c) *ℚ (lower (suc k) (suc c) *ℚ a (suc k)))
      ∙ sum_ext qo n (λ k. sum qo n (λ c. x (suc c) *ℚ (lower (suc k) (suc c) *ℚ a (suc k)))) (λ k. a (suc k) *ℚ row x (suc k)) (λ k l. each k)
    where
      each : (k : ℕ) → sum qo n (λ c. x (suc c) *ℚ (lower (suc k) (suc c) *ℚ a (suc k))) ≡ a (suc k) *ℚ row x (suc k)
      each k =
          sum_ext qo n (λ c. x (suc c) *ℚ (lower (suc k) (suc c) *ℚ a (suc k))) (λ c. a (suc k) *ℚ (lower (suc k) (suc c) *ℚ x (suc c)))
          (λ c l. first_last (x (suc c)) (lower (suc k) (suc c)) (a (suc k)))
          ∙ sum-mul rats n (a (suc k)) (λ c. lower (suc k) (suc c) *ℚ x (suc c))

  module _ (D : ℕ → ℚ) where
    abbrev pub gives : (ℕ → ℚ) → ℕ → ℚ
    gives x c = given_by n up regular L lower is D x c

    -- the table in turn
    in_turn : (x : ℕ → ℚ) (c : ℕ) → gives x c ≡ col (λ k. D k *ℚ row x k) c
    in_turn x c =
        sum_ext qo n (λ d. entry n up regular L lower is D c (suc d) *ℚ x (suc d)) (λ d. col (λ k. lower k c *ℚ D k) (suc d) *ℚ x (suc d))
        (λ d l. ap (λ t. t *ℚ x (suc d))
        (sum_ext qo n (λ k. (lower (suc k) c *ℚ D (suc k)) *ℚ lower (suc k) (suc d)) (λ k. lower (suc k) (suc d) *ℚ (lower (suc k) c *ℚ D (suc k)))
        (λ k q. entry_turned (lower (suc k) c) (D (suc k)) (lower (suc k) (suc d)))))
        ∙ transposed (λ k. lower k c *ℚ D k) x
        ∙ sum_ext qo n (λ k. (lower (suc k) c *ℚ D (suc k)) *ℚ row x (suc k)) (λ k. lower (suc k) c *ℚ (D (suc k) *ℚ row x (suc k)))
        (λ k q. apart (lower (suc k) c) (D (suc k)) (row x (suc k)))

    module _ (pivots : (c : ℕ) → c < n → ¬ (D (suc c) ≡ 0ℚ)) (R : ℕ) (J Y : ℕ → ℕ → ℚ) (gives_row : (r c : ℕ) → r < R → IsColumn n c → col (Y (suc r)) c ≡ J (suc r) c)
        (k w : ℕ → ℚ) (gives_k : (c : ℕ) → IsColumn n c → col w c ≡ k c) where
      unit : (c : ℕ) → c < n → D (suc c) *ℚ inv (D (suc c)) ≡ 1ℚ
      unit c l = mul_inv (D (suc c)) (pivots c l)

      -- w with the forces v
      abbrev pub added : (ℕ → ℚ) → ℕ → ℚ
      added v c = w c +ℚ sum qo R (λ r. Y (suc r) c *ℚ v (suc r))

      abbrev pub pushed : (ℕ → ℚ) → ℕ → ℚ
      pushed v c = k c +ℚ sum qo R (λ r. J (suc r) c *ℚ v (suc r))

      pub added_gives : (v : ℕ → ℚ) (c : ℕ) → IsColumn n c → col (added v) c ≡ pushed v c
      added_gives v c there =
          sum_ext qo n (λ i. lower (suc i) c *ℚ added v (suc i)) (λ i. lower (suc i) c *ℚ w (suc i) +ℚ sum qo R (λ r. v (suc r) *ℚ (lower (suc i) c *ℚ Y (suc r) (suc i))))
          (λ i l. spread (lower (suc i) c) (w (suc i)) (sum qo R (λ r. Y (suc r) (suc i) *ℚ v (suc r)))
          ∙ ap (λ t. lower (suc i) c *ℚ w (suc i) +ℚ t)
          (sym (sum-mul rats R (lower (suc i) c) (λ r. Y (suc r) (suc i) *ℚ v (suc r)))
          ∙ sum_ext qo R (λ r. lower (suc i) c *ℚ (Y (suc r) (suc i) *ℚ v (suc r))) (λ r. v (suc r) *ℚ (lower (suc i) c *ℚ Y (suc r) (suc i)))
          (λ r q. turned (lower (suc i) c) (Y (suc r) (suc i)) (v (suc r)))))
          ∙ sum-add rats n (λ i. lower (suc i) c *ℚ w (suc i)) (λ i. sum qo R (λ r. v (suc r) *ℚ (lower (suc i) c *ℚ Y (suc r) (suc i))))
          ∙ ap₂ ◌+ℚ◌ (gives_k c there)
          (sum_swap rats n R (λ i r. v (suc r) *ℚ (lower (suc i) c *ℚ Y (suc r) (suc i)))
          ∙ sum_ext qo R (λ r. sum qo n (λ i. v (suc r) *ℚ (lower (suc i) c *ℚ Y (suc r) (suc i)))) (λ r. J (suc r) c *ℚ v (suc r))
          (λ r q. sum-mul rats n (v (suc r)) (λ i. lower (suc i) c *ℚ Y (suc r) (suc i)) ∙ mul_comm_ℚ (v (suc r)) (col (Y (suc r)) c) ∙ ap (λ t. t *ℚ v (suc r)) (gives_row r c q there)))

      -- the rows of x are w with the forces v, by the pivots
      abbrev pub IsAdded : (ℕ → ℚ) → (ℕ → ℚ) → Type 0
      IsAdded v x = (c : ℕ) → c < n → row x (suc c) ≡ added v (suc c) *ℚ inv (D (suc c))

      pub columns_hold : (v x : ℕ → ℚ) → IsAdded v x → (c : ℕ) → c < n → gives x (suc c) ≡ pushed v (suc c)
      columns_hold v x h c l =
          in_turn x (suc c)
          ∙ sum_ext qo n (λ i. lower (suc i) (suc c) *ℚ (D (suc i) *ℚ row x (suc i))) (λ i. lower (suc i) (suc c) *ℚ added v (suc i))
          (λ i q. ap (λ t. lower (suc i) (suc c) *ℚ t) (ap (λ t. D (suc i) *ℚ t) (h i q) ∙ whole_again (D (suc i)) (inv (D (suc i))) (added v (suc i)) (unit i q)))
          ∙ added_gives v (suc c) (column c l)

      same_column : (v x : ℕ → ℚ) → ((c : ℕ) → c < n → gives x (suc c) ≡ pushed v (suc c)) → (c : ℕ) → IsColumn n c → col (λ i. D i *ℚ row x i) c ≡ col (added v) c
      same_column v x h zero there = absurd (omega (arith, there.from))
      same_column v x h (suc c) there = sym (in_turn x (suc c)) ∙ h c (omega (arith, there.to)) ∙ sym (added_gives v (suc c) there)

      pub columns_say : (v x : ℕ → ℚ) → ((c : ℕ) → c < n → gives x (suc c) ≡ pushed v (suc c)) → IsAdded v x
      columns_say v x h c l =
          by_pivot (D (suc c)) (inv (D (suc c))) (row x (suc c)) (added v (suc c)) (unit c l)
          (columns_tell n up regular L lower is (λ i. D i *ℚ row x i) (added v) n (omega arith) (same_column v x h) c l)

      -- ---- the rows
      -- two rows by the pivots
      abbrev pub between : ℕ → ℕ → ℚ
      between q t = sum qo n (λ c. (Y q (suc c) *ℚ Y t (suc c)) *ℚ inv (D (suc c)))

      between_symmetric : (q t : ℕ) → between q t ≡ between t q
      between_symmetric q t =
          sum_ext qo n (λ c. (Y q (suc c) *ℚ Y t (suc c)) *ℚ inv (D (suc c))) (λ c. (Y t (suc c) *ℚ Y q (suc c)) *ℚ inv (D (suc c)))
          (λ c l. swapped (Y q (suc c)) (Y t (suc c)) (inv (D (suc c))))

      -- what row q has at the solution without forces
      abbrev pub at_rest : ℕ → ℚ
      at_rest q = sum qo n (λ c. Y q (suc c) *ℚ (w (suc c) *ℚ inv (D (suc c))))

      pub row_at : (v x : ℕ → ℚ) → IsAdded v x → (r : ℕ) → r < R →
          sum qo n (λ c. J (suc r) (suc c) *ℚ x (suc c)) ≡ at_rest (suc r) +ℚ sum qo R (λ t. between (suc r) (suc t) *ℚ v (suc t))
      row_at v x h r l =
          sum_ext qo n (λ c. J (suc r) (suc c) *ℚ x (suc c)) (λ c. col (Y (suc r)) (suc c) *ℚ x (suc c))
          (λ c q. ap (λ t. t *ℚ x (suc c)) (sym (gives_row r (suc c) l (column c q))))
          ∙ transposed (Y (suc r)) x
          ∙ sum_ext qo n (λ c. Y (suc r) (suc c) *ℚ row x (suc c))
          (λ c. Y (suc r) (suc c) *ℚ (w (suc c) *ℚ inv (D (suc c))) +ℚ sum qo R (λ t. v (suc t) *ℚ ((Y (suc r) (suc c) *ℚ Y (suc t) (suc c)) *ℚ inv (D (suc c)))))
          (λ c q. ap (λ t. Y (suc r) (suc c) *ℚ t) (h c q)
          ∙ both (Y (suc r) (suc c)) (w (suc c)) (sum qo R (λ t. Y (suc t) (suc c) *ℚ v (suc t))) (inv (D (suc c)))
          ∙ ap (λ t. Y (suc r) (suc c) *ℚ (w (suc c) *ℚ inv (D (suc c))) +ℚ t)
          (sym (sum-mul rats R (Y (suc r) (suc c) *ℚ inv (D (suc c))) (λ t. Y (suc t) (suc c) *ℚ v (suc t)))
          ∙ sum_ext qo R (λ t. (Y (suc r) (suc c) *ℚ inv (D (suc c))) *ℚ (Y (suc t) (suc c) *ℚ v (suc t))) (λ t. v (suc t) *ℚ ((Y (suc r) (suc c) *ℚ Y (suc t) (suc c)) *ℚ inv (D (suc c))))
          (λ t b. paired (Y (suc r) (suc c)) (inv (D (suc c))) (Y (suc t) (suc c)) (v (suc t)))))
          ∙ sum-add rats n (λ c. Y (suc r) (suc c) *ℚ (w (suc c) *ℚ inv (D (suc c)))) (λ c. sum qo R (λ t. v (suc t) *ℚ ((Y (suc r) (suc c) *ℚ Y (suc t) (suc c)) *ℚ inv (D (suc c)))))
          ∙ ap (λ t. at_rest (suc r) +ℚ t)
          (sum_swap rats n R (λ c t. v (suc t) *ℚ ((Y (suc r) (suc c) *ℚ Y (suc t) (suc c)) *ℚ inv (D (suc c))))
          ∙ sum_ext qo R (λ t. sum qo n (λ c. v (suc t) *ℚ ((Y (suc r) (suc c) *ℚ Y (suc t) (suc c)) *ℚ inv (D (suc c))))) (λ t. between (suc r) (suc t) *ℚ v (suc t))
          (λ t b. sum-mul rats n (v (suc t)) (λ c. (Y (suc r) (suc c) *ℚ Y (suc t) (suc c)) *ℚ inv (D (suc c))) ∙ mul_comm_ℚ (v (suc t)) (between (suc r) (suc t))))

      module _ (mu g : ℕ → ℚ) where
        abbrev pub coupling : ℕ → ℕ → ℚ
        coupling q t = between q t +ℚ own q t (mu q)

        pub coupling_symmetric : (q t : ℕ) → coupling q t ≡ coupling t q
        coupling_symmetric q t = ap₂ ◌+ℚ◌ (between_symmetric q t) (own_symmetric mu q t)

        coupled : (v : ℕ → ℚ) (r : ℕ) → r < R → sum qo R (λ t. coupling (suc r) (suc t) *ℚ v (suc t)) ≡ sum qo R (λ t. between (suc r) (suc t) *ℚ v (suc t)) +ℚ mu (suc r) *ℚ v (suc r)
        coupled v r l =
            sum_ext qo R (λ t. coupling (suc r) (suc t) *ℚ v (suc t)) (λ t. between (suc r) (suc t) *ℚ v (suc t) +ℚ own (suc r) (suc t) (mu (suc r)) *ℚ v (suc t))
            (λ t b. with_own (between (suc r) (suc t)) (own (suc r) (suc t) (mu (suc r))) (v (suc t)))
            ∙ sum-add rats R (λ t. between (suc r) (suc t) *ℚ v (suc t)) (λ t. own (suc r) (suc t) (mu (suc r)) *ℚ v (suc t))
            ∙ ap (λ t. sum qo R (λ t. between (suc r) (suc t) *ℚ v (suc t)) +ℚ t) (sum_own R r (mu (suc r)) v l)

        pub rows_hold : (v x : ℕ → ℚ) → IsAdded v x → (r : ℕ) → r < R → sum qo R (λ t. coupling (suc r) (suc t) *ℚ v (suc t)) ≡ neg_ℚ (g (suc r) +ℚ at_rest (suc r)) →
            (sum qo n (λ c. J (suc r) (suc c) *ℚ x (suc c)) +ℚ g (suc r)) +ℚ mu (suc r) *ℚ v (suc r) ≡ 0ℚ
        rows_hold v x h r l e =
            ap (λ t. (t +ℚ g (suc r)) +ℚ mu (suc r) *ℚ v (suc r)) (row_at v x h r l)
            ∙ row_none (at_rest (suc r)) (sum qo R (λ t. between (suc r) (suc t) *ℚ v (suc t))) (g (suc r)) (mu (suc r) *ℚ v (suc r)) (sym (coupled v r l) ∙ e)

        pub rows_say : (v x : ℕ → ℚ) → IsAdded v x → (r : ℕ) → r < R → (sum qo n (λ c. J (suc r) (suc c) *ℚ x (suc c)) +ℚ g (suc r)) +ℚ mu (suc r) *ℚ v (suc r) ≡ 0ℚ →
            sum qo R (λ t. coupling (suc r) (suc t) *ℚ v (suc t)) ≡ neg_ℚ (g (suc r) +ℚ at_rest (suc r))
        rows_say v x h r l e =
            coupled v r l
            ∙ row_side (at_rest (suc r)) (sum qo R (λ t. between (suc r) (suc t) *ℚ v (suc t))) (g (suc r)) (mu (suc r) *ℚ v (suc r))
            (sym (ap (λ t. (t +ℚ g (suc r)) +ℚ mu (suc r) *ℚ v (suc r)) (row_at v x h r l)) ∙ e)
