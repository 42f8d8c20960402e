-- The elimination of a symmetric table, from row 1 on, finds the one solution of its equations.
use Rattle.std.proofs.Common.{◌≡◌, ℕ, zero, suc, ◌+◌, ◌-◌, ◌<◌, ◌≤◌, [], ◌∷◌, refl, sym, ◌∙◌, ap, ap₂, subst, arith}
use native.Mathlib.Decide.{ℕ_discrete}
use Rattle.rb_frac.proofs.Ring.{var, eone, plus, times, minus, ring}
use Rattle.rb_frac.proofs.Vec.{nth}
use Rattle.rb_frac.proofs.Combine.{combine}
use Rattle.rb_frac.proofs.Rational.{ℚ, ◌+ℚ◌, ◌*ℚ◌, neg_ℚ, 0ℚ, 1ℚ, inv, rats, mul_inv, add_nul}
use Rattle.rb_bordered.proofs.Tails.{tail, tail_ext, tail_next, tail_none, tail_mul, tail_less}

-- ---- numbers
swapped : (a b w x i y : ℚ) → a ≡ b → a +ℚ neg_ℚ ((x *ℚ i) *ℚ y) ≡ b +ℚ neg_ℚ ((y *ℚ i) *ℚ x)
swapped a b w x i y e = combine rats (nth 0ℚ (a ∷ b ∷ x ∷ i ∷ y ∷ [])) (plus (var 0) (minus (times (times (var 2) (var 3)) (var 4)))) (plus (var 1) (minus (times (times (var 4) (var 3)) (var 2)))) (
    record { by = eone; left = var 0; right = var 1 } ∷ []
    ) refl (e, tt)

-- a row with its first entry, of the row lessened and the pivot's row
row_step : (p e a x s u : ℚ) → p *ℚ e ≡ 1ℚ → a *ℚ x +ℚ s ≡ (s +ℚ neg_ℚ ((a *ℚ e) *ℚ u)) +ℚ (a *ℚ e) *ℚ (p *ℚ x +ℚ u)
row_step p e a x s u h = combine rats (nth 0ℚ (p ∷ e ∷ a ∷ x ∷ s ∷ u ∷ []))
    (plus (times (var 2) (var 3)) (var 4))
    (plus (plus (var 4) (minus (times (times (var 2) (var 1)) (var 5)))) (times (times (var 2) (var 1)) (plus (times (var 0) (var 3)) (var 5)))) (
    record { by = minus (times (var 2) (var 3)); left = times (var 0) (var 1); right = eone } ∷ []
    ) refl (h, tt)

own_row : (p e x u : ℚ) → p *ℚ e ≡ 1ℚ → p *ℚ x +ℚ u ≡ p *ℚ (x +ℚ e *ℚ u)
own_row p e x u h = combine rats (nth 0ℚ (p ∷ e ∷ x ∷ u ∷ []))
    (plus (times (var 0) (var 2)) (var 3)) (times (var 0) (plus (var 2) (times (var 1) (var 3)))) (
    record { by = minus (var 3); left = times (var 0) (var 1); right = eone } ∷ []
    ) refl (h, tt)

turned : (w e v : ℚ) → (w *ℚ e) *ℚ v ≡ e *ℚ (w *ℚ v)
turned w e v = ring rats (nth 0ℚ (w ∷ e ∷ v ∷ [])) (times (times (var 0) (var 1)) (var 2)) (times (var 1) (times (var 0) (var 2))) refl

put_back : (a l w : ℚ) → (a +ℚ neg_ℚ (l *ℚ w)) +ℚ l *ℚ w ≡ a
put_back a l w = ring rats (nth 0ℚ (a ∷ l ∷ w ∷ [])) (plus (plus (var 0) (minus (times (var 1) (var 2)))) (times (var 1) (var 2))) (var 0) refl

take_away : (a b l w : ℚ) → a ≡ b +ℚ l *ℚ w → b ≡ a +ℚ neg_ℚ (l *ℚ w)
take_away a b l w e = combine rats (nth 0ℚ (a ∷ b ∷ l ∷ w ∷ [])) (var 1) (plus (var 0) (minus (times (var 2) (var 3)))) (
    record { by = minus eone; left = var 0; right = plus (var 1) (times (var 2) (var 3)) } ∷ []
    ) refl (e, tt)

part_back : (p l x t y : ℚ) → p +ℚ neg_ℚ (l *ℚ y) ≡ x +ℚ t → p ≡ x +ℚ (l *ℚ y +ℚ t)
part_back p l x t y e = combine rats (nth 0ℚ (p ∷ l ∷ x ∷ t ∷ y ∷ [])) (var 0) (plus (var 2) (plus (times (var 1) (var 4)) (var 3))) (
    record { by = eone; left = plus (var 0) (minus (times (var 1) (var 4))); right = plus (var 2) (var 3) } ∷ []
    ) refl (e, tt)

cancel : (a b s : ℚ) → a +ℚ s ≡ b +ℚ s → a ≡ b
cancel a b s e = combine rats (nth 0ℚ (a ∷ b ∷ s ∷ [])) (var 0) (var 1) (
    record { by = eone; left = plus (var 0) (var 2); right = plus (var 1) (var 2) } ∷ []
    ) refl (e, tt)

times_pivot : (p e a : ℚ) → p *ℚ e ≡ 1ℚ → p *ℚ (a *ℚ e) ≡ a
times_pivot p e a h = combine rats (nth 0ℚ (p ∷ e ∷ a ∷ [])) (times (var 0) (times (var 2) (var 1))) (var 2) (
    record { by = var 2; left = times (var 0) (var 1); right = eone } ∷ []
    ) refl (h, tt)

by_pivot : (p e a b : ℚ) → p *ℚ e ≡ 1ℚ → p *ℚ a ≡ b → a ≡ b *ℚ e
by_pivot p e a b h k = combine rats (nth 0ℚ (p ∷ e ∷ a ∷ b ∷ [])) (var 2) (times (var 3) (var 1)) (
    record { by = var 1; left = times (var 0) (var 2); right = var 3 } ∷
    record { by = minus (var 2); left = times (var 0) (var 1); right = eone } ∷ []
    ) refl (k, (h, tt))

-- ---- the whole table
module _ (start : ℕ → ℕ → ℚ) where
  -- what is left of the whole table when the rows 1 to r are gone
  pub whole : ℕ → ℕ → ℕ → ℚ
  whole zero q t = start q t
  whole (suc r) q t = whole r q t +ℚ neg_ℚ ((whole r q (suc r) *ℚ inv (whole r (suc r) (suc r))) *ℚ whole r t (suc r))

  pub whole_start : (q t : ℕ) → whole 0 q t ≡ start q t
  unfolding whole
  whole_start q t = refl

  pub whole_next : (r q t : ℕ) → whole (suc r) q t ≡ whole r q t +ℚ neg_ℚ ((whole r q (suc r) *ℚ inv (whole r (suc r) (suc r))) *ℚ whole r t (suc r))
  unfolding whole
  whole_next r q t = refl

  module _ (symmetric : (q t : ℕ) → start q t ≡ start t q) where
    pub whole_symmetric : (r q t : ℕ) → whole r q t ≡ whole r t q
    whole_symmetric zero q t = whole_start q t ∙ symmetric q t ∙ sym (whole_start t q)
    whole_symmetric (suc r) q t =
        whole_next r q t
        ∙ swapped (whole r q t) (whole r t q) 0ℚ (whole r q (suc r)) (inv (whole r (suc r) (suc r))) (whole r t (suc r)) (whole_symmetric r q t)
        ∙ sym (whole_next r t q)

    module _ (R : ℕ) (l : ℕ → ℕ → ℚ) (C : ℕ → ℚ) (pivot_is : (r : ℕ) → r < R → C (suc r) ≡ whole r (suc r) (suc r))
        (quotient_is : (r q : ℕ) → suc r < q → q ≤ R → l q (suc r) ≡ whole r q (suc r) *ℚ inv (C (suc r))) (pivots : (r : ℕ) → r < R → ¬ (C (suc r) ≡ 0ℚ)) where
      unit : (r : ℕ) → r < R → C (suc r) *ℚ inv (C (suc r)) ≡ 1ℚ
      unit r b = mul_inv (C (suc r)) (pivots r b)

      module _ (v : ℕ → ℚ) where
        -- what row q of the table gives at v
        abbrev pub gives : ℕ → ℕ → ℚ
        gives r q = tail R r (λ t. whole r q t *ℚ v t)

        -- what the pivot's column gives at the later rows
        abbrev later : ℕ → ℚ
        later r = tail R (suc r) (λ t. whole r t (suc r) *ℚ v t)

        pivot_row : (r : ℕ) → r < R → gives r (suc r) ≡ C (suc r) *ℚ v (suc r) +ℚ later r
        pivot_row r b =
            tail_next R r (λ t. whole r (suc r) t *ℚ v t) b
            ∙ ap₂ (λ a s. a *ℚ v (suc r) +ℚ s) (sym (pivot_is r b))
            (tail_ext R (suc r) (λ t. whole r (suc r) t *ℚ v t) (λ t. whole r t (suc r) *ℚ v t) (λ t p q. ap (λ a. a *ℚ v t) (whole_symmetric r (suc r) t)))

        left_row : (r q : ℕ) → r < R → gives (suc r) q ≡ tail R (suc r) (λ t. whole r q t *ℚ v t) +ℚ neg_ℚ ((whole r q (suc r) *ℚ inv (C (suc r))) *ℚ later r)
        left_row r q b =
            tail_ext R (suc r) (λ t. whole (suc r) q t *ℚ v t) (λ t. (whole r q t +ℚ neg_ℚ ((whole r q (suc r) *ℚ inv (C (suc r))) *ℚ whole r t (suc r))) *ℚ v t)
            (λ t p k. ap (λ a. a *ℚ v t) (whole_next r q t ∙ ap (λ c. whole r q t +ℚ neg_ℚ ((whole r q (suc r) *ℚ inv c) *ℚ whole r t (suc r))) (sym (pivot_is r b))))
            ∙ tail_less R (suc r) (λ t. whole r q t) (λ t. whole r t (suc r)) v (whole r q (suc r) *ℚ inv (C (suc r)))

        -- one step
        gives_next : (r q : ℕ) → suc r < q → q ≤ R → gives r q ≡ gives (suc r) q +ℚ l q (suc r) *ℚ gives r (suc r)
        gives_next r q b k =
            let there : r < R = omega arith in
            tail_next R r (λ t. whole r q t *ℚ v t) there
            ∙ row_step (C (suc r)) (inv (C (suc r))) (whole r q (suc r)) (v (suc r)) (tail R (suc r) (λ t. whole r q t *ℚ v t)) (later r) (unit r there)
            ∙ ap₂ (λ a s. a +ℚ (whole r q (suc r) *ℚ inv (C (suc r))) *ℚ s) (sym (left_row r q there)) (sym (pivot_row r there))
            ∙ ap (λ a. gives (suc r) q +ℚ a *ℚ gives r (suc r)) (sym (quotient_is r q b k))

        -- a pivot's row, by its quotients
        own_is : (r : ℕ) → r < R → gives r (suc r) ≡ C (suc r) *ℚ (v (suc r) +ℚ tail R (suc r) (λ t. l t (suc r) *ℚ v t))
        own_is r b =
            pivot_row r b
            ∙ own_row (C (suc r)) (inv (C (suc r))) (v (suc r)) (later r) (unit r b)
            ∙ ap (λ a. C (suc r) *ℚ (v (suc r) +ℚ a))
            (sym (tail_mul R (suc r) (inv (C (suc r))) (λ t. whole r t (suc r) *ℚ v t))
            ∙ tail_ext R (suc r) (λ t. inv (C (suc r)) *ℚ (whole r t (suc r) *ℚ v t)) (λ t. l t (suc r) *ℚ v t)
            (λ t p k. sym (turned (whole r t (suc r)) (inv (C (suc r))) (v t)) ∙ ap (λ a. a *ℚ v t) (sym (quotient_is r t p k))))

        module _ (left : ℕ → ℕ → ℚ) (updates : (r q : ℕ) → suc r < q → q ≤ R → left (suc r) q ≡ left r q +ℚ neg_ℚ (l q (suc r) *ℚ left r (suc r))) where
          -- the right sides from the first row on, where all rows are given
          pub go_down : ((q : ℕ) → 0 < q → q ≤ R → gives 0 q ≡ left 0 q) → (r q : ℕ) → r < q → q ≤ R → gives r q ≡ left r q
          go_down h zero q b k = h q b k
          go_down h (suc r) q b k =
              take_away (gives r q) (gives (suc r) q) (l q (suc r)) (gives r (suc r)) (gives_next r q b k)
              ∙ ap₂ (λ a s. a +ℚ neg_ℚ (l q (suc r) *ℚ s)) (go_down h r q (omega arith) k) (go_down h r (suc r) (omega arith) (omega arith))
              ∙ sym (updates r q b k)

          -- and back, where the pivots' rows are given
          pub go_up : ((r : ℕ) → r < R → gives r (suc r) ≡ left r (suc r)) → (d r q : ℕ) → suc (r + d) ≡ q → q ≤ R → gives r q ≡ left r q
          go_up h zero r q e k =
              let s : suc r ≡ q = omega (arith, e) in
              subst (λ t. gives r t ≡ left r t) s (h r (omega (arith, e)))
          go_up h (suc d) r q e k =
              let b : suc r < q = omega (arith, e) in
              let n : suc (suc r + d) ≡ q = omega (arith, e) in
              gives_next r q b k
              ∙ ap₂ (λ a s. a +ℚ l q (suc r) *ℚ s) (go_up h d (suc r) q n k ∙ updates r q b k) (h r (omega arith))
              ∙ put_back (left r q) (l q (suc r)) (left r (suc r))

      -- ---- solutions
      module _ (e : ℕ → ℚ) (left : ℕ → ℕ → ℚ) (divided : ℕ → ℚ)
          (first : (q : ℕ) → 0 < q → q ≤ R → left 0 q ≡ e q)
          (updates : (r q : ℕ) → suc r < q → q ≤ R → left (suc r) q ≡ left r q +ℚ neg_ℚ (l q (suc r) *ℚ left r (suc r)))
          (divides : (r : ℕ) → r < R → divided (suc r) ≡ left r (suc r) *ℚ inv (C (suc r))) where
        -- v solves the triangular equations
        abbrev pub IsBack : (ℕ → ℚ) → Type 0
        IsBack v = (r : ℕ) → r < R → v (suc r) +ℚ tail R (suc r) (λ t. l t (suc r) *ℚ v t) ≡ divided (suc r)

        pub back_solves : (v : ℕ → ℚ) → IsBack v → (q : ℕ) → q < R → gives v 0 (suc q) ≡ e (suc q)
        back_solves v h q b =
            go_up v left updates
            (λ r k. own_is v r k ∙ ap (λ t. C (suc r) *ℚ t) (h r k ∙ divides r k) ∙ times_pivot (C (suc r)) (inv (C (suc r))) (left r (suc r)) (unit r k))
            q 0 (suc q) (omega arith) (omega arith)
            ∙ first (suc q) (omega arith) (omega arith)

        pub solves_back : (v : ℕ → ℚ) → ((q : ℕ) → 0 < q → q ≤ R → gives v 0 q ≡ e q) → IsBack v
        solves_back v h r b =
            by_pivot (C (suc r)) (inv (C (suc r))) (v (suc r) +ℚ tail R (suc r) (λ t. l t (suc r) *ℚ v t)) (left r (suc r)) (unit r b)
            (sym (own_is v r b) ∙ go_down v left updates (λ q p k. h q p k ∙ sym (first q p k)) r (suc r) (omega arith) (omega arith))
            ∙ sym (divides r b)

        back_same : (u v : ℕ → ℚ) → IsBack u → IsBack v → (d r t : ℕ) → R ≤ r + d → r < t → t ≤ R → u t ≡ v t
        back_same u v h g zero r t b p k = absurd (omega arith)
        back_same u v h g (suc d) r t b p k =
            elim (ℕ_discrete t (suc r)) [
              | yes e ↦ let there : r < R = omega arith in
                  subst (λ j. u j ≡ v j) (sym e)
                  (cancel (u (suc r)) (v (suc r)) (tail R (suc r) (λ j. l j (suc r) *ℚ v j))
                  (ap (λ s. u (suc r) +ℚ s)
                  (tail_ext R (suc r) (λ j. l j (suc r) *ℚ v j) (λ j. l j (suc r) *ℚ u j)
                  (λ j a c. ap (λ s. l j (suc r) *ℚ s) (sym (back_same u v h g d (suc r) j (omega arith) a c))))
                  ∙ h r there ∙ sym (g r there)))
              | no m ↦ back_same u v h g d (suc r) t (omega arith) (omega (arith, m)) k
            ]

        pub back_one : (u v : ℕ → ℚ) → IsBack u → IsBack v → (t : ℕ) → 0 < t → t ≤ R → u t ≡ v t
        back_one u v h g t p k = back_same u v h g R 0 t (omega arith) p k

-- ---- from the last row down
module _ (R : ℕ) (l : ℕ → ℕ → ℚ) (divided : ℕ → ℚ) (part : ℕ → ℕ → ℚ) (lam : ℕ → ℚ)
    (first : (r : ℕ) → r < R → part (suc r) (suc (suc r)) ≡ divided (suc r)) (result : (r : ℕ) → r < R → lam (suc r) ≡ part (suc r) (suc R))
    (updates : (r q : ℕ) → r < R → suc r < q → q ≤ R → part (suc r) (suc q) ≡ part (suc r) q +ℚ neg_ℚ (l q (suc r) *ℚ lam q)) where
  part_is : (r d t : ℕ) → r < R → r < t → t + d ≡ R → part (suc r) (suc t) ≡ lam (suc r) +ℚ tail R t (λ q. l q (suc r) *ℚ lam q)
  part_is r zero t b p e =
      let s : t ≡ R = omega (arith, e) in
      subst (λ j. part (suc r) (suc j) ≡ lam (suc r) +ℚ tail R j (λ q. l q (suc r) *ℚ lam q)) (sym s)
      (sym (ap (λ a. lam (suc r) +ℚ a) (tail_none R (λ q. l q (suc r) *ℚ lam q)) ∙ add_nul (lam (suc r)) ∙ result r b))
  part_is r (suc d) t b p e =
      let n : suc t + d ≡ R = omega (arith, e) in
      let k : t < R = omega (arith, e) in
      part_back (part (suc r) (suc t)) (l (suc t) (suc r)) (lam (suc r)) (tail R (suc t) (λ q. l q (suc r) *ℚ lam q)) (lam (suc t))
      (sym (updates r (suc t) b (omega arith) (omega arith)) ∙ part_is r d (suc t) b (omega arith) n)
      ∙ ap (λ a. lam (suc r) +ℚ a) (sym (tail_next R t (λ q. l q (suc r) *ℚ lam q) k))

  pub forces_back : (r : ℕ) → r < R → lam (suc r) +ℚ tail R (suc r) (λ t. l t (suc r) *ℚ lam t) ≡ divided (suc r)
  forces_back r b =
      let d : (k : ℕ) × (suc r + k ≡ R) = (R - suc r, omega arith) in
      sym (part_is r d.0 (suc r) b (omega arith) d.1) ∙ first r b
