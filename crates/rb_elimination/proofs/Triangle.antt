-- A lower triangular table with ones on its diagonal: what it takes in its columns and in its rows, and that either tells the numbers.
use mathlib.Core.Path.{◌≡◌, refl, sym, ◌∙◌, ap, ap₂, subst}
use mathlib.Core.Logic.{◌⊎◌, inl, inr}
use mathlib.Core.List.{[], ◌∷◌}
use Prim.Native.Nat.{ℕ, zero, suc, ◌<◌, ◌≤◌}
use native.Mathlib.Omega.{arith}
use native.Mathlib.Decide.{ℕ_discrete}
use Rattle.std.proofs.lemmas.Bool.{cases_lt}
use Rattle.rb_frac.proofs.Ring.{var, enul, eone, plus, times, minus, ring}
use Rattle.rb_frac.proofs.Vec.{nth}
use Rattle.rb_frac.proofs.Combine.{combine}
use Rattle.rb_frac.proofs.Sums.{sum, sum-zero, sum-suc, sum_ext}
use Rattle.rb_frac.proofs.Rational.{ℚ, ◌+ℚ◌, ◌*ℚ◌, neg_ℚ, 0ℚ, 1ℚ, qo, rats}
use Rattle.rb_elimination.specs.Paths.{IsColumn, IsRegular, IsAncestor, IsOn}
use Rattle.rb_elimination.specs.Solving.{IsReduced, IsSubstituted}
use Rattle.rb_elimination.proofs.Paths.{is_ancestor, not_on, within_above, no_gap, above_ancestor, column_of, lower_of}
use Rattle.rb_elimination.proofs.Numbers.{rational_steps}
use Rattle.rb_elimination.proofs.Sums.{sum_gap, sum_none}

-- ---- numbers
null_times : (w : ℚ) → 0ℚ *ℚ w ≡ 0ℚ
null_times w = ring rats (nth 0ℚ (w ∷ [])) (times enul (var 0)) enul refl

none_and_one : (w : ℚ) → 0ℚ +ℚ 1ℚ *ℚ w ≡ w
none_and_one w = ring rats (nth 0ℚ (w ∷ [])) (plus enul (times eone (var 0))) (var 0) refl

and_one : (s w : ℚ) → s +ℚ 1ℚ *ℚ w ≡ s +ℚ w
and_one s w = ring rats (nth 0ℚ (s ∷ w ∷ [])) (plus (var 0) (times eone (var 1))) (plus (var 0) (var 1)) refl

and_none : (s w : ℚ) → s +ℚ 0ℚ *ℚ w ≡ s
and_none s w = ring rats (nth 0ℚ (s ∷ w ∷ [])) (plus (var 0) (times enul (var 1))) (var 0) refl

put_back : (a l w : ℚ) → (a +ℚ neg_ℚ (l *ℚ w)) +ℚ l *ℚ w ≡ a
put_back a l w = ring rats (nth 0ℚ (a ∷ l ∷ w ∷ [])) (plus (plus (var 0) (minus (times (var 1) (var 2)))) (times (var 1) (var 2))) (var 0) refl

put_back_last : (p l x y : ℚ) → ((p +ℚ neg_ℚ (l *ℚ x)) +ℚ neg_ℚ y) +ℚ l *ℚ x ≡ p +ℚ neg_ℚ y
put_back_last p l x y = ring rats (nth 0ℚ (p ∷ l ∷ x ∷ y ∷ [])) (plus (plus (plus (var 0) (minus (times (var 1) (var 2)))) (minus (var 3))) (times (var 1) (var 2))) (plus (var 0) (minus (var 3))) refl

less_itself : (x : ℚ) → 0ℚ ≡ x +ℚ neg_ℚ x
less_itself x = ring rats (nth 0ℚ (x ∷ [])) enul (plus (var 0) (minus (var 0))) refl

less_and_more : (p x : ℚ) → (p +ℚ neg_ℚ x) +ℚ x ≡ p
less_and_more p x = ring rats (nth 0ℚ (p ∷ x ∷ [])) (plus (plus (var 0) (minus (var 1))) (var 1)) (var 0) refl

-- what is the same with the same added is the same
cancel_last : (a b l u v : ℚ) → a +ℚ l *ℚ u ≡ b +ℚ l *ℚ v → u ≡ v → a ≡ b
cancel_last a b l u v h k = combine rats (nth 0ℚ (a ∷ b ∷ l ∷ u ∷ v ∷ [])) (var 0) (var 1) (
    record { by = eone; left = plus (var 0) (times (var 2) (var 3)); right = plus (var 1) (times (var 2) (var 4)) } ∷
    record { by = minus (var 2); left = var 3; right = var 4 } ∷ []
    ) refl (h, (k, tt))

cancel_first : (a b x y : ℚ) → a +ℚ x ≡ b +ℚ y → a ≡ b → x ≡ y
cancel_first a b x y h k = combine rats (nth 0ℚ (a ∷ b ∷ x ∷ y ∷ [])) (var 2) (var 3) (
    record { by = eone; left = plus (var 0) (var 2); right = plus (var 1) (var 3) } ∷
    record { by = minus eone; left = var 0; right = var 1 } ∷ []
    ) refl (h, (k, tt))

-- ---- the table
pub record IsTriangle (n : ℕ) (up : ℕ → ℕ) (L lower : ℕ → ℕ → ℚ) : Type 0 where
  pub diagonal : (c : ℕ) → IsColumn n c → lower c c ≡ 1ℚ
  pub ancestors : (c d : ℕ) → IsColumn n c → IsAncestor up c d → lower c d ≡ L c d
  pub others : (c d : ℕ) → IsColumn n c → IsColumn n d → ¬ IsOn up c d → lower c d ≡ 0ℚ

module _ (n : ℕ) (up : ℕ → ℕ) (regular : IsRegular n up) (L lower : ℕ → ℕ → ℚ) (is : IsTriangle n up L lower) where
  column : (c : ℕ) → c < n → IsColumn n (suc c)
  column c l = record { from = omega arith; to = omega arith }

  pub zero_right : (c d : ℕ) → IsColumn n c → IsColumn n d → c < d → lower c d ≡ 0ℚ
  zero_right c d h k l = is.others c d h k (not_on n up regular c d h l)

  pub zero_apart : (c d : ℕ) → IsColumn n c → IsColumn n d → d < c → ¬ IsAncestor up c d → lower c d ≡ 0ℚ
  zero_apart c d h k l m = is.others c d h k (λ o. elim o [ inl q ↦ absurd (omega (arith, q)) | inr a ↦ m a ])

  -- ---- columns: what the first c rows take of the numbers w in column d
  abbrev pub taken : (ℕ → ℚ) → ℕ → ℕ → ℚ
  taken w c d = sum qo c (λ k. lower (suc k) d *ℚ w (suc k))

  pub taken_own : (w : ℕ → ℚ) (c : ℕ) → c < n → taken w (suc c) (suc c) ≡ w (suc c)
  taken_own w c l =
      sum-suc qo c (λ k. lower (suc k) (suc c) *ℚ w (suc k))
      ∙ ap₂ ◌+ℚ◌
      (sum_none c (λ k. lower (suc k) (suc c) *ℚ w (suc k)) (λ k q. ap (λ t. t *ℚ w (suc k)) (zero_right (suc k) (suc c) (column k (omega arith)) (column c l) (omega arith)) ∙ null_times (w (suc k))))
      (ap (λ t. t *ℚ w (suc c)) (is.diagonal (suc c) (column c l)))
      ∙ none_and_one (w (suc c))

  module _ (right : ℕ → ℚ) (left : ℕ → ℕ → ℚ) (w : ℕ → ℚ) (h : IsReduced rational_steps n up L right left w) where
    taken_next : (c d : ℕ) → c < n → IsColumn c d → Dec (IsAncestor up (suc c) d) → taken w c d ≡ left c d → taken w (suc c) d ≡ left (suc c) d
    taken_next c d l k (yes a) e =
        sum-suc qo c (λ k. lower (suc k) d *ℚ w (suc k))
        ∙ ap₂ ◌+ℚ◌ (e ∙ h.updates c d l a) (ap (λ t. t *ℚ w (suc c)) (is.ancestors (suc c) d (column c l) a))
        ∙ put_back (left (suc c) d) (L (suc c) d) (w (suc c))
    taken_next c d l k (no m) e =
        let t : d ≤ c = k.to in
        let there : IsColumn n d = record { from = k.from; to = omega arith } in
        sum-suc qo c (λ k. lower (suc k) d *ℚ w (suc k))
        ∙ ap₂ ◌+ℚ◌ (e ∙ h.others c d l k m) (ap (λ t. t *ℚ w (suc c)) (zero_apart (suc c) d (column c l) there (omega arith) m))
        ∙ and_none (left (suc c) d) (w (suc c))

    taken_step : (c d : ℕ) → c < n → IsColumn (suc c) d → (IsColumn c d → taken w c d ≡ left c d) → Dec (d ≡ suc c) → taken w (suc c) d ≡ left (suc c) d
    taken_step c d l k below (yes e) = subst (λ t. taken w (suc c) t ≡ left (suc c) t) (sym e) (taken_own w c l ∙ h.result (suc c) (column c l))
    taken_step c d l k below (no m) =
        let t : d ≤ suc c = k.to in
        let there : IsColumn c d = record { from = k.from; to = omega (arith, m) } in
        taken_next c d l there (is_ancestor n up regular (suc c) d (column c l)) (below there)

    taken_left : (c d : ℕ) → c ≤ n → IsColumn c d → taken w c d ≡ left c d
    taken_left zero d l k = absurd (omega (arith, k.from, k.to))
    taken_left (suc c) d l k = taken_step c d l k (λ there. taken_left c d (omega arith) there) (ℕ_discrete d (suc c))

    -- the columns of w give the right side
    pub reduced_gives : (c : ℕ) → IsColumn n c → taken w n c ≡ right c
    reduced_gives c k = taken_left n c (omega arith) k ∙ h.first c k

  -- the columns tell the numbers
  module _ (u v : ℕ → ℚ) where
    same_own : (c : ℕ) → c < n → taken u (suc c) (suc c) ≡ taken v (suc c) (suc c) → u (suc c) ≡ v (suc c)
    same_own c l e = sym (taken_own u c l) ∙ e ∙ taken_own v c l

    same_rest : (c d : ℕ) → taken u (suc c) d ≡ taken v (suc c) d → u (suc c) ≡ v (suc c) → taken u c d ≡ taken v c d
    same_rest c d e o =
        cancel_last (taken u c d) (taken v c d) (lower (suc c) d) (u (suc c)) (v (suc c))
        (sym (sum-suc qo c (λ k. lower (suc k) d *ℚ u (suc k))) ∙ e ∙ sum-suc qo c (λ k. lower (suc k) d *ℚ v (suc k))) o

    pub columns_tell : (c : ℕ) → c ≤ n → ((d : ℕ) → IsColumn c d → taken u c d ≡ taken v c d) → (k : ℕ) → k < c → u (suc k) ≡ v (suc k)
    columns_tell zero l h k q = absurd (omega arith)
    columns_tell (suc c) l h k q =
        let own : u (suc c) ≡ v (suc c) = same_own c l (h (suc c) (record { from = omega arith; to = omega arith })) in
        elim (ℕ_discrete k c) [
          | yes e ↦ subst (λ t. u (suc t) ≡ v (suc t)) (sym e) own
          | no m ↦ columns_tell c (omega arith) (λ d there. same_rest c d (h d (record { from = there.from; to = omega (arith, there.to) })) own) k (omega (arith, m))
        ]

  -- ---- rows: what the first b columns take of the numbers x in row c
  abbrev pub along : (ℕ → ℚ) → ℕ → ℕ → ℚ
  along x c b = sum qo b (λ d. lower c (suc d) *ℚ x (suc d))

  pub along_own : (x : ℕ → ℚ) (c : ℕ) → c < n → along x (suc c) n ≡ along x (suc c) c +ℚ x (suc c)
  along_own x c l =
      sum_gap (suc c) n (λ d. lower (suc c) (suc d) *ℚ x (suc d)) (omega arith)
      (λ d p q. ap (λ t. t *ℚ x (suc d)) (zero_right (suc c) (suc d) (column c l) (column d q) (omega arith)) ∙ null_times (x (suc d)))
      ∙ sum-suc qo c (λ d. lower (suc c) (suc d) *ℚ x (suc d))
      ∙ ap (λ t. along x (suc c) c +ℚ t *ℚ x (suc c)) (is.diagonal (suc c) (column c l))
      ∙ and_one (along x (suc c) c) (x (suc c))

  -- no column that is no ancestor takes anything
  along_gap : (x : ℕ → ℚ) (c a b : ℕ) → IsColumn n c → a ≤ b → b < c → ((d : ℕ) → a < d → d ≤ b → ¬ IsAncestor up c d) → along x c b ≡ along x c a
  along_gap x c a b h l s m =
      let t : c ≤ n = h.to in
      sum_gap a b (λ d. lower c (suc d) *ℚ x (suc d)) l
      (λ d p q. ap (λ t. t *ℚ x (suc d)) (zero_apart c (suc d) h (column d (omega arith)) (omega arith) (m (suc d) (omega arith) (omega arith))) ∙ null_times (x (suc d)))

  -- from the column above a column on
  pub along_above : (x : ℕ → ℚ) (c : ℕ) → c < n → along x (suc c) c ≡ along x (suc c) (up (suc c))
  along_above x c l =
      let u : up (suc c) < suc c = regular (suc c) (column c l) in
      along_gap x (suc c) (up (suc c)) c (column c l) (omega arith) (omega arith)
      (λ d p q a. let g : d ≤ up (suc c) = within_above n up regular (suc c) d (column c l) a in absurd (omega arith))

  -- and from one ancestor to the next
  pub along_next : (x : ℕ → ℚ) (c e : ℕ) → IsColumn n c → IsAncestor up c (suc e) → along x c (suc e) ≡ along x c (up (suc e)) +ℚ L c (suc e) *ℚ x (suc e)
  along_next x c e h a =
      let s : suc e < c = lower_of n up regular c (suc e) h a in
      let u : up (suc e) < suc e = regular (suc e) (column_of n up regular c (suc e) h a) in
      sum-suc qo e (λ d. lower c (suc d) *ℚ x (suc d))
      ∙ ap₂ ◌+ℚ◌
      (along_gap x c (up (suc e)) e h (omega arith) (omega arith) (λ d p q b. let g : d ≤ up (suc e) = no_gap n up regular c d (suc e) h a b (omega arith) in absurd (omega arith)))
      (ap (λ t. t *ℚ x (suc e)) (is.ancestors c (suc e) h a))

  module _ (z : ℕ → ℚ) (part : ℕ → ℕ → ℚ) (x : ℕ → ℚ) (h : IsSubstituted rational_steps n up L z part x) where
    -- what is left before an ancestor has its turn, or at the end
    part_at : (k c e : ℕ) → e ≤ k → IsColumn n c → (e ≡ 0) ⊎ IsAncestor up c e → along x c e ≡ part c e +ℚ neg_ℚ (x c)
    part_at k c zero l there a = sum-zero qo (λ d. lower c (suc d) *ℚ x (suc d)) ∙ less_itself (x c) ∙ ap (λ t. t +ℚ neg_ℚ (x c)) (h.result c there)
    part_at zero c (suc e) l there a = absurd (omega arith)
    part_at (suc k) c (suc e) l there (inl q) = absurd (omega (arith, q))
    part_at (suc k) c (suc e) l there (inr a) =
        let u : up (suc e) < suc e = regular (suc e) (column_of n up regular c (suc e) there a) in
        let next : (up (suc e) ≡ 0) ⊎ IsAncestor up c (up (suc e)) =
        elim (cases_lt 0 (up (suc e))) [ inl p ↦ inr (above_ancestor up c (suc e) a p) | inr g ↦ inl (omega arith) ] in
        along_next x c e there a
        ∙ ap (λ t. t +ℚ L c (suc e) *ℚ x (suc e)) (part_at k c (up (suc e)) (omega arith) there next ∙ ap (λ t. t +ℚ neg_ℚ (x c)) (h.updates c (suc e) there a))
        ∙ put_back_last (part c (suc e)) (L c (suc e)) (x (suc e)) (x c)

    -- the rows of x give z
    pub substituted_gives : (c : ℕ) → c < n → along x (suc c) n ≡ z (suc c)
    substituted_gives c l =
        let there : IsColumn n (suc c) = column c l in
        let next : (up (suc c) ≡ 0) ⊎ IsAncestor up (suc c) (up (suc c)) =
        elim (cases_lt 0 (up (suc c))) [ inl p ↦ inr (IsAncestor.next p) | inr g ↦ inl (omega arith) ] in
        along_own x c l
        ∙ ap (λ t. t +ℚ x (suc c)) (along_above x c l ∙ part_at (up (suc c)) (suc c) (up (suc c)) (omega arith) there next)
        ∙ less_and_more (part (suc c) (up (suc c))) (x (suc c)) ∙ h.first (suc c) there

  -- the rows tell the numbers
  module _ (x y : ℕ → ℚ) (h : (c : ℕ) → c < n → along x (suc c) n ≡ along y (suc c) n) where
    same_next : (c : ℕ) → c < n → ((d : ℕ) → d < c → x (suc d) ≡ y (suc d)) → x (suc c) ≡ y (suc c)
    same_next c l below =
        cancel_first (along x (suc c) c) (along y (suc c) c) (x (suc c)) (y (suc c)) (sym (along_own x c l) ∙ h c l ∙ along_own y c l)
        (sum_ext qo c (λ d. lower (suc c) (suc d) *ℚ x (suc d)) (λ d. lower (suc c) (suc d) *ℚ y (suc d)) (λ d q. ap (λ t. lower (suc c) (suc d) *ℚ t) (below d q)))

    same_below : (k c : ℕ) → k ≤ n → c < k → x (suc c) ≡ y (suc c)
    same_below zero c l q = absurd (omega arith)
    same_below (suc k) c l q =
        elim (ℕ_discrete c k) [
          | yes e ↦ subst (λ t. x (suc t) ≡ y (suc t)) (sym e) (same_next k l (λ d p. same_below k d (omega arith) p))
          | no m ↦ same_below k c (omega arith) (omega (arith, m))
        ]

    pub rows_tell : (c : ℕ) → c < n → x (suc c) ≡ y (suc c)
    rows_tell c l = same_below n c (omega arith) l
