-- What the sweep over the columns leaves, and where it is refused.
use Rattle.std.proofs.Common.{◌≡◌, ℕ, zero, suc, ◌+◌, ◌-◌, ◌<◌, ◌≤◌, List, length, slice_set, Result, Ok, Err, inl, inr, refl, sym, ap, ◌∙◌, subst, arith}
use Rattle.std.proofs.lemmas.List.{get_or-set_same, get_or-set_other, length-set}
use Rattle.std.proofs.lemmas.Bool.{cases_lt}
use Rattle.rb_num.specs.Interval.{Interval, zero_interval}
use Rattle.rb_result.proofs.Results.{same_ok, then-ok, then-err, not-both}
use Rattle.rb_sweep.specs.Sweep.{sweep, upward, counting_up}
use Rattle.rb_work.specs.declared.names.RowFault.{RowFault}
use Rattle.rb_work.specs.View.{View, k_at, w_at}
use Rattle.rb_tree.specs.Columns.{column_count}
use Rattle.rb_tree.specs.Robot.{Tree}
use Rattle.rb_tree.specs.State.{Row}
use Rattle.rb_contact.specs.Driving.{k_rule, AreDriving, IsRightSide, IsDrivingRefused, driving_step, driven_of}

-- the work that holds this value of column c
abbrev put : ℕ → Interval → View → View
put c k w = record w { k = slice_set w.k c k; w = slice_set w.w c k }

module _ (row : Row) where
  step_found : (c : ℕ) (w u : View) → driving_step row c w ≡ Ok u → (k : Interval) × (k_rule row c w ≡ Ok k) × (put c k w ≡ u)
  unfolding driving_step
  step_found c w u e =
      let h = then-ok (k_rule row c w) (λ k. Ok (put c k w)) u e in
      (h.0, h.1, same_ok {E = RowFault} (put c h.0 w) u h.2)

  step_refused : (c : ℕ) (w : View) (e : RowFault) → driving_step row c w ≡ Err e → k_rule row c w ≡ Err e
  unfolding driving_step
  step_refused c w e r =
      let ok : View → Result View RowFault = λ u. Ok u in
      elim (then-err (k_rule row c w) (λ k. ok (put c k w)) e r) [
        | inl h ↦ h
        | inr h ↦ absurd (not-both (ok (put c h.0 w)) (put c h.0 w) e refl h.2)
      ]

  -- the rule reads the bias alone
  rule_stays : (c : ℕ) (w : View) (ks ws : List Interval) → k_rule row c (record w { k = ks; w = ws }) ≡ k_rule row c w
  unfolding k_rule
  rule_stays c w ks ws = refl

  record Driven (lo hi : ℕ) (w t : View) : Type 0 where
    rest : t ≡ record w { k = t.k; w = t.w }
    long : length t.w ≡ length w.w
    before_k : (c : ℕ) → c < lo → k_at t c ≡ k_at w c
    before_w : (c : ℕ) → c < lo → w_at t c ≡ w_at w c
    each_k : (c : ℕ) → lo ≤ c → c < hi → k_rule row c w ≡ Ok (k_at t c)
    each_w : (c : ℕ) → lo ≤ c → c < hi → w_at t c ≡ k_at t c

  -- the first column has its value, and then the others
  one_more : (lo hi : ℕ) (k : Interval) (w t : View) → lo < length w.k → lo < length w.w → k_rule row lo w ≡ Ok k → Driven (lo + 1) hi (put lo k w) t → Driven lo hi w t
  one_more lo hi k w t in_k in_w e h =
      let own_k : k_at t lo ≡ k = h.before_k lo (omega arith) ∙ get_or-set_same w.k lo k zero_interval in_k in
      let own_w : w_at t lo ≡ k = h.before_w lo (omega arith) ∙ get_or-set_same w.w lo k zero_interval in_w in
      record {
        rest = h.rest;
        long = h.long ∙ length-set w.w lo k;
        before_k = λ c l. h.before_k c (omega arith) ∙ get_or-set_other w.k lo c k zero_interval (λ same. omega (arith, same));
        before_w = λ c l. h.before_w c (omega arith) ∙ get_or-set_other w.w lo c k zero_interval (λ same. omega (arith, same));
        each_k = λ c low high. elim (cases_lt lo c) [
          | inl l ↦ sym (rule_stays c w (slice_set w.k lo k) (slice_set w.w lo k)) ∙ h.each_k c (omega arith) high
          | inr g ↦ let same : lo ≡ c = omega arith in subst (λ (d : ℕ). k_rule row d w ≡ Ok (k_at t d)) same (e ∙ ap Ok (sym own_k))
        ];
        each_w = λ c low high. elim (cases_lt lo c) [
          | inl l ↦ h.each_w c (omega arith) high
          | inr g ↦ let same : lo ≡ c = omega arith in subst (λ (d : ℕ). w_at t d ≡ k_at t d) same (own_w ∙ sym own_k)
        ];
      }

  driven : (lo n : ℕ) (w t : View) → lo + n ≤ length w.k → lo + n ≤ length w.w → sweep (driving_step row) (counting_up lo n) w ≡ Ok t → Driven lo (lo + n) w t
  driven lo zero w t in_k in_w e =
      let same : w ≡ t = same_ok {E = RowFault} w t e in
      subst (λ (u : View). Driven lo (lo + 0) w u) same
      (record { rest = refl; long = refl; before_k = λ c l. refl; before_w = λ c l. refl; each_k = λ c low high. absurd (omega arith); each_w = λ c low high. absurd (omega arith) })
  driven lo (suc n) w t in_k in_w e =
      let first = then-ok (driving_step row lo w) (λ u. sweep (driving_step row) (counting_up (lo + 1) n) u) t e in
      let value = step_found lo w first.0 first.1 in
      let rest : sweep (driving_step row) (counting_up (lo + 1) n) (put lo value.0 w) ≡ Ok t =
      subst (λ (u : View). sweep (driving_step row) (counting_up (lo + 1) n) u ≡ Ok t) (sym value.2) first.2 in
      let next = driven (lo + 1) n (put lo value.0 w) t (omega (arith, length-set w.k lo value.0)) (omega (arith, length-set w.w lo value.0)) rest in
      let end : lo + 1 + n ≡ lo + suc n = omega arith in
      one_more lo (lo + suc n) value.0 w t (omega arith) (omega arith) value.1 (subst (λ (hi : ℕ). Driven (lo + 1) hi (put lo value.0 w) t) end next)

  record Refused (lo hi : ℕ) (w : View) (e : RowFault) : Type 0 where
    column : ℕ
    from : lo ≤ column
    below : column < hi
    until : (c : ℕ) → lo ≤ c → c < column → (k : Interval) × (k_rule row c w ≡ Ok k)
    refused : k_rule row column w ≡ Err e

  refused_at : (lo n : ℕ) (w : View) (e : RowFault) → sweep (driving_step row) (counting_up lo n) w ≡ Err e → Refused lo (lo + n) w e
  refused_at lo zero w e r = absurd (not-both (Ok w) w e refl r)
  refused_at lo (suc n) w e r =
      elim (then-err (driving_step row lo w) (λ u. sweep (driving_step row) (counting_up (lo + 1) n) u) e r) [
        | inl h ↦ record { column = lo; from = omega arith; below = omega arith; until = λ c low high. absurd (omega arith); refused = step_refused lo w e h }
        | inr h ↦
            let value = step_found lo w h.0 h.1 in
            let later = refused_at (lo + 1) n h.0 e h.2 in
            let same : (c : ℕ) → k_rule row c h.0 ≡ k_rule row c w =
            λ c. ap (λ (u : View). k_rule row c u) (sym value.2) ∙ rule_stays c w (slice_set w.k lo value.0) (slice_set w.w lo value.0) in
            let low : lo + 1 ≤ later.column = later.from in
            let high : later.column < lo + 1 + n = later.below in
            record {
              column = later.column;
              from = omega arith;
              below = omega arith;
              until = λ c l g. elim (cases_lt lo c) [
                | inl k ↦ let v = later.until c (omega arith) g in (v.0, sym (same c) ∙ v.1)
                | inr k ↦ let own : lo ≡ c = omega arith in subst (λ (d : ℕ). (x : Interval) × (k_rule row d w ≡ Ok x)) own (value.0, value.1)
              ];
              refused = sym (same later.column) ∙ later.refused;
            }
      ]

  -- ---- the columns of a robot
  pub record DrivingFound (tree : Tree) (w t : View) : Type 0 where
    pub rest : t ≡ record w { k = t.k; w = t.w }
    pub long : length t.w ≡ length w.w
    pub driving : AreDriving tree row t
    pub right : IsRightSide tree t

  pub driving_found : (tree : Tree) (w t : View) → length w.k ≡ column_count tree.bodies + 1 → length w.w ≡ column_count tree.bodies + 1 → driven_of tree row w ≡ Ok t → DrivingFound tree w t
  unfolding upward
  driving_found tree w t long_k long_w e =
      let n = column_count tree.bodies in
      let h = driven 1 (n + 1 - 1) w t (omega arith) (omega arith) e in
      let same : (c : ℕ) → k_rule row c t ≡ k_rule row c w = λ c. ap (λ (u : View). k_rule row c u) h.rest ∙ rule_stays c w t.k t.w in
      record {
        rest = h.rest;
        long = h.long;
        driving = record { each_k = λ c there. same c ∙ h.each_k c there.from (omega (arith, there.to)) };
        right = record { each_w = λ c there. h.each_w c there.from (omega (arith, there.to)) };
      }

  pub driving_refused : (tree : Tree) (w : View) (e : RowFault) → driven_of tree row w ≡ Err e → IsDrivingRefused tree row w e
  unfolding upward
  driving_refused tree w e r =
      let n = column_count tree.bodies in
      let h = refused_at 1 (n + 1 - 1) w e r in
      let high : h.column < 1 + (n + 1 - 1) = h.below in
      record { column = h.column; there = record { from = h.from; to = omega arith }; until = h.until; refused = h.refused }
