-- A sweep that puts at each place of one table what a rule gives that does not read this table: what it leaves, and where it is refused.
use Rattle.std.proofs.Common.{◌≡◌, ◌≢◌, ℕ, zero, suc, ◌+◌, ◌-◌, ◌<◌, ◌≤◌, List, [], ◌∷◌, Result, Ok, Err, inl, inr, refl, sym, ap, ◌∙◌, subst, arith}
use Rattle.std.proofs.lemmas.Bool.{cases_lt}
use Rattle.rb_num.specs.Interval.{Interval}
use Rattle.rb_result.specs.Steps.{◌>>=◌}
use Rattle.rb_result.proofs.Results.{same_ok, then-ok, then-err, not-both}
use Rattle.rb_sweep.specs.Sweep.{sweep, upward, counting_up}
use Rattle.rb_work.specs.declared.names.RowFault.{RowFault}
use Rattle.rb_work.specs.View.{View}

-- the table by its places, how long it is, all else of the work, the work with one more value, and what the rule gives for each place
pub record Table : Type 0 where
  pub at : View → ℕ → Interval
  pub long : View → ℕ
  pub rest : View → View
  pub put : ℕ → Interval → View → View
  pub rule : ℕ → View → Result Interval RowFault

abbrev step_of : Table → ℕ → View → Result View RowFault
step_of p n w = p.rule n w >>= λ x. Ok (p.put n x w)

pub record IsTable (p : Table) : Type 0 where
  pub same : (n : ℕ) (x : Interval) (w : View) → n < p.long w → p.at (p.put n x w) n ≡ x
  pub other : (n m : ℕ) (x : Interval) (w : View) → m ≢ n → p.at (p.put n x w) m ≡ p.at w m
  pub keeps : (n : ℕ) (x : Interval) (w : View) → p.long (p.put n x w) ≡ p.long w
  pub apart : (n : ℕ) (x : Interval) (w : View) → p.rest (p.put n x w) ≡ p.rest w
  pub stays : (n m : ℕ) (x : Interval) (w : View) → p.rule m (p.put n x w) ≡ p.rule m w

module _ (p : Table) (h : IsTable p) (step : ℕ → View → Result View RowFault) (is : (n : ℕ) (w : View) → step n w ≡ step_of p n w) where
  step_found : (n : ℕ) (w u : View) → step n w ≡ Ok u → (x : Interval) × (p.rule n w ≡ Ok x) × (p.put n x w ≡ u)
  step_found n w u e =
      let f = then-ok (p.rule n w) (λ x. Ok (p.put n x w)) u (sym (is n w) ∙ e) in
      (f.0, f.1, same_ok {E = RowFault} (p.put n f.0 w) u f.2)

  step_refused : (n : ℕ) (w : View) (e : RowFault) → step n w ≡ Err e → p.rule n w ≡ Err e
  step_refused n w e r =
      let ok : View → Result View RowFault = λ u. Ok u in
      elim (then-err (p.rule n w) (λ x. ok (p.put n x w)) e (sym (is n w) ∙ r)) [
        | inl f ↦ f
        | inr f ↦ absurd (not-both (ok (p.put n f.0 w)) (p.put n f.0 w) e refl f.2)
      ]

  record Passed (lo hi : ℕ) (w t : View) : Type 0 where
    before : (n : ℕ) → n < lo → p.at t n ≡ p.at w n
    each : (n : ℕ) → lo ≤ n → n < hi → p.rule n w ≡ Ok (p.at t n)
    reads : (n : ℕ) → p.rule n t ≡ p.rule n w

  -- the first place has its value, and then the others
  one_more : (lo hi : ℕ) (x : Interval) (w t : View) → lo < p.long w → p.rule lo w ≡ Ok x → Passed (lo + 1) hi (p.put lo x w) t → Passed lo hi w t
  one_more lo hi x w t within e g =
      let own : p.at t lo ≡ x = g.before lo (omega arith) ∙ h.same lo x w within in
      record {
        before = λ n l. g.before n (omega arith) ∙ h.other lo n x w (λ same. omega (arith, same));
        each = λ n low high. elim (cases_lt lo n) [
          | inl l ↦ sym (h.stays lo n x w) ∙ g.each n (omega arith) high
          | inr g ↦ let same : lo ≡ n = omega arith in subst (λ (d : ℕ). p.rule d w ≡ Ok (p.at t d)) same (e ∙ ap Ok (sym own))
        ];
        reads = λ n. g.reads n ∙ h.stays lo n x w;
      }

  passed : (lo n : ℕ) (w t : View) → lo + n ≤ p.long w → sweep step (counting_up lo n) w ≡ Ok t → Passed lo (lo + n) w t
  passed lo zero w t within e =
      let same : w ≡ t = same_ok {E = RowFault} w t e in
      subst (λ (u : View). Passed lo (lo + 0) w u) same (record { before = λ c l. refl; each = λ c low high. absurd (omega arith); reads = λ c. refl })
  passed lo (suc n) w t within e =
      let first = then-ok (step lo w) (λ u. sweep step (counting_up (lo + 1) n) u) t e in
      let value = step_found lo w first.0 first.1 in
      let rest : sweep step (counting_up (lo + 1) n) (p.put lo value.0 w) ≡ Ok t = subst (λ (u : View). sweep step (counting_up (lo + 1) n) u ≡ Ok t) (sym value.2) first.2 in
      let long : p.long (p.put lo value.0 w) ≡ p.long w = h.keeps lo value.0 w in
      let next = passed (lo + 1) n (p.put lo value.0 w) t (omega (arith, long)) rest in
      let end : lo + 1 + n ≡ lo + suc n = omega arith in
      one_more lo (lo + suc n) value.0 w t (omega arith) value.1 (subst (λ (hi : ℕ). Passed (lo + 1) hi (p.put lo value.0 w) t) end next)

  record Refused (lo hi : ℕ) (w : View) (e : RowFault) : Type 0 where
    place : ℕ
    from : lo ≤ place
    below : place < hi
    until : (n : ℕ) → lo ≤ n → n < place → (x : Interval) × (p.rule n w ≡ Ok x)
    refused : p.rule place w ≡ Err e

  refused_at : (lo n : ℕ) (w : View) (e : RowFault) → sweep step (counting_up lo n) w ≡ Err e → Refused lo (lo + n) w e
  refused_at lo zero w e r = absurd (not-both (Ok w) w e refl r)
  refused_at lo (suc n) w e r =
      elim (then-err (step lo w) (λ u. sweep step (counting_up (lo + 1) n) u) e r) [
        | inl f ↦ record { place = lo; from = omega arith; below = omega arith; until = λ c low high. absurd (omega arith); refused = step_refused lo w e f }
        | inr f ↦
            let value = step_found lo w f.0 f.1 in
            let later = refused_at (lo + 1) n f.0 e f.2 in
            let same : (c : ℕ) → p.rule c f.0 ≡ p.rule c w = λ c. ap (λ (u : View). p.rule c u) (sym value.2) ∙ h.stays lo c value.0 w in
            let low : lo + 1 ≤ later.place = later.from in
            let high : later.place < lo + 1 + n = later.below in
            record {
              place = later.place;
              from = omega arith;
              below = omega arith;
              until = λ c l g. elim (cases_lt lo c) [
                | inl k ↦ let v = later.until c (omega arith) g in (v.0, sym (same c) ∙ v.1)
                | inr k ↦ let own : lo ≡ c = omega arith in subst (λ (d : ℕ). (x : Interval) × (p.rule d w ≡ Ok x)) own (value.0, value.1)
              ];
              refused = sym (same later.place) ∙ later.refused;
            }
      ]

  -- how long the table is, and all else, stays as it is
  pub record Kept (w t : View) : Type 0 where
    pub long : p.long t ≡ p.long w
    pub rest : p.rest t ≡ p.rest w

  pub kept : (ns : List ℕ) (w t : View) → sweep step ns w ≡ Ok t → Kept w t
  kept [] w t e = let same : w ≡ t = same_ok {E = RowFault} w t e in record { long = ap p.long (sym same); rest = ap p.rest (sym same) }
  kept (n ∷ ns) w t e =
      let first = then-ok (step n w) (λ u. sweep step ns u) t e in
      let value = step_found n w first.0 first.1 in
      let later = kept ns first.0 t first.2 in
      record {
        long = later.long ∙ ap p.long (sym value.2) ∙ h.keeps n value.0 w;
        rest = later.rest ∙ ap p.rest (sym value.2) ∙ h.apart n value.0 w;
      }

  -- ---- over the places from 1 to n
  pub pass_found : (n : ℕ) (w t : View) → n < p.long w → sweep step (upward 1 (n + 1)) w ≡ Ok t → (c : ℕ) → 1 ≤ c → c ≤ n → p.rule c t ≡ Ok (p.at t c)
  unfolding upward
  pass_found n w t within e c low high =
      let g = passed 1 (n + 1 - 1) w t (omega arith) e in
      g.reads c ∙ g.each c low (omega arith)

  pub record PassRefused (n : ℕ) (w : View) (e : RowFault) : Type 0 where
    pub place : ℕ
    pub from : 1 ≤ place
    pub to : place ≤ n
    pub until : (c : ℕ) → 1 ≤ c → c < place → (x : Interval) × (p.rule c w ≡ Ok x)
    pub refused : p.rule place w ≡ Err e

  pub pass_refused : (n : ℕ) (w : View) (e : RowFault) → sweep step (upward 1 (n + 1)) w ≡ Err e → PassRefused n w e
  unfolding upward
  pass_refused n w e r =
      let g = refused_at 1 (n + 1 - 1) w e r in
      let high : g.place < 1 + (n + 1 - 1) = g.below in
      record { place = g.place; from = g.from; to = omega arith; until = g.until; refused = g.refused }
